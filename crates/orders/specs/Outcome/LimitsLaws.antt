-- An arrival within its limit: in minutes that keep rules 11 and 12 all arrivals are within theirs exactly where rule 13 holds.
use Rattle.std.specs.Prelude.{ℕ, zero, suc, ◌+◌, ◌-◌, ◌≤◌, ◌≡◌, List, get_or}
use Rattle.std.proofs.Common.{ap}
use native.Mathlib.Omega.{arith}
use Rattle.line.specs.declared.Line.{Line}
use Rattle.line.specs.Within.{Arrays}
use Rattle.line.specs.Runnable.{Runnable}
use Rattle.rules.specs.Statement.Paths.{train, legs, segment_of, EachTrain}
use Rattle.rules.specs.Statement.Minutes.{departs, arrival, last_arrival}
use Rattle.rules.specs.Statement.Rules.{Runs, Stops, TrainRules, NotLate}
use Rattle.rules.specs.StatementLaws.PathsLaws.{routed, legs_few}
use Rattle.rules.specs.Conflict.Directions.{directions_of}
use Rattle.orders.specs.LineTables.Tables.{limit_in, rest_of, tables_of}
use Rattle.orders.specs.LineTables.TableLegsLaws.{limit_at}
use Rattle.orders.specs.Graph.LegGraph.{InLimits}
use Rattle.orders.specs.Graph.LegsLaws.{train-leg, by_leg}

-- from the arrival after leg k the train needs the runs and stops of the j legs after it
rest_fits : (l : Line) (m : List ℕ) (i : ℕ) → Runs l m i → Stops l m i → (j k : ℕ) → k + j + 1 ≡ legs l i →
    arrival l m i k + rest_of l i j ≤ last_arrival l m i
unfolding rest_of
rest_fits l m i runs stops zero k e =
    let last : k ≡ legs l i - 1 = omega arith in
    omega (arith, ap (λ (x : ℕ). arrival l m i x) last)
rest_fits l m i runs stops (suc j) k e =
    let stop : legs l i - 2 - j ≡ k = omega arith in
    let run : legs l i - 1 - j ≡ k + 1 = omega arith in
    rw (stop, run) (omega (arith, rest_fits l m i runs stops j (k + 1) (omega arith), stops k (omega arith), runs (k + 1) (omega arith)))

module _ (l : Line) (w : Runnable l) (r : Arrays l) (m : List ℕ) where
  pub limits_late : InLimits (tables_of l) (directions_of l) m → EachTrain l (NotLate l m)
  unfolding rest_of
  limits_late h i n =
      let some = (legs_few (train l i) (routed l i w r.trains n)).0 in
      let k = legs l i - 1 in
      let none : legs l i - 1 - k ≡ 0 = omega arith in
      omega (arith, h (departs (segment_of (train l i) k) i) (train-leg l w r i n k (omega arith)), rw none at (limit_at l w r i k n (omega arith)))

  pub late_limits : EachTrain l (TrainRules l m) → EachTrain l (NotLate l m) → InLimits (tables_of l) (directions_of l) m
  late_limits rules late =
      by_leg l w r (λ e. get_or m (176 + e) 0 ≤ limit_in (tables_of l) e)
      (λ i k n h. omega (arith, limit_at l w r i k n h, late i n, rest_fits l m i (rules i n).rule11 (rules i n).rule12 (legs l i - 1 - k) k (omega arith)))
