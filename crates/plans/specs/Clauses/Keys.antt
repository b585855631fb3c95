-- The departures by which timetables of equal delay are compared, as the program has them: through a table of their entries, made once for a line.
use Rattle.std.specs.Prelude.{ℕ, ◌/◌, ◌%◌, Bool, true, cond, List, get_or, ltb, eqb, Option, Some, None}
use Rattle.finite.specs.Below.{table}
use Rattle.line.specs.declared.Line.{Line}
use Rattle.orders.specs.LeastMinutes.PlanArcs.{departs_at}
use Rattle.plans.specs.Theory.Ranking.{ahead_from}
use Rattle.plans.specs.Instance.Planning.{is_leg}
use Rattle.plans.specs.declared.tally.Tally.{Tally}

-- the entry of leg k of train i, or 176 where there is none
unfoldable pub key_entry : Line → ℕ → ℕ → ℕ
key_entry l i k = cond (is_leg l i k) (departs_at l i k) 176

unfoldable pub key_of : Line → List ℕ
key_of l = table (λ e. key_entry l (e / 11) (e % 11)) 132

-- the departure that comes as number e
unfoldable pub minute_at : List ℕ → List ℕ → ℕ → ℕ
minute_at key m e = cond (ltb (get_or key e 0) 176) (get_or m (get_or key e 0) 0) 0

unfoldable pub keyed : List ℕ → List ℕ → List ℕ
keyed key m = table (minute_at key m) 132

-- the minutes m, which cost this, are better than the best so far
abbrev pub better_than : List ℕ → List ℕ → ℕ → List ℕ → Option ℕ → Bool
better_than key m cost best None = true
better_than key m cost best (Some c) = cond (eqb cost c) (ahead_from 132 0 (keyed key m) (keyed key best)) (ltb cost c)

unfoldable pub better_by : List ℕ → List ℕ → ℕ → List ℕ → Tally → Bool
better_by key m cost best y = better_than key m cost best y.delay
