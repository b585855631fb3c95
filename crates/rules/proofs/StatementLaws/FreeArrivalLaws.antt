-- Free arrival is the earliest possible (document 02, K1): no minutes that keep a train's own rules arrive before it (`no_earlier` in `DelayLaws`), and
-- those arrive then in which it departs on each leg as soon as its stop is over and its booking has come.
use Rattle.std.specs.Prelude.{◌≡◌, ℕ, zero, suc, ◌+◌, ◌-◌, ◌/◌, ◌%◌, ◌<◌, ◌≤◌, cond, List, length, nat_lt, slice_index, refl}
use Rattle.std.proofs.Common.{◌∙◌, ap, add-one, arith, lt-ltb, le-ltb}
use Rattle.finite.specs.Below.{EachBelow, table}
use Rattle.finite.specs.BelowLaws.{table_at}
use Rattle.line.specs.declared.Line.{Line}
use Rattle.line.specs.Runnable.{Runnable}
use Rattle.rules.specs.Statement.Paths.{train, legs, run_of, segment_of, leg_on, Routed, EachLeg}
use Rattle.rules.specs.Statement.Minutes.{departs, arrives, departure, arrival}
use Rattle.rules.specs.Statement.Bookings.{floor_of}
use Rattle.rules.specs.Statement.Rules.{TrainRules}
use Rattle.rules.specs.Statement.Delay.{EarliestArrival, free_after, free_arrival}
use Rattle.rules.specs.StatementLaws.PathsLaws.{routed, legs_few, segment_below, leg_back}
use Rattle.rules.specs.StatementLaws.BookingsLaws.{kept_floors, booked_leg, floor_first}
use Rattle.rules.proofs.StatementLaws.DelayLaws.{free-least}
use Rattle.rules.specs.Check.RulesLaws.{free-start, free-next}

module _ (l : Line) (i : ℕ) where
  pub run-free : (k : ℕ) → run_of l i k ≤ free_after l i k
  run-free zero = omega (arith, free-start l i)
  run-free (suc k) = rw (← add-one) (omega (arith, free-next l i k))

  -- train i departs and arrives in these minutes as it does alone on the line
  abbrev pub RunsFree : List ℕ → Type 0
  RunsFree m = EachLeg l i (λ k. (departure l m i k ≡ free_after l i k - run_of l i k) × (arrival l m i k ≡ free_after l i k))

  module _ (w : Runnable l) (some : 1 ≤ legs l i) (m : List ℕ) (h : RunsFree m) where
    free_floors : EachBelow (legs l i) (λ k. floor_of l i k ≤ departure l m i k)
    free_floors zero b = omega (arith, floor_first l w i)
    free_floors (suc k) b = rw (← add-one) (omega (arith, (h (k + 1) (omega arith)).0, free-next l i k))

    -- then it keeps its own rules
    pub free_kept : TrainRules l m i
    free_kept =
        record {
          rule10 = omega (arith, (h 0 some).0, free-start l i);
          rule11 = λ k b. omega (arith, (h k b).0, (h k b).1, run-free k);
          rule12 = λ k b. omega (arith, (h k (omega arith)).1, (h (k + 1) (omega arith)).0, free-next l i k);
          rule18 = kept_floors l m i (booked_leg l w i) free_floors;
        }

-- ---- minutes in which it does

-- departures in the first half, arrivals in the second, each at the segment of its leg
abbrev alone_at : Line → ℕ → ℕ → ℕ → ℕ
alone_at l i x k = cond (nat_lt x 176) (free_after l i k - run_of l i k) (free_after l i k)

abbrev alone_minutes : Line → ℕ → List ℕ
alone_minutes l i = table (λ x. alone_at l i x (leg_on (train l i) (x % 176 / 16))) 352

module _ (l : Line) (w : Runnable l) (size : length l.traffic.trains ≡ 12) (i : ℕ) (n : i < l.traffic.train_count) where
  path : Routed (train l i)
  path = routed l i w size n

  some : 1 ≤ legs l i
  some = (legs_few (train l i) path).0

  module _ (k : ℕ) (b : k < legs l i) where
    alone_at_lem : (x : ℕ) → x < 352 → x % 176 ≡ departs (segment_of (train l i) k) i → slice_index (alone_minutes l i) x ≡ alone_at l i x k
    alone_at_lem x c e =
        let on : x % 176 / 16 ≡ segment_of (train l i) k = omega (arith, w.trains.1) in
        table_at _ 352 x c ∙ ap (alone_at l i x) (ap (leg_on (train l i)) on ∙ leg_back (train l i) path k b)

    below : departs (segment_of (train l i) k) i < 176
    below = omega (arith, segment_below (train l i) path k b, w.trains.1)

    alone_leg : (departure l (alone_minutes l i) i k ≡ free_after l i k - run_of l i k) × (arrival l (alone_minutes l i) i k ≡ free_after l i k)
    alone_leg =
        let d = departs (segment_of (train l i) k) i in
        let a = arrives (segment_of (train l i) k) i in (
          alone_at_lem d (omega (arith, below)) (omega (arith, below)) ∙ rw (lt-ltb d 176 below) refl,
          alone_at_lem a (omega (arith, below)) (omega (arith, below)) ∙ rw (le-ltb a 176 (omega arith)) refl,
        )

  -- "Free arrival becomes the earliest possible last arrival of the train alone on the line, bookings kept"
  pub free_earliest : EarliestArrival l i (free_arrival l i)
  free_earliest =
      record {
        minutes = alone_minutes l i;
        kept = free_kept l i w some (alone_minutes l i) alone_leg;
        arrives = (alone_leg (legs l i - 1) (omega (arith, some))).1;
        earliest = λ m h. free-least l m i h w n;
      }
