-- Raising over the tables of a line with every latest waived tells what a plan of the line costs: the same minutes keep it, they cost the same, and none are
-- late.
use Rattle.std.specs.Prelude.{ℕ, ◌≤◌, ◌≡◌, true, List, Option, None}
use Rattle.std.proofs.Common.{sym, ◌∙◌, arith}
use Rattle.finite.specs.DecideLaws.{is_true}
use Rattle.line.specs.declared.Line.{Line}
use Rattle.line.specs.Within.{Arrays}
use Rattle.line.specs.Runnable.{Runnable}
use Rattle.rules.specs.Statement.Delay.{weighted_delay}
use Rattle.orders.specs.LeastMinutes.Least.{Fit, NoneKeeps}
use Rattle.orders.specs.LeastMinutes.LeastLaws.{least-alike}
use Rattle.orders.specs.Plan.Choices.{Choice}
use Rattle.orders.specs.Plan.Marks.{Plan, also}
use Rattle.orders.specs.Plan.Plans.{Keeps}
use Rattle.orders.specs.Plan.PlansLaws.{keeps_rest}
use Rattle.orders.specs.Waived.WaivedLine.{waived}
use Rattle.orders.specs.Waived.WaivedLaws.{waived_runnable, waived_arrays, waived_timely, waived_directions, waived-delay, keeps_waived, waived_keeps, fitting_waived, tidy_waived}
use Rattle.orders.specs.Lift.Lifting.{told_cost}
use Rattle.plans.specs.Instance.Planning.{in_time}
use Rattle.plans.proofs.Instance.PlanningLaws.{decides_in_time}
use Rattle.orders.specs.LeastMinutes.Carried.{start, Carried, TellsCost}
use Rattle.orders.specs.LeastMinutes.CarriedLaws.{start_below, tells_cost}
use Rattle.plans.specs.Clauses.Choosing.{Chooses, NoRaise, Raises}
use Rattle.plans.specs.Clauses.WayCosts.{ChoosesWaived}
use Rattle.plans.specs.declared.ways.Way.{Way}

module _ (l : Line) (w : Runnable l) (a : Arrays l) where
  in_time_lem : (m : List ℕ) → Fit 352 m → in_time (waived l) m ≡ true
  in_time_lem m z = is_true (decides_in_time (waived l) m) (waived_timely l w a m z.within)

  carried_waived : (p : Plan) (m : List ℕ) (cost : ℕ) → Carried l p m cost → Carried (waived l) p m cost
  carried_waived p m cost h =
      record {
        least = least-alike 352 (Keeps l p) (Keeps (waived l) p) (keeps_waived l w a p) (waived_keeps l w a p) start m h.least;
        cost_is = h.cost_is ∙ sym (waived-delay l w a m);
      }

  waived_carried : (p : Plan) (m : List ℕ) (cost : ℕ) → Carried (waived l) p m cost → Carried l p m cost
  waived_carried p m cost h =
      record {
        least = least-alike 352 (Keeps (waived l) p) (Keeps l p) (waived_keeps l w a p) (keeps_waived l w a p) start m h.least;
        cost_is = h.cost_is ∙ waived-delay l w a m;
      }

module _ (l : Line) (c : Choice) (p : Plan) (m marks t ds : List ℕ) (way : Way) (cost : ℕ) (h : ChoosesWaived l c p m marks t ds way cost) where
  pub waived_chooses : Chooses (waived l) c p m marks t ds way cost
  waived_chooses =
      let w = h.runnable in
      let a = h.arrays in
      record {
        raisable = record {
          runnable = waived_runnable l w a;
          arrays = waived_arrays l w a;
          tables = h.tables;
          directions = h.directions ∙ sym (waived_directions l w a);
        };
        planned = record {
          carried = carried_waived l w a p m cost h.carried;
          tidy = tidy_waived l w a p h.tidy;
          timely = in_time_lem l w a m h.carried.least.fit;
        };
        fitting = fitting_waived l w a c h.fitting;
        marks_are = h.marks_are;
        told = h.told;
      }

  -- where the cut cuts nothing off
  pub raises_tells : (cut : ℕ) → ((m' : List ℕ) → Fit 352 m' → weighted_delay l m' ≤ cut) → (n : List ℕ) (r : Option ℕ) → Raises (waived l) c p m cut n r →
      TellsCost l (also c p) n r
  unfolding NoRaise
  raises_tells cut all n r k =
      tells_cost l h.runnable h.arrays (also c p) n r (λ v. waived_carried l h.runnable h.arrays (also c p) n (told_cost r) (k.carried v)) none
    where
      none : r ≡ None → NoneKeeps 352 (Keeps l (also c p)) start
      none e m' z q up =
          k.none e m' z (keeps_waived l h.runnable h.arrays (also c p) m' q)
          (h.carried.least.first m' z (keeps_rest l c p m' q) (start_below m'))
          (in_time_lem l h.runnable h.arrays m' z)
          (omega (arith, waived-delay l h.runnable h.arrays m', all m' z))
