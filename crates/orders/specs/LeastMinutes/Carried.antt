-- A plan with what its least minutes cost, which is carried along from plan to plan and not worked out anew (document 02, K3).
use Rattle.std.specs.Prelude.{ℕ, ◌≡◌, List, replicate, Option}
use Rattle.line.specs.declared.Line.{Line}
use Rattle.rules.specs.Statement.Delay.{weighted_delay}
use Rattle.orders.specs.LeastMinutes.Least.{Least, minutes, none, IsLeast}
use Rattle.orders.specs.LeastMinutes.PlanArcs.{least}
use Rattle.orders.specs.Plan.Marks.{Plan}
use Rattle.orders.specs.Plan.Plans.{Keeps}
use Rattle.orders.specs.Lift.Lifting.{Alive, told_cost}

-- all minutes 0, from which on the least are sought
unfoldable pub start : List ℕ
start = replicate 352 0

-- "A plan is a set of .. choices with the least minutes that meet them and rules 10 to 12": the least of all from 0 on, whatever plan it was made from. "At
-- every plan with least minutes up to 2,879 the carried sum is shown to be their weighted delay", also where they break rule 13 or cost more than the best so
-- far.
pub record Carried (l : Line) (p : Plan) (m : List ℕ) (cost : ℕ) : Type 0 where
  pub least : IsLeast 352 (Keeps l p) start m
  pub cost_is : cost ≡ weighted_delay l m

-- the same by definition: what a plan costs, and 4,294,967,295 where it has no least minutes up to 2,879 (`carried_cost` in `CarriedLaws`)
abbrev pub cost_of : Line → Least → ℕ
cost_of l (minutes m) = weighted_delay l m
cost_of l none = 4294967295

unfoldable pub plan_cost : Line → Plan → ℕ
plan_cost l p = cost_of l (least l p start)

-- an answer that tells just this, with the least minutes beside it where there are any
pub record TellsCost (l : Line) (p : Plan) (n : List ℕ) (r : Option ℕ) : Type 0 where
  pub cost_is : told_cost r ≡ plan_cost l p
  pub least : Alive r → IsLeast 352 (Keeps l p) start n
