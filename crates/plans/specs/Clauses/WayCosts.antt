-- The contract of what a way costs, in time or not: raising over the tables of the line with every latest waived, and without a cut, finds no minutes only
-- where the plan with the way's choice has none up to 2,879.
use Rattle.std.specs.Prelude.{ℕ, ◌≡◌, List, Option}
use Rattle.line.specs.declared.Line.{Line}
use Rattle.line.specs.Within.{Arrays}
use Rattle.line.specs.Runnable.{Runnable}
use Rattle.rules.specs.Conflict.Directions.{directions_of}
use Rattle.orders.specs.Plan.Choices.{Choice}
use Rattle.orders.specs.Plan.Marks.{Plan, also}
use Rattle.orders.specs.Plan.TidyPlans.{Fitting, Tidy}
use Rattle.orders.specs.LineTables.Tables.{tables_of}
use Rattle.orders.specs.Waived.WaivedLine.{waived}
use Rattle.orders.specs.LeastMinutes.Carried.{Carried, TellsCost}
use Rattle.plans.specs.Clauses.WaysTold.{Tells}
use Rattle.plans.specs.declared.ways.Way.{Way}

-- as `Chooses`, of a plan that may break rule 13
pub record ChoosesWaived (l : Line) (c : Choice) (p : Plan) (m marks t ds : List ℕ) (way : Way) (cost : ℕ) : Type 0 where
  pub runnable : Runnable l
  pub arrays : Arrays l
  pub tables : t ≡ tables_of (waived l)
  pub directions : ds ≡ directions_of l
  pub carried : Carried l p m cost
  pub tidy : Tidy l p
  pub fitting : Fitting l c
  pub marks_are : marks ≡ also c p
  pub told : Tells ds c way

pub record CanCost (m marks t ds : List ℕ) (way : Way) (cost : ℕ) : Type 0 where
  pub line : Line
  pub choice : Choice
  pub plan : Plan
  pub chooses : ChoosesWaived line choice plan m marks t ds way cost

abbrev pub CostsWay : List ℕ → List ℕ → List ℕ → List ℕ → Way → ℕ → List ℕ → Option ℕ → Type 0
CostsWay m marks t ds way cost n r =
    (l : Line) (c : Choice) (p : Plan) → ChoosesWaived l c p m marks t ds way cost → TellsCost l (also c p) n r
