-- What is known of a plan, and the contracts of raising for a choice: the line is not among the parameters, so each says what it needs for some line and
-- what it gives for every line of which that holds.
use Rattle.std.specs.Prelude.{ℕ, ◌≤◌, ◌<◌, ◌≡◌, true, List, Option, None}
use Rattle.line.specs.declared.Line.{Line}
use Rattle.line.specs.Within.{Within, Arrays}
use Rattle.line.specs.Runnable.{Runnable}
use Rattle.rules.specs.declared.conflicts.Layout.{Layout}
use Rattle.rules.specs.Statement.Delay.{weighted_delay}
use Rattle.rules.specs.Conflict.Directions.{directions_of}
use Rattle.rules.specs.Conflict.Conflicts.{layout_of}
use Rattle.orders.specs.LeastMinutes.NoLater.{◌⊑◌}
use Rattle.orders.specs.LeastMinutes.Least.{Fit}
use Rattle.orders.specs.Plan.Choices.{Choice, KeepsChoice}
use Rattle.orders.specs.Plan.Marks.{Plan, also}
use Rattle.orders.specs.Plan.Plans.{Keeps}
use Rattle.orders.specs.Plan.TidyPlans.{Fitting, Tidy}
use Rattle.orders.specs.LineTables.Tables.{tables_of}
use Rattle.orders.specs.Lift.Lifting.{Alive, told_cost}
use Rattle.plans.specs.Instance.Planning.{in_time}
use Rattle.plans.specs.Clauses.Keys.{key_of}
use Rattle.orders.specs.LeastMinutes.Carried.{Carried}
use Rattle.plans.specs.Clauses.Tallies.{Tallied}
use Rattle.plans.specs.Clauses.WaysTold.{Tells}
use Rattle.plans.specs.declared.tally.Tally.{Tally}
use Rattle.plans.specs.declared.ways.Way.{Way}

-- ---- what is known of a plan

-- what raising reads is made from the line, and the line's trains can be run
pub record Raisable (l : Line) (t ds : List ℕ) : Type 0 where
  pub runnable : Runnable l
  pub arrays : Arrays l
  pub tables : t ≡ tables_of l
  pub directions : ds ≡ directions_of l

-- a search goes through lines within the limits alone
pub record Tabled (l : Line) (t ds : List ℕ) : Type 0 where
  pub within : Within l
  pub raisable : Raisable l t ds

-- a plan to go on with: its marks fit the line, and its least minutes are in time and have this cost
pub record Planned (l : Line) (marks m : List ℕ) (cost : ℕ) : Type 0 where
  pub carried : Carried l marks m cost
  pub tidy : Tidy l marks
  pub timely : in_time l m ≡ true

pub record Given (l : Line) (m marks best t ds key : List ℕ) (layout : Layout) (cost : ℕ) (y : Tally) : Type 0 where
  pub tabled : Tabled l t ds
  pub keys : key ≡ key_of l
  pub layout_is : layout ≡ layout_of l
  pub planned : Planned l marks m cost
  pub tallied : Tallied l best y

-- ---- raising for a choice

-- the marks are those of the plan p with the choice c, which the way tells; m and the cost are the plan's
pub record Chooses (l : Line) (c : Choice) (p : Plan) (m marks t ds : List ℕ) (way : Way) (cost : ℕ) : Type 0 where
  pub raisable : Raisable l t ds
  pub planned : Planned l p m cost
  pub fitting : Fitting l c
  pub marks_are : marks ≡ also c p
  pub told : Tells ds c way

pub record CanRaise (m marks t ds : List ℕ) (way : Way) (cost cut : ℕ) : Type 0 where
  pub line : Line
  pub choice : Choice
  pub plan : Plan
  pub chooses : Chooses line choice plan m marks t ds way cost

-- no minutes of the plan with the choice are in time and cost no more than the cut
unfoldable pub NoRaise : Line → Choice → Plan → List ℕ → ℕ → Type 0
NoRaise l c p m cut = (m' : List ℕ) → Fit 352 m' → Keeps l (also c p) m' → m ⊑ m' → in_time l m' ≡ true → weighted_delay l m' ≤ cut → ⊥

-- n has the least minutes of the plan with the choice, and r what they cost; or there are none in time within the cut. Whatever the answer, no minutes that
-- keep this plan are before n; so what raising had carried when it ended early is no more than they cost (`dropped_low` in `NextPlansLaws`).
pub record Raises (l : Line) (c : Choice) (p : Plan) (m : List ℕ) (cut : ℕ) (n : List ℕ) (r : Option ℕ) : Type 0 where
  pub carried : Alive r → Carried l (also c p) n (told_cost r)
  pub timely : Alive r → in_time l n ≡ true
  pub none : r ≡ None → NoRaise l c p m cut
  pub low : (m' : List ℕ) → Fit 352 m' → Keeps l (also c p) m' → n ⊑ m'

-- there are none, as a first look shows
abbrev pub Fails : List ℕ → List ℕ → List ℕ → List ℕ → Way → ℕ → ℕ → Type 0
Fails m marks t ds way cost cut = (l : Line) (c : Choice) (p : Plan) → Chooses l c p m marks t ds way cost → NoRaise l c p m cut

abbrev pub RaisesChoice : List ℕ → List ℕ → List ℕ → List ℕ → Way → ℕ → ℕ → List ℕ → Option ℕ → Type 0
RaisesChoice m marks t ds way cost cut n r = (l : Line) (c : Choice) (p : Plan) → Chooses l c p m marks t ds way cost → Raises l c p m cut n r

-- this is a way out, and the minutes do not go it
pub record IsWay (l : Line) (m ds : List ℕ) (c : Choice) (way : Way) : Type 0 where
  pub fitting : Fitting l c
  pub open_yet : KeepsChoice l m c → ⊥
  pub told : Tells ds c way
