-- The plan without choices, from which the search starts: each train alone on the line, from its earliest on.
use Rattle.std.specs.Prelude.{ℕ, ◌-◌, ◌%◌, ◌≤◌, ◌≡◌, true, false, cond, List, ltb}
use Rattle.finite.specs.Below.{table}
use Rattle.line.specs.declared.Line.{Line}
use Rattle.rules.specs.Statement.Paths.{train, run_of, EachTrain}
use Rattle.rules.specs.Statement.Rules.{NotLate}
use Rattle.rules.specs.Statement.Delay.{free_after, free_arrival, weighted_delay}
use Rattle.orders.specs.declared.first.FirstPlan.{FirstPlan}
use Rattle.orders.specs.LeastMinutes.NoLater.{◌⊑◌, WithinDays}
use Rattle.orders.specs.LeastMinutes.Least.{Fit}
use Rattle.orders.specs.LeastMinutes.Carried.{Carried}
use Rattle.orders.specs.Plan.Marks.{free}
use Rattle.orders.specs.Plan.Plans.{Keeps}
use Rattle.orders.specs.LineTables.Tables.{on_leg}

-- the minute of leg k of train i at entry x: its departure in the first half of the minutes, its arrival in the second
abbrev pub leg_minute : Line → ℕ → ℕ → ℕ → ℕ
leg_minute l x i k = cond (ltb x 176) (free_after l i k - run_of l i k) (free_after l i k)

-- the minutes of the trains alone on the line; 0 at entries of no leg
unfoldable pub free_entry : Line → ℕ → ℕ
free_entry l x = on_leg l (leg_minute l x) 0 (x % 176)

unfoldable pub free_minutes : Line → List ℕ
free_minutes l = table (free_entry l) 352

-- each train, alone on the line, arrives in time
abbrev pub FreeInTime : Line → Type 0
FreeInTime l = EachTrain l (λ i. free_arrival l i ≤ (train l i).latest)

-- the first plan: no minutes that keep it are before these, so they are its least where they are up to 2,879, and else it has none. They are in time, or none
-- are.
pub record IsFirstPlan (l : Line) (r : FirstPlan) : Type 0 where
  pub carried : WithinDays r.minutes → Carried l free r.minutes r.cost
  -- past 2,879, where there is no plan to carry it, too
  pub cost_is : r.cost ≡ weighted_delay l r.minutes
  pub low : (m' : List ℕ) → Keeps l free m' → r.minutes ⊑ m'
  pub timely : r.in_time ≡ true → WithinDays r.minutes × EachTrain l (NotLate l r.minutes)
  pub late : r.in_time ≡ false → (m' : List ℕ) → Fit 352 m' → Keeps l free m' → EachTrain l (NotLate l m') → ⊥
