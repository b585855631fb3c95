-- The contracts of pricing the ways out of a conflict. A way without a price is dead: no minutes keep the plan with its choice for no more than
-- the cut. The line is not among the parameters: what is promised holds for every line of which what is asked for holds.
use Rattle.std.specs.Prelude.{ℕ, ◌≤◌, ◌<◌, ◌≡◌, Bool, Option, Some, None, is_some, get_or}
use mathlib.Core.List.{List, Memᴰ}
use Rattle.line.specs.declared.Line.{Line}
use Rattle.rules.specs.declared.conflicts.Conflict.{Conflict}
use Rattle.orders.specs.Plan.Choices.{Choice}
use Rattle.plans.specs.Conflict.Ways.{way_of, way_count}
use Rattle.plans.specs.Conflict.RealConflicts.{Real}
use Rattle.plans.specs.Clauses.Choosing.{Tabled, Planned, NoRaise, IsWay}
use Rattle.plans.specs.declared.day.Day.{Day}
use Rattle.plans.specs.declared.ways.Way.{Way}

-- ---- one way

pub record CanPrice (m marks : List ℕ) (d : Day) (way : Way) (cost : ℕ) : Type 0 where
  pub line : Line
  pub choice : Choice
  pub tabled : Tabled line d.tables d.ds
  pub planned : Planned line marks m cost
  pub is_way : IsWay line m d.ds choice way

pub record Prices (m marks : List ℕ) (d : Day) (way : Way) (cost cut : ℕ) (marks' : List ℕ) (r : Option ℕ) : Type 0 where
  pub marks_same : marks' ≡ marks
  pub dead : (l : Line) (c : Choice) → Tabled l d.tables d.ds → Planned l marks m cost → IsWay l m d.ds c way → r ≡ None → NoRaise l c marks m cut

-- ---- all ways; there are none where there is no conflict

pub record CanPriceWays (m marks : List ℕ) (d : Day) (cost : ℕ) (conflict : Option Conflict) : Type 0 where
  pub line : Line
  pub tabled : Tabled line d.tables d.ds
  pub planned : Planned line marks m cost
  pub real : Real line m conflict

-- of the numbers below n those priced as dead have choices of which D holds
abbrev pub DeadBelow : (Choice → Type 0) → Option Conflict → ℕ → List (Option ℕ) → Type 0
DeadBelow D conflict n prices =
    (k : ℕ) → k < n → get_or prices k None ≡ None → (c : Choice) → Memᴰ c (way_of conflict k) → D c

-- of the first n numbers those priced as dead are
pub record PricesBelow (m marks : List ℕ) (d : Day) (cost cut : ℕ) (conflict : Option Conflict) (n : ℕ) (marks' : List ℕ)
    (prices : List (Option ℕ)) : Type 0 where
  pub marks_same : marks' ≡ marks
  pub dead : (l : Line) → Tabled l d.tables d.ds → Planned l marks m cost → Real l m conflict →
      DeadBelow (λ c. NoRaise l c marks m cut) conflict n prices

-- of all
abbrev pub PricesWays : List ℕ → List ℕ → Day → ℕ → ℕ → Option Conflict → List ℕ → List (Option ℕ) → Type 0
PricesWays m marks d cost cut conflict marks' prices = PricesBelow m marks d cost cut conflict (way_count conflict) marks' prices

-- ---- the score by the prices, which is never 0

pub record Scores (marks marks' : List ℕ) (r : ℕ) : Type 0 where
  pub marks_same : marks' ≡ marks
  pub some : 1 ≤ r

-- ---- the next to try

-- one that is not dead, or all are
pub record Cheapest (prices : List (Option ℕ)) (n : ℕ) (r : Option ℕ) : Type 0 where
  pub alive : (k : ℕ) → r ≡ Some k → (k < n) × (get_or prices k None ≡ None → ⊥)
  pub none_left : r ≡ None → (k : ℕ) → k < n → get_or prices k None ≡ None

-- which are left
unfoldable pub untried : List (Option ℕ) → ℕ → Bool
untried prices k = is_some (get_or prices k None)
