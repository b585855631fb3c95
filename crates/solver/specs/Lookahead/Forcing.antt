-- The contracts of forced choices: where one way out of a conflict alone is alive, whatever is better than the best so far goes it. The line is not among
-- the parameters: what is promised holds for every line of which what is asked for holds.
use Rattle.std.specs.Prelude.{ℕ, ◌≡◌, ◌⊎◌, Option, Some, None}
use mathlib.Core.List.{List, Memᴰ}
use Rattle.line.specs.declared.Line.{Line}
use Rattle.rules.specs.declared.conflicts.Conflict.{Conflict}
use Rattle.rules.specs.Conflict.Conflicts.{layout_of}
use Rattle.orders.specs.Plan.Choices.{Choice}
use Rattle.orders.specs.Plan.Marks.{Plan, also}
use Rattle.plans.specs.Conflict.Ways.{way_count, ways_of}
use Rattle.plans.specs.Conflict.RealConflicts.{Real}
use Rattle.plans.specs.Instance.Planning.{planning}
use Rattle.plans.specs.Theory.Search.{NoneBetter, Narrows}
use Rattle.plans.specs.Clauses.Tallies.{best_of}
use Rattle.plans.specs.Clauses.Choosing.{Tabled, Planned, NoRaise, Raises, IsWay}
use Rattle.plans.specs.declared.day.Day.{Day}
use Rattle.plans.specs.declared.tally.Tally.{Tally}
use Rattle.plans.specs.declared.ways.Way.{Way}
use Rattle.solver.specs.Selection.Pricing.{CanPrice, DeadBelow}
use Rattle.solver.specs.Search.Searching.{Held}
use Rattle.solver.specs.declared.forcing.Forced.{Forced}

-- ---- a choice is made

abbrev pub CanSettle : List ℕ → List ℕ → Day → Way → ℕ → Type 0
CanSettle = CanPrice

-- the marks are those with the choice, and the minutes the least with it, or there are none
abbrev pub Settles : List ℕ → List ℕ → Day → Way → ℕ → ℕ → List ℕ → List ℕ → Option ℕ → Type 0
Settles m marks d way cost cut m' marks' r =
    (l : Line) (c : Choice) → Tabled l d.tables d.ds → Planned l marks m cost → IsWay l m d.ds c way → Raises l c marks m cut m' r × (marks' ≡ also c marks)

-- ---- the next forced choice

-- a conflict of the minutes none of whose ways is alive within the cut
pub record AllDead (l : Line) (m marks : List ℕ) (cut : ℕ) : Type 0 where
  pub conflict : Conflict
  pub real : Real l m (Some conflict)
  pub dead : (c : Choice) → Memᴰ c (ways_of (Some conflict)) → NoRaise l c marks m cut

-- one of which this way alone may be alive
pub record OneLeft (l : Line) (m marks ds : List ℕ) (cut : ℕ) (way : Way) : Type 0 where
  pub conflict : Conflict
  pub real : Real l m (Some conflict)
  pub choice : Choice
  pub is_way : IsWay l m ds choice way
  pub others : (c : Choice) → Memᴰ c (ways_of (Some conflict)) → (c ≡ choice) ⊎ NoRaise l c marks m cut

-- what a scan that finds this says of the plan
abbrev pub Says : Line → List ℕ → List ℕ → List ℕ → ℕ → Forced → Type 0
Says l m marks ds cut Forced.Over = Unit {0}
Says l m marks ds cut Forced.Dead = AllDead l m marks cut
Says l m marks ds cut (Forced.Next way hint) = OneLeft l m marks ds cut way

pub record Forces (m marks : List ℕ) (d : Day) (cost cut : ℕ) (marks' : List ℕ) (r : Forced) : Type 0 where
  pub marks_same : marks' ≡ marks
  pub says : (l : Line) → Tabled l d.tables d.ds → Planned l marks m cost → d.layout ≡ layout_of l → Says l m marks d.ds cut r

-- ---- a plan with all its forced choices

-- nothing better is in the plan p; or whatever better is in it keeps the marks too, which are a plan to search
abbrev pub Narrowed : Line → Plan → List ℕ → List ℕ → List ℕ → Day → Option ℕ → Tally → Type 0
Narrowed l p m marks best d None y = NoneBetter (planning l) p (best_of y best)
Narrowed l p m marks best d (Some cost) y = Held l m marks best d cost y × Narrows (planning l) p marks (best_of y best)

-- where there is no price nothing better is in the plan with the way's choice
abbrev pub PricesForced : List ℕ → List ℕ → List ℕ → Day → ℕ → Tally → Way → Option ℕ → Type 0
PricesForced m marks best d cost y way r =
    (l : Line) (c : Choice) → Held l m marks best d cost y → IsWay l m d.ds c way → r ≡ None → NoneBetter (planning l) (also c marks) (best_of y best)

-- ---- all ways out of a conflict; there are none where there is no conflict

-- of the first n numbers those priced as dead have ways of which that holds
abbrev pub PricesForcedBelow : List ℕ → List ℕ → List ℕ → Day → ℕ → Tally → Option Conflict → ℕ → List (Option ℕ) → Type 0
PricesForcedBelow m marks best d cost y conflict n prices =
    (l : Line) → Held l m marks best d cost y → Real l m conflict →
    DeadBelow (λ c. NoneBetter (planning l) (also c marks) (best_of y best)) conflict n prices

-- of all
abbrev pub PricesAllForced : List ℕ → List ℕ → List ℕ → Day → ℕ → Tally → Option Conflict → List (Option ℕ) → Type 0
PricesAllForced m marks best d cost y conflict prices = PricesForcedBelow m marks best d cost y conflict (way_count conflict) prices
