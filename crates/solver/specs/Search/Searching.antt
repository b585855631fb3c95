-- The contracts of the search: whatever conflict is settled and in whatever order its ways are tried, nothing lawful that keeps the plan is better than the
-- best so far afterwards, unless the limit of plans ended it. As in raising for a choice the line is not among the parameters.
use Rattle.std.specs.Prelude.{ℕ, ◌≤◌, ◌<◌, ◌≡◌, Option, Some, None, get_or}
use mathlib.Core.List.{List, Memᴰ}
use Rattle.line.specs.declared.Line.{Line}
use Rattle.rules.specs.declared.conflicts.Conflict.{Conflict}
use Rattle.orders.specs.Plan.Choices.{Choice}
use Rattle.orders.specs.Plan.Marks.{Plan, also}
use Rattle.plans.specs.Conflict.Ways.{way_of}
use Rattle.plans.specs.Conflict.RealConflicts.{Real}
use Rattle.plans.specs.Instance.Planning.{planning}
use Rattle.plans.specs.Theory.Search.{Onward, Under, NoneBetter}
use Rattle.plans.specs.Clauses.Tallies.{best_of, Tallied, DelayLow}
use Rattle.plans.specs.Clauses.Choosing.{Given, IsWay}
use Rattle.plans.specs.declared.day.Day.{Day}
use Rattle.plans.specs.declared.tally.Tally.{Tally}
use Rattle.plans.specs.declared.ways.Way.{Way}

-- ---- a plan to search

-- its minutes lie below every lawful timetable that keeps it
pub record Held (l : Line) (m marks best : List ℕ) (d : Day) (cost : ℕ) (y : Tally) : Type 0 where
  pub given : Given l m marks best d.tables d.ds d.key d.layout cost y
  pub under : Under (planning l) marks m

-- the search was not ended by its limit: it has none, or took up fewer plans
abbrev pub Whole : Option ℕ → Tally → Type 0
Whole None r = Unit {0}
Whole (Some limit) r = r.steps < limit

-- the plan p was searched, whole or in part; the marks are as before
pub record Sought (l : Line) (p : Plan) (marks best : List ℕ) (limit : Option ℕ) (y : Tally) (marks' best' : List ℕ) (r : Tally) : Type 0 where
  pub marks_same : marks' ≡ marks
  pub tallied : Tallied l best' r
  pub steps_rise : y.steps ≤ r.steps
  pub onward : Onward (planning l) (best_of y best) (best_of r best')
  pub none_better : Whole limit r → NoneBetter (planning l) p (best_of r best')

-- ---- taking up a plan

pub record CanTakeUp (m marks best : List ℕ) (d : Day) (cost : ℕ) (y : Tally) : Type 0 where
  pub line : Line
  pub held : Held line m marks best d cost y

-- and a delay below the last number of its type stays so
abbrev pub TakesUp : List ℕ → List ℕ → List ℕ → Day → ℕ → Option ℕ → Tally → List ℕ → List ℕ → Tally → Type 0
TakesUp m marks best d cost limit y marks' best' r =
    (l : Line) → Held l m marks best d cost y → Sought l marks marks best limit y marks' best' r × (DelayLow y → DelayLow r)

-- ---- trying a way out of one of its conflicts

pub record CanTry (m marks best : List ℕ) (d : Day) (cost : ℕ) (y : Tally) (way : Way) : Type 0 where
  pub line : Line
  pub choice : Choice
  pub held : Held line m marks best d cost y
  pub is_way : IsWay line m d.ds choice way

abbrev pub Tries : List ℕ → List ℕ → List ℕ → Day → ℕ → Option ℕ → Tally → Way → List ℕ → List ℕ → Tally → Type 0
Tries m marks best d cost limit y way marks' best' r =
    (l : Line) (c : Choice) → Held l m marks best d cost y → IsWay l m d.ds c way → Sought l (also c marks) marks best limit y marks' best' r

-- ---- trying all its ways

pub record CanTryAll (m marks best : List ℕ) (d : Day) (cost : ℕ) (y : Tally) (conflict : Conflict) : Type 0 where
  pub line : Line
  pub held : Held line m marks best d cost y
  pub real : Real line m (Some conflict)

abbrev pub TriesAll : List ℕ → List ℕ → List ℕ → Day → ℕ → Option ℕ → Tally → Conflict → List ℕ → List ℕ → Tally → Type 0
TriesAll m marks best d cost limit y conflict marks' best' r =
    (l : Line) → Held l m marks best d cost y → Real l m (Some conflict) → Sought l marks marks best limit y marks' best' r

-- while they are tried: the ways below n whose price is that of a dead one hold nothing better
pub record WaysSought (l : Line) (marks best : List ℕ) (limit : Option ℕ) (y : Tally) (conflict : Option Conflict) (n : ℕ) (prices : List (Option ℕ))
    (marks' best' : List ℕ) (r : Tally) : Type 0 where
  pub marks_same : marks' ≡ marks
  pub tallied : Tallied l best' r
  pub steps_rise : y.steps ≤ r.steps
  pub onward : Onward (planning l) (best_of y best) (best_of r best')
  pub done : Whole limit r → (k : ℕ) → k < n → get_or prices k None ≡ None → (c : Choice) → Memᴰ c (way_of conflict k) →
      NoneBetter (planning l) (also c marks) (best_of r best')

abbrev pub TriesSome :
    List ℕ → List ℕ → List ℕ → Day → ℕ → Option ℕ → Tally → Option Conflict → ℕ → List (Option ℕ) → List ℕ → List ℕ → Tally → Type 0
TriesSome m marks best d cost limit y conflict n prices marks' best' r =
    (l : Line) → Held l m marks best d cost y → Real l m conflict → WaysSought l marks best limit y conflict n prices marks' best' r
