-- The contracts of the walk's functions; as in raising for a choice the line is not among the parameters.
use Rattle.std.specs.Prelude.{ℕ, ◌+◌, ◌-◌, ◌<◌, ◌≡◌, List, length, Option}
use Rattle.finite.specs.Below.{gather}
use Rattle.line.specs.declared.Line.{Line}
use Rattle.rules.specs.declared.conflicts.Conflict.{Conflict}
use Rattle.rules.specs.declared.conflicts.Layout.{Layout}
use Rattle.rules.specs.Conflict.Conflicts.{conflict_of}
use Rattle.orders.specs.LeastMinutes.NoLater.{slack}
use Rattle.orders.specs.LeastMinutes.Least.{minutes}
use Rattle.orders.specs.Plan.Choices.{Choice}
use Rattle.orders.specs.Plan.Marks.{also}
use Rattle.plans.specs.Theory.Problem.{Problem}
use Rattle.plans.specs.Theory.BestSoFar.{BestSoFar}
use Rattle.walk.specs.Scanning.{ClearBelow}
use Rattle.walk.specs.Walk.{Walked, in_order, look_least, follow, take_up}
use Rattle.plans.specs.Conflict.Ways.{way_of, way_count}
use Rattle.plans.specs.Instance.Planning.{planning}
use Rattle.plans.specs.Clauses.Tallies.{best_of, cut_off, Tallied, DelayLow}
use Rattle.plans.specs.Clauses.Choosing.{Given, IsWay}
use Rattle.plans.specs.declared.tally.Tally.{Tally}
use Rattle.plans.specs.declared.ways.Way.{Way}

-- ---- parts of the walk

-- what is left of taking up a plan once its least minutes are known; in the code `Planned` says that they are the least of all
unfoldable pub taken_up : (P : Problem) → ℕ → P.Plan → List ℕ → BestSoFar → Walked
taken_up P fuel cs m b = follow P (λ ds n. take_up P fuel ds n) cs b (look_least P (minutes m) b)

-- what comes after the plan itself, which its caller counts
abbrev pub later_on : Walked → Walked
later_on w = record { best = w.best; steps = w.steps - 1 }

-- a part of the walk, by fuel, is done: for all fuel that suffices it ends with this best so far and so many plans more; the marks are as before
pub record Walks (l : Line) (m marks : List ℕ) (y : Tally) (part : ℕ → Walked) (marks' best' : List ℕ) (r : Tally) : Type 0 where
  pub marks_same : marks' ≡ marks
  pub tallied : Tallied l best' r
  pub best_is : (fuel : ℕ) → slack m < fuel → best_of r best' ≡ (part fuel).best
  pub steps_are : (fuel : ℕ) → slack m < fuel → r.steps ≡ cut_off (y.steps + (part fuel).steps)

abbrev pub plan_part : Line → List ℕ → List ℕ → List ℕ → Tally → ℕ → Walked
plan_part l m marks best y fuel = later_on (taken_up (planning l) fuel marks m (best_of y best))

abbrev pub way_part : Line → List ℕ → List ℕ → List ℕ → Tally → Choice → ℕ → Walked
way_part l m marks best y c fuel = take_up (planning l) fuel (also c marks) m (best_of y best)

-- the first n ways out of the conflict
abbrev pub ways_part : Line → List ℕ → List ℕ → List ℕ → Tally → Option Conflict → ℕ → ℕ → Walked
ways_part l m marks best y conflict n fuel = in_order (λ c. take_up (planning l) fuel (also c marks) m) (gather (way_of conflict) n) (best_of y best)

-- ---- taking up a plan

pub record CanTakeUp (m former : List ℕ) (clear : ℕ) (marks best t ds key : List ℕ) (layout : Layout) (cost : ℕ) (y : Tally) : Type 0 where
  pub line : Line
  pub given : Given line m marks best t ds key layout cost y
  pub former_size : length former ≡ 352
  pub known : ClearBelow layout ds former clear

-- and a delay below the last number of its type stays so
abbrev pub TakesUp : List ℕ → List ℕ → List ℕ → List ℕ → List ℕ → List ℕ → Layout → ℕ → Tally → List ℕ → List ℕ → Tally → Type 0
TakesUp m marks best t ds key layout cost y marks' best' r =
    (l : Line) → Given l m marks best t ds key layout cost y → Walks l m marks y (plan_part l m marks best y) marks' best' r × (DelayLow y → DelayLow r)

-- ---- trying the ways out of its lowest conflict

pub record CanTry (m marks best t ds key : List ℕ) (layout : Layout) (cost : ℕ) (y : Tally) (way : Way) (clear : ℕ) : Type 0 where
  pub line : Line
  pub choice : Choice
  pub given : Given line m marks best t ds key layout cost y
  pub is_way : IsWay line m ds choice way
  -- as follows: the way's mark is one of the marks
  pub row_few : way.row < 368
  pub second_few : way.second < 16
  pub known : ClearBelow layout ds m clear

abbrev pub Tries : List ℕ → List ℕ → List ℕ → List ℕ → List ℕ → List ℕ → Layout → ℕ → Tally → Way → List ℕ → List ℕ → Tally → Type 0
Tries m marks best t ds key layout cost y way marks' best' r =
    (l : Line) (c : Choice) → Given l m marks best t ds key layout cost y → IsWay l m ds c way →
    Walks l m marks y (way_part l m marks best y c) marks' best' r

pub record CanTryAll (m marks best t ds key : List ℕ) (layout : Layout) (cost : ℕ) (y : Tally) (conflict : Option Conflict) : Type 0 where
  pub line : Line
  pub given : Given line m marks best t ds key layout cost y
  pub conflict_is : conflict ≡ conflict_of line m

-- the first n ways are tried
abbrev pub TriesFirst :
    List ℕ → List ℕ → List ℕ → List ℕ → List ℕ → List ℕ → Layout → ℕ → Tally → Option Conflict → ℕ → List ℕ → List ℕ → Tally → Type 0
TriesFirst m marks best t ds key layout cost y conflict n marks' best' r =
    (l : Line) → Given l m marks best t ds key layout cost y → conflict ≡ conflict_of l m →
    Walks l m marks y (ways_part l m marks best y conflict n) marks' best' r

-- all of them
abbrev pub TriesAll : List ℕ → List ℕ → List ℕ → List ℕ → List ℕ → List ℕ → Layout → ℕ → Tally → Option Conflict → List ℕ → List ℕ → Tally → Type 0
TriesAll m marks best t ds key layout cost y conflict marks' best' r =
    TriesFirst m marks best t ds key layout cost y conflict (way_count conflict) marks' best' r
