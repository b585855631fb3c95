-- The contracts of finding the best timetable of a line: what improves the best so far, and what searches the plan without choices.
use Rattle.std.specs.Prelude.{ℕ, List, Option}
use Rattle.line.specs.declared.Line.{Line}
use Rattle.orders.specs.Plan.Marks.{free}
use Rattle.orders.specs.declared.first.FirstPlan.{FirstPlan}
use Rattle.plans.specs.Instance.Planning.{planning}
use Rattle.plans.specs.Theory.Search.{Onward, NoneBetter}
use Rattle.plans.specs.Clauses.FoundBest.{Finds}
use Rattle.plans.specs.Clauses.Tallies.{best_of, Tallied}
use Rattle.plans.specs.declared.day.Day.{Day}
use Rattle.plans.specs.declared.found.Best.{Best}
use Rattle.plans.specs.declared.tally.Tally.{Tally}
use Rattle.solver.specs.Search.Searching.{Held, Whole}

-- f has the least minutes of the plan without choices, and what they cost
abbrev pub FirstHeld : Line → FirstPlan → List ℕ → Day → Tally → Type 0
FirstHeld l f best d y = Held l f.minutes free best d f.cost y

pub record CanFind (f : FirstPlan) (best : List ℕ) (d : Day) (y : Tally) : Type 0 where
  pub line : Line
  pub first : FirstHeld line f best d y

-- the best so far stays, or a better lawful timetable takes its place
pub record Improved (l : Line) (best : List ℕ) (y : Tally) (best' : List ℕ) (r : Tally) : Type 0 where
  pub tallied : Tallied l best' r
  pub onward : Onward (planning l) (best_of y best) (best_of r best')

abbrev pub MayImprove : FirstPlan → List ℕ → Day → Tally → List ℕ → Tally → Type 0
MayImprove f best d y best' r = (l : Line) → FirstHeld l f best d y → Improved l best y best' r

-- and no lawful timetable is better then, unless the limit ended the search
pub record SearchedTo (l : Line) (best : List ℕ) (limit : Option ℕ) (y : Tally) (best' : List ℕ) (r : Tally) : Type 0 where
  pub improved : Improved l best y best' r
  pub none_better : Whole limit r → NoneBetter (planning l) free (best_of r best')

abbrev pub Searches : FirstPlan → List ℕ → Day → Option ℕ → Tally → List ℕ → Tally → Type 0
Searches f best d limit y best' r = (l : Line) → FirstHeld l f best d y → SearchedTo l best limit y best' r

-- what is found of a line; how many plans that took is not told
abbrev pub FindsBest : Line → Option Best → Type 0
FindsBest l r = Finds l (record { best = r; steps = 0 })
