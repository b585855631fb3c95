-- What the walk finds of a line: its best timetable, or that no timetable keeps every rule; and the length of the walk, cut off at 4,294,967,295.
use Rattle.std.specs.Prelude.{◌≡◌}
use Rattle.line.specs.declared.Line.{Line}
use Rattle.plans.specs.declared.found.Found.{Found}
use Rattle.plans.specs.Instance.Planning.{planning}
use Rattle.plans.specs.Clauses.Tallies.{cut_off}
use Rattle.plans.specs.Clauses.FoundBest.{Finds}
use Rattle.walk.specs.Walk.{walk}

pub record FindsWalked (l : Line) (r : Found) : Type 0 where
  pub finds : Finds l r
  pub steps : r.steps ≡ cut_off (walk (planning l)).steps
