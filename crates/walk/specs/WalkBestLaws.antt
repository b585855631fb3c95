-- What the walk finds is the timetable that demand 3 asks for, and where it finds nothing there is none.
use Rattle.std.specs.Prelude.{ℕ, ◌≡◌, List}
use Rattle.line.specs.declared.Line.{Line}
use Rattle.line.specs.Within.{Within, Arrays}
use Rattle.rules.specs.Statement.Rules.{Lawful}
use Rattle.rules.specs.Statement.Delay.{Best}
use Rattle.orders.specs.Plan.Marks.{free}
use Rattle.plans.specs.Theory.BestSoFar.{BestSoFar, nothing, found}
use Rattle.plans.specs.Theory.Search.{Searched}
use Rattle.plans.specs.Instance.Planning.{planning}
use Rattle.plans.proofs.Instance.LineSearchedLaws.{planning_laws, searched_best, searched_nothing}
use Rattle.walk.specs.Walk.{walk}
use Rattle.walk.specs.WalkLaws.{walk_searched}

module _ (l : Line) (w : Within l) (a : Arrays l) where
  walked : (r : BestSoFar) → (walk (planning l)).best ≡ r → Searched (planning l) free nothing r
  walked r e = rw e at (walk_searched (planning l) (planning_laws l w a))

  pub walk_best : (m : List ℕ) → (walk (planning l)).best ≡ found m → Best l m
  walk_best m e = searched_best l w a m (walked (found m) e)

  pub walk-nothing : (walk (planning l)).best ≡ nothing → (m : List ℕ) → Lawful l m → ⊥
  walk-nothing e = searched_nothing l w a (walked nothing e)
