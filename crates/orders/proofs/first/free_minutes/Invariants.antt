-- `orders::first::free_minutes` meets its contract. The invariant: the first x entries are there. The table of directions tells which are legs of a train.
-- Assumes nothing.
use Rattle.finite.specs.FillLaws.{Begun}
use Rattle.orders.specs.LeastMinutes.FirstPlan.{free_entry}
use Rattle.orders.proofs.first.free_minutes.Given as goal

abbrev pub invariant-loop-x : goal.invariant-loop-x
invariant-loop-x l = Begun (free_entry l.line) 352 l.x l.minutes
