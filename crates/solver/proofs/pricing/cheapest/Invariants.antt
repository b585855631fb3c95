-- `solver::pricing::cheapest` meets its contract: the number of the least key is kept, and only ways with a price have one. The invariant: all before k
-- are dead, or the first to try is one of them that is not. Assumes nothing.
use Rattle.solver.specs.Selection.PricingLaws.{PickedBefore}
use Rattle.solver.proofs.pricing.cheapest.Given as goal

abbrev pub invariant-loop-k : goal.invariant-loop-k
invariant-loop-k l = PickedBefore l.prices l.first l.k
