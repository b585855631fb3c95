-- `solver::finding::search_near` meets its contract. The invariant: what is held now is what was held at the start, improved. Assumes nothing.
use Rattle.solver.specs.Search.Finding.{MayImprove}
use Rattle.solver.proofs.finding.search_near.Given as goal

abbrev pub invariant-loop-k : goal.invariant-loop-k
invariant-loop-k l = MayImprove l.first l.initial.best l.day l.initial.b l.best l.b
