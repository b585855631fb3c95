-- `solver::finding::search_anew` meets its contract: a search of the first plan to any limit improves what is held. The invariant: what is held now is what
-- was held at the start, improved. Assumes nothing.
use Rattle.solver.specs.Search.Finding.{MayImprove}
use Rattle.solver.proofs.finding.search_anew.Given as goal

abbrev pub invariant-loop-k : goal.invariant-loop-k
invariant-loop-k l = MayImprove l.first l.initial.best l.day l.initial.b l.best l.b
