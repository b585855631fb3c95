-- `solver::neighbourhood::keep_train` meets its contract: the loop goes on only where the cost is alive, so that what is there is always a plan to search
-- wherever the first was. Assumes nothing.
use Rattle.solver.specs.Search.Neighbourhood.{Leads, OnSegment}
use Rattle.solver.proofs.neighbourhood.keep_train.Given as goal

abbrev pub invariant-loop-j : goal.invariant-loop-j
invariant-loop-j l = Leads (OnSegment l.day l.g l.p) l.initial.marks l.initial.m l.cost l.marks l.m l.c
