-- `solver::neighbourhood::keep_segment` meets its contract: as with one train, what is there is always a plan to search wherever the first was. Assumes
-- nothing.
use Rattle.solver.specs.Search.Neighbourhood.{Leads, OnSegment}
use Rattle.solver.proofs.neighbourhood.keep_segment.Given as goal

abbrev pub invariant-loop-i : goal.invariant-loop-i
invariant-loop-i l = Leads (OnSegment l.day l.g l.p) l.initial.marks l.initial.m l.cost l.marks l.m l.c
