-- `solver::selecting::with_segment` meets its contract: train after train. The invariant: what is held is in conflict where the old one is. Assumes
-- nothing.
use Rattle.solver.specs.Selection.Selecting.{ScoresOn}
use Rattle.solver.proofs.selecting.with_segment.Given as goal

abbrev pub invariant-loop-i : goal.invariant-loop-i
invariant-loop-i l = ScoresOn l.m l.initial.marks l.day l.g l.n l.p l.initial.b l.marks l.b
