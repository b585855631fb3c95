-- `solver::selecting::in_conflict` meets its contract: it asks for the passages of both trains, and a true answer is the test of the rules. Assumes
-- nothing.
use Rattle.rules.specs.Conflict.ConflictsLaws.{clash_here}
use Rattle.solver.proofs.selecting.in_conflict.Goals as goal

pub returns : goal.returns
returns c e =
    clash_here _ _ _ _ _ _ _ _ _ c.passage_of-x.ensures c.passage_of-y.ensures c.neither.ensures e c.if-j-i.false c.if-x-eq0.false c.if-y-eq0.false
