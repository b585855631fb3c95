-- `walk::scanning::clear_again` meets its contract. The invariant: no segment below p has a pair in conflict. One that is passed over had none at the
-- former minutes and shows to have none.
use Rattle.rules.specs.Conflict.ConflictsLaws.{NoSegment}
use Rattle.walk.proofs.scanning.clear_again.Given as goal

abbrev pub invariant-loop-p : goal.invariant-loop-p
invariant-loop-p l = NoSegment l.layout.segments l.ds l.m l.layout.trains l.p
