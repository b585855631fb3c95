-- `walk::scanning::conflict_from` meets its contract. The invariant: no segment below p has a pair in conflict; at the start those below `clear`.
use Rattle.rules.specs.Conflict.ConflictsLaws.{NoSegment}
use Rattle.walk.proofs.scanning.conflict_from.Given as goal

abbrev pub invariant-loop-p : goal.invariant-loop-p
invariant-loop-p l = NoSegment l.layout.segments l.ds l.m l.layout.trains l.p
