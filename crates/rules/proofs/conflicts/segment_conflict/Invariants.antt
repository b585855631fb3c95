-- `rules::conflicts::segment_conflict` meets its contract. The invariant: no segment below p has a pair in conflict. Assumes nothing.
use Rattle.rules.specs.Conflict.ConflictsLaws.{NoSegment}
use Rattle.rules.proofs.conflicts.segment_conflict.Given as goal

abbrev pub invariant-loop-p : goal.invariant-loop-p
invariant-loop-p l = NoSegment l.layout.segments l.ds l.m l.layout.trains l.p
