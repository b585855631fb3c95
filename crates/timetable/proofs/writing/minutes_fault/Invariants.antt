-- `timetable::writing::minutes_fault` meets its contract. The invariant: every train before i has all its times in the two days. Assumes nothing.
use Rattle.finite.specs.Below.{EachBelow}
use Rattle.timetable.specs.WritingLaws.{Timed}
use Rattle.timetable.proofs.writing.minutes_fault.Given as goal

abbrev pub invariant-loop-i : goal.invariant-loop-i
invariant-loop-i l = EachBelow l.i (Timed l.line l.m)
