-- `timetable::writing::times_right` meets its contract. The invariant: every leg before k has both its times in the two days. The loop ends at the
-- first leg that has not, or has seen them all. Assumes nothing.
use Rattle.finite.specs.Below.{EachBelow}
use Rattle.timetable.specs.SpeltLaws.{DaysAt}
use Rattle.timetable.proofs.writing.times_right.Given as goal

abbrev pub invariant-loop-k : goal.invariant-loop-k
invariant-loop-k l = EachBelow l.k (DaysAt l.train l.m l.i)
