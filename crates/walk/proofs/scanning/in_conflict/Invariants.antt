-- `walk::scanning::in_conflict` meets its contract. The invariant: train i is in conflict with none below j. Only the ways out that say no count.
use Rattle.finite.specs.Below.{EachBelow}
use Rattle.walk.specs.ScanningLaws.{ApartFrom}
use Rattle.walk.proofs.scanning.in_conflict.Given as goal

abbrev pub invariant-loop-j : goal.invariant-loop-j
invariant-loop-j l = EachBelow l.j (ApartFrom l.g l.ds l.m l.p l.i)
