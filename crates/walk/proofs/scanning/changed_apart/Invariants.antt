-- `walk::scanning::changed_apart` meets its contract. The invariant: each train below i has its former minutes or is in no conflict.
use Rattle.walk.specs.Scanning.{ChangedApart}
use Rattle.walk.proofs.scanning.changed_apart.Given as goal

abbrev pub invariant-loop-i : goal.invariant-loop-i
invariant-loop-i l = ChangedApart l.g l.ds l.m l.former l.p l.n l.i
