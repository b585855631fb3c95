-- `rules::passages::pair_on` meets its contract. The invariant: no train below i has a partner on segment p.
use Rattle.rules.specs.Conflict.ConflictsLaws.{NoPair}
use Rattle.rules.proofs.passages.pair_on.Given as goal

abbrev pub invariant-loop-i : goal.invariant-loop-i
invariant-loop-i l = NoPair l.g l.ds l.m l.p l.n l.i
