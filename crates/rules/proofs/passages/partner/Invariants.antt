-- `rules::passages::partner` meets its contract. The invariant: no train below j is in conflict with i; up to i itself because only
-- a higher number counts, and from there because each was tested.
use Rattle.std.proofs.Common.{◌≡◌, false}
use Rattle.finite.specs.Below.{EachBelow}
use Rattle.rules.specs.Conflict.Conflicts.{clash}
use Rattle.rules.proofs.passages.partner.Given as goal

abbrev pub invariant-loop-j : goal.invariant-loop-j
invariant-loop-j l = EachBelow l.j (λ k. clash l.g l.ds l.m l.p l.i k ≡ false)
