-- `rules::rules::breach_among` meets its contract. The invariant: whatever the test may answer, every train before i has passed it. Assumes nothing.
use Rattle.std.proofs.Common.{◌≡◌, ℕ, Bool, true}
use Rattle.finite.specs.Below.{EachBelow}
use Rattle.rules.specs.Check.Breaches.{TestedBy}
use Rattle.rules.proofs.rules.breach_among.Given as goal

abbrev pub invariant-loop-i : goal.invariant-loop-i
invariant-loop-i g l = (keeps : ℕ → Bool) → TestedBy (goal.F-post g l.test) l.trains keeps → EachBelow l.i (λ j. keeps j ≡ true)
