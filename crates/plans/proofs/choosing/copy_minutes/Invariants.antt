-- `plans::choosing::copy_minutes` meets its contract. The invariant: the entries before e are copied. Assumes nothing.
use Rattle.std.specs.Prelude.{◌≡◌, get_or, length}
use Rattle.finite.specs.Below.{EachBelow}
use Rattle.plans.proofs.choosing.copy_minutes.Given as goal

abbrev pub invariant-loop-e : goal.invariant-loop-e
invariant-loop-e l = (length l.q ≡ 352) × EachBelow l.e (λ x. get_or l.q x 0 ≡ get_or l.m x 0)
