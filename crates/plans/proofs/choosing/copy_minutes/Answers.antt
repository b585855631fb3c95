-- The answers; the idea of the proof is at the head of the invariants.
use mathlib.Core.Path.{refl}
use native.Mathlib.Omega.{arith}
use lib.ListN.{length-set}
use lib.Seq.{ext_get_or}
use Rattle.rules.specs.Lists.OrdersLaws.{entries_more}
use Rattle.plans.proofs.choosing.copy_minutes.Goals as goal

pub loop-e-init : goal.loop-e-init
loop-e-init c = (omega arith, λ x h. absurd (omega arith))

pub loop-e-preserved : goal.loop-e-preserved
loop-e-preserved c =
    let i = c.loop-e in
    (simp length-set i.invariant.0, entries_more _ 0 i.q i.e _ (omega (arith, i.invariant.0, c.loop-e-test.true)) refl i.invariant.1)

pub returns : goal.returns
returns c =
    let i = c.loop-e in
    ext_get_or 0 _ _ (omega (arith, i.invariant.0)) (λ x h. i.invariant.1 x (omega (arith, i.invariant.0)))
