-- The answers; the idea of the proof is at the head of the invariants.
use mathlib.Core.Path.{refl}
use native.Mathlib.Omega.{arith}
use Rattle.orders.specs.Lift.LiftingLaws.{some_alive}
use Rattle.solver.specs.Search.NeighbourhoodLaws.{leads_nowhere, leads_then, keep_after}
use Rattle.solver.proofs.neighbourhood.keep_segment.Goals as goal

pub loop-i-init : goal.loop-i-init
loop-i-init c = leads_nowhere _ _ _ _

pub keep_train-requires : goal.keep_train-requires
keep_train-requires c = (keep_after _ _ _ _ c.requires.0 _ _ _ c.loop-i.invariant, c.requires.1, omega arith)

pub loop-i-preserved : goal.loop-i-preserved
loop-i-preserved c =
    leads_then _ _ _ _ _ _ _ _ _ _ c.loop-i.invariant (c.in_ok-c.ensures (some_alive refl))

pub returns : goal.returns
returns c _ = c.loop-i.invariant
