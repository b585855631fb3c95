-- The answers; the idea of the proof is at the head of the invariants.
use mathlib.Core.Path.{refl}
use native.Mathlib.Omega.{arith}
use Rattle.orders.specs.Lift.LiftingLaws.{some_alive}
use Rattle.solver.specs.Search.NeighbourhoodLaws.{leads_nowhere, leads_then, keep_after}
use Rattle.solver.proofs.neighbourhood.keep_train.Goals as goal

pub loop-j-init : goal.loop-j-init
loop-j-init c = leads_nowhere _ _ _ _

pub keep_pair-requires : goal.keep_pair-requires
keep_pair-requires c = (keep_after _ _ _ _ c.requires.0 _ _ _ c.loop-j.invariant, omega arith, omega arith)

pub loop-j-preserved : goal.loop-j-preserved
loop-j-preserved c =
    leads_then _ _ _ _ _ _ _ _ _ _ c.loop-j.invariant (c.in_ok-c.ensures (some_alive refl))

pub returns : goal.returns
returns c _ = c.loop-j.invariant
