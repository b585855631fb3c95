-- The answers; the idea of the proof is at the head of the invariants.
use mathlib.Core.Path.{refl}
use native.Mathlib.Omega.{arith}
use Rattle.orders.specs.Lift.LiftingLaws.{some_alive}
use Rattle.solver.specs.Search.NeighbourhoodLaws.{leads_nowhere, leads_then, leads_among, keep_after, keep_among, segment_among, layout_few}
use Rattle.solver.proofs.neighbourhood.keep_orders.Goals as goal

pub overflow_sub-p-end : goal.overflow_sub-p-end
overflow_sub-p-end c = let a = c.requires in omega (arith, (layout_few _ a.line a.among).0)

pub loop-p-init : goal.loop-p-init
loop-p-init c = leads_nowhere _ _ _ _

pub offset_bounds-day-p : goal.offset_bounds-day-p
offset_bounds-day-p c = let a = c.requires in omega (arith, (layout_few _ a.line a.among).1)

pub bounds-day-p : goal.bounds-day-p
bounds-day-p c = let a = c.requires in omega (arith, (layout_few _ a.line a.among).1)

pub keep_segment-requires : goal.keep_segment-requires
keep_segment-requires c =
    let a = c.requires in (
      keep_among _ _ _ _ _ (segment_among _ _ _ refl (omega arith)) (keep_after _ _ _ _ a _ _ _ c.loop-p.invariant),
      (layout_few _ a.line a.among).2,
    )

pub loop-p-preserved : goal.loop-p-preserved
loop-p-preserved c =
    leads_then _ _ _ _ _ _ _ _ _ _ c.loop-p.invariant
    (leads_among _ _ _ _ _ (segment_among _ _ _ refl (omega arith)) _ _ _ (c.in_ok-c.ensures (some_alive refl)))

pub returns : goal.returns
returns c _ = c.loop-p.invariant
