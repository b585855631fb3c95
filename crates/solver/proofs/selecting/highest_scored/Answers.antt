-- The answers; the idea of the proof is at the head of the invariants.
use native.Mathlib.Omega.{arith}
use Rattle.solver.specs.Selection.SelectingLaws.{select_scans, can_select_after, finds_nothing, finds_then}
use Rattle.solver.proofs.selecting.highest_scored.Goals as goal

pub overflow_sub-count : goal.overflow_sub-count
overflow_sub-count c = omega (arith, (select_scans _ _ _ _ c.requires).laid_out.0)

pub overflow_add-places : goal.overflow_add-places
overflow_add-places c = omega (arith, (select_scans _ _ _ _ c.requires).laid_out.1)

pub around-p-requires : goal.around-p-requires
around-p-requires c = omega (arith, (select_scans _ _ _ _ c.requires).laid_out.0)

pub loop-init : goal.loop-init
loop-init c = (finds_nothing _ _ _, c.around-p.ensures)

pub select_at-b-requires : goal.select_at-b-requires
select_at-b-requires c =
    let p = c.requires in (
      can_select_after _ _ _ _ p _ c.loop.invariant.0.marks_same,
      c.loop.invariant.0.real,
      omega (arith, c.loop.invariant.1, (select_scans _ _ _ _ p).laid_out.1),
    )

pub returns-then-b : goal.returns-then-b
returns-then-b c =
    finds_then _ _ _ _ _ _ _ c.loop.invariant.0 c.select_at-b.ensures

pub overflow_add-p : goal.overflow_add-p
overflow_add-p c =
    omega (arith, c.loop.invariant.1, (select_scans _ _ _ _ c.requires).laid_out.1)

pub around-p-requires-in-loop : goal.around-p-requires-in-loop
around-p-requires-in-loop c = omega (arith, c.loop.invariant.1)

pub loop-preserved : goal.loop-preserved
loop-preserved c =
    (finds_then _ _ _ _ _ _ _ c.loop.invariant.0 c.select_at-b.ensures, c.around-p-in-loop.ensures)

pub returns : goal.returns
returns c = c.loop.invariant.0
