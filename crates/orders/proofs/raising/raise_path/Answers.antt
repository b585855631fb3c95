-- The answers; the idea of the proof is at the head of the invariants.
use Prim.Native.Nat.{ℕ, ◌+◌}
use mathlib.Core.Path.{ap}
use native.Mathlib.Omega.{arith}
use lib.ListN.{get_or}
use Rattle.orders.proofs.Lift.RaisedPathsLaws.{path_start, path_few, path_ends, path_still, path_dead, path_next}
use Rattle.orders.proofs.raising.raise_path.Goals as goal

pub loop-f-init : goal.loop-f-init
loop-f-init c = path_start _ _ _ _ _ _ _ _ _ _ _ c.requires.0.leg (rw c.in_ok-c.was at c.raise_leg.ensures)

pub returns-then-next-f : goal.returns-then-next-f
returns-then-next-f c = path_ends _ _ _ _ _ _ _ _ _ _ _ _ _ c.loop-f.invariant _ c.next_at-next.ensures c.if-next-f.true

pub returns-then-m-next : goal.returns-then-m-next
returns-then-m-next c =
    path_still _ _ _ _ _ _ _ _ _ _ _ _ _ c.loop-f.invariant _ c.next_at-next.ensures _ c.if-next-f.false
    (ap (λ (x : ℕ). get_or c.loop-f.m (176 + c.loop-f.f) 0 + x) c.stop_at.ensures) c.if-m-next.true

pub returns-in_err-c-2 : goal.returns-in_err-c-2
returns-in_err-c-2 c =
    rw c.from_residual-in_err-c-2.ensures
    (path_dead _ _ _ _ _ _ _ _ _ _ _ _ _ c.loop-f.invariant _ c.next_at-next.ensures _ c.if-next-f.false
    (ap (λ (x : ℕ). get_or c.loop-f.m (176 + c.loop-f.f) 0 + x) c.stop_at.ensures) _
    (rw c.in_err-c-2.was at c.raise_leg-in-loop-f.ensures))

pub overflow_add-legs : goal.overflow_add-legs
overflow_add-legs c = omega (arith, path_few _ _ _ _ _ _ _ _ _ _ _ _ _ c.loop-f.invariant c.requires.0.size)

pub loop-f-preserved : goal.loop-f-preserved
loop-f-preserved c =
    path_next _ _ _ _ _ _ _ _ _ _ _ _ _ c.loop-f.invariant _ c.next_at-next.ensures _ c.if-next-f.false
    (ap (λ (x : ℕ). get_or c.loop-f.m (176 + c.loop-f.f) 0 + x) c.stop_at.ensures)
    c.requires.0.shaped _ _ (rw c.in_ok-c-2.was at c.raise_leg-in-loop-f.ensures)
