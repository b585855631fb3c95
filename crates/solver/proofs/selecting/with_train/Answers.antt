-- The answers; the idea of the proof is at the head of the invariants.
use native.Mathlib.Omega.{arith}
use Rattle.solver.specs.Selection.SelectingLaws.{on_low, scores_on_none, scores_on_then, can_score_on-after}
use Rattle.solver.proofs.selecting.with_train.Goals as goal

pub near-mask-requires : goal.near-mask-requires
near-mask-requires c =
    let a = c.requires in
    let low = on_low _ _ _ _ _ _ _ a.0 in (low.0, omega (arith, a.1, low.1))

pub overflow_add-i : goal.overflow_add-i
overflow_add-i c = let a = c.requires in omega (arith, a.1, (on_low _ _ _ _ _ _ _ a.0).1)

pub next_bit-j-requires : goal.next_bit-j-requires
next_bit-j-requires c = let a = c.requires in omega (arith, a.1, (on_low _ _ _ _ _ _ _ a.0).1)

pub loop-j-init : goal.loop-j-init
loop-j-init c = scores_on_none _ _ _ _ _ _ _

pub with_pair-b-requires : goal.with_pair-b-requires
with_pair-b-requires c =
    let a = c.requires in
    (can_score_on-after _ _ _ _ _ _ _ a.0 _ c.loop-j.invariant.marks_same, a.1, c.loop-j-test.true)

pub returns-then-b : goal.returns-then-b
returns-then-b c = scores_on_then _ _ _ _ _ _ _ _ _ _ _ c.loop-j.invariant c.with_pair-b.ensures

pub overflow_add-j : goal.overflow_add-j
overflow_add-j c =
    omega (arith, c.loop-j-test.true, (on_low _ _ _ _ _ _ _ c.requires.0).1)

pub next_bit-j-requires-in-loop-j : goal.next_bit-j-requires-in-loop-j
next_bit-j-requires-in-loop-j c =
    omega (arith, c.loop-j-test.true, (on_low _ _ _ _ _ _ _ c.requires.0).1)

pub loop-j-smaller : goal.loop-j-smaller
loop-j-smaller c = omega (arith, c.next_bit-j-in-loop-j.ensures.on, c.loop-j-test.true)

pub loop-j-preserved : goal.loop-j-preserved
loop-j-preserved c =
    scores_on_then _ _ _ _ _ _ _ _ _ _ _ c.loop-j.invariant c.with_pair-b.ensures

pub returns : goal.returns
returns c = c.loop-j.invariant
