-- The answers; the idea of the proof is at the head of the invariants.
use native.Mathlib.Omega.{arith}
use Rattle.solver.specs.Selection.SelectingLaws.{scores_on_none, scores_on_then, can_score_on-after}
use Rattle.solver.proofs.selecting.with_segment.Goals as goal

pub loop-i-init : goal.loop-i-init
loop-i-init c = scores_on_none _ _ _ _ _ _ _

pub with_train-b-requires : goal.with_train-b-requires
with_train-b-requires c =
    let a = c.requires in
    (can_score_on-after _ _ _ _ _ _ _ a _ c.loop-i.invariant.marks_same, omega arith)

pub returns-then-b : goal.returns-then-b
returns-then-b c = scores_on_then _ _ _ _ _ _ _ _ _ _ _ c.loop-i.invariant c.with_train-b.ensures

pub loop-i-preserved : goal.loop-i-preserved
loop-i-preserved c = scores_on_then _ _ _ _ _ _ _ _ _ _ _ c.loop-i.invariant c.with_train-b.ensures

pub returns : goal.returns
returns c = c.loop-i.invariant
