-- The answers; the idea of the proof is at the head of the invariants.
use native.Mathlib.Omega.{arith}
use Rattle.plans.proofs.Clauses.KeysLaws.{earlier_apart, earlier_alike, earlier_end}
use Rattle.plans.proofs.ranking.earlier.Goals as goal

pub returns-then-x-y : goal.returns-then-x-y
returns-then-x-y c =
    earlier_apart _ _ _ c.loop-e.e _ _ c.loop-e-test.true c.minute_at-x.ensures c.minute_at-y.ensures c.loop-e.invariant c.if-x-y.true

pub loop-e-preserved : goal.loop-e-preserved
loop-e-preserved c =
    earlier_alike _ _ _ c.loop-e.e _ _ c.loop-e-test.true c.minute_at-x.ensures c.minute_at-y.ensures c.loop-e.invariant c.if-x-y.false

pub returns : goal.returns
returns c = earlier_end _ _ c.loop-e.e (omega arith) c.loop-e.invariant
