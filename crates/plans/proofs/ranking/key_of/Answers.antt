-- The answers; the idea of the proof is at the head of the invariants.
use native.Mathlib.Omega.{arith}
use Rattle.finite.specs.FillLaws.{begun_none, begun_more, begun_all}
use Rattle.plans.specs.Clauses.Keys.{key_of}
use Rattle.plans.proofs.ranking.key_of.Goals as goal

pub loop-e-init : goal.loop-e-init
loop-e-init c = begun_none _ 132

pub loop-e-preserved : goal.loop-e-preserved
loop-e-preserved c = begun_more _ 132 c.loop-e.e _ _ c.loop-e.invariant (omega arith) c.key_entry.ensures

pub returns : goal.returns
unfolding key_of
returns c = begun_all _ 132 c.loop-e.e _ c.loop-e.invariant (omega arith)
