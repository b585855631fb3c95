-- The answers; the idea of the proof is at the head of the invariants.
use Rattle.std.proofs.Common.{refl, sym, ◌∙◌, arith}
use Rattle.rules.specs.Conflict.ConflictsLaws.{segment-start, segment-on, segment_found, segment_none}
use Rattle.rules.proofs.conflicts.segment_conflict.Goals as goal

pub loop-p-init : goal.loop-p-init
loop-p-init c = segment-start _ _ _ _

pub returns-in-Some : goal.returns-in-Some
returns-in-Some c = segment_found _ _ _ _ _ _ _ c.loop-p-test.true c.loop-p.invariant (sym c.pair_on.ensures ∙ c.in-Some.is) (λ d. refl)

pub loop-p-preserved : goal.loop-p-preserved
loop-p-preserved c = segment-on c.args.layout.segments _ _ _ _ c.loop-p.invariant (sym c.pair_on.ensures ∙ c.in_default.is)

pub returns : goal.returns
returns c = segment_none _ _ _ _ _ _ (omega arith) c.loop-p.invariant
