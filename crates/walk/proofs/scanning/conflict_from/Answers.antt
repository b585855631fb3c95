-- The answers; the idea of the proof is at the head of the invariants.
use mathlib.Core.Path.{refl, sym, ◌∙◌}
use native.Mathlib.Omega.{arith}
use Rattle.rules.specs.Conflict.ConflictsLaws.{segment-on, segment_found, segment_none}
use Rattle.walk.specs.ScanningLaws.{clear_within, clear_below}
use Rattle.walk.proofs.scanning.conflict_from.Goals as goal

pub loop-p-init : goal.loop-p-init
loop-p-init c = clear_below c.args.layout _ _ _ c.requires.1

pub returns-in-Some : goal.returns-in-Some
returns-in-Some c = segment_found _ _ _ _ _ _ _ c.loop-p-test.true c.loop-p.invariant (sym c.pair_on.ensures ∙ c.in-Some.is) (λ d. refl)

pub loop-p-preserved : goal.loop-p-preserved
loop-p-preserved c = segment-on c.args.layout.segments _ _ _ _ c.loop-p.invariant (sym c.pair_on.ensures ∙ c.in_default.is)

pub returns : goal.returns
returns c =
    segment_none _ _ _ _ _ _ (omega (arith, clear_within c.args.layout _ _ _ c.requires.1)) c.loop-p.invariant
