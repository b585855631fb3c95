-- The answers; the idea of the proof is at the head of the invariants.
use mathlib.Core.Path.{◌∙◌}
use Rattle.solver.specs.Selection.SelectingLaws.{can_select_after}
use Rattle.solver.proofs.ahead.place_scores.Goals as goal

pub with_place-requires : goal.with_place-requires
with_place-requires c = (can_select_after _ _ _ _ c.requires _ c.loop-place.invariant, λ l _ _ _ _. tt)

pub loop-place-preserved : goal.loop-place-preserved
loop-place-preserved c = c.with_place.ensures.marks_same ∙ c.loop-place.invariant

pub returns : goal.returns
returns c = c.loop-place.invariant
