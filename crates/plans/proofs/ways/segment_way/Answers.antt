-- `plans::ways::segment_way` meets its contract: the lower train first, or the higher. Assumes nothing.
use mathlib.Core.Path.{refl}
use Rattle.plans.proofs.Clauses.WaysToldLaws.{tells_lower, tells_higher}
use Rattle.plans.proofs.ways.segment_way.Goals as goal
use Rattle.plans.proofs.ways.segment_way.Goals.{then-w-eq0, else-w-eq0}

pub returns : goal.returns
returns c = elim c.if-w-eq0.branch [
  | then-w-eq0 w ↦ rw w.first-is (tells_lower _ _ _ w.if-w-eq0.true (λ ds. record { station = refl; row = refl; leg = refl; second = refl }))
  | else-w-eq0 w ↦ rw w.first-is (tells_higher _ _ _ w.if-w-eq0.false (λ ds. record { station = refl; row = refl; leg = refl; second = refl }))
]
