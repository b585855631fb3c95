-- `walk::scanning::still_clear` meets its contract: where all minutes are the same none changed, and either way no train with other minutes is in
-- conflict.
use native.Mathlib.Omega.{arith}
use Rattle.walk.specs.ScanningLaws.{same_changed, changed_clear}
use Rattle.walk.proofs.scanning.still_clear.Goals as goal

pub returns-then-same_on : goal.returns-then-same_on
returns-then-same_on c _ =
    changed_clear _ _ _ _ _ _ c.requires.2
    (same_changed _ _ _ _ _ _ (omega arith) (c.same_on.ensures c.if-same_on.true))

pub returns-else-same_on : goal.returns-else-same_on
returns-else-same_on c e = changed_clear _ _ _ _ _ _ c.requires.2 (c.changed_apart.ensures e)
