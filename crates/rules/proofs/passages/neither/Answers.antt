-- `rules::passages::neither` meets its contract: each arm of the code is the case of one law with its kind and its sameness of ways; the two gaps of
-- an S segment meet before the call, and are told apart again.
use Rattle.std.proofs.Common.{ℕ, true, false, ap, ◌∙◌, eq-eqb, ne_eqb}
use Rattle.line.specs.declared.Kind.{Kind}
use Rattle.rules.specs.Scan.Scanning.{neither_alone}
use Rattle.rules.specs.Conflict.ConflictsLaws.{neither_by_lem}
use Rattle.rules.proofs.passages.neither.Goals as goal
use Rattle.rules.proofs.passages.neither.Goals.{then-same, else-same}

pub returns-after-same : goal.returns-after-same
returns-after-same c =
    let a = c.args in
    let told = c.neither_alone.ensures in
    elim c.if-same.branch [
      | then-same w ↦ neither_by_lem _ _ _ Kind.S true _ c.in-S.is (eq-eqb _ _ w.if-same.true) (told ∙ ap (λ (gap : ℕ). neither_alone gap a.x a.y) w.gap-is)
      | else-same w ↦ neither_by_lem _ _ _ Kind.S false _ c.in-S.is (ne_eqb _ _ w.if-same.false) (told ∙ ap (λ (gap : ℕ). neither_alone gap a.x a.y) w.gap-is)
    ]

pub returns-in-F : goal.returns-in-F
returns-in-F c = neither_by_lem _ _ _ Kind.F false _ c.in-F.is (ne_eqb _ _ c.if-not-same.true) c.neither_alone-in-F.ensures

pub returns-in-F-2 : goal.returns-in-F-2
returns-in-F-2 c = neither_by_lem _ _ _ Kind.F true _ c.in-F.is (eq-eqb _ _ c.if-not-same.false) c.neither_behind.ensures

pub returns-then-same-2 : goal.returns-then-same-2
returns-then-same-2 c = neither_by_lem _ _ _ Kind.D true _ c.in-D.is (eq-eqb _ _ c.if-same-2.true) c.neither_behind-then-same-2.ensures

pub returns-else-same-2 : goal.returns-else-same-2
returns-else-same-2 c =
    let apart = ne_eqb _ _ c.if-same-2.false in
    neither_by_lem _ _ _ Kind.D false _ c.in-D.is apart apart
