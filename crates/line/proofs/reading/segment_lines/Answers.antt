-- The answers; the idea of the proof is at the head of the invariants.
use Prim.Native.Nat.{suc, ◌-◌, ◌+◌}
use mathlib.Core.Path.{◌≡◌, ◌∙◌, sym, refl}
use native.Mathlib.Omega.{arith}
use Rattle.text.specs.Elements.Padded.{padded}
use Rattle.text.proofs.Elements.LayLaws.{lay_done, lay_step, lay_stop}
use Rattle.text.proofs.Places.LinesLaws.{field_counted}
use Rattle.line.specs.File.{segment_line}
use Rattle.line.specs.PlaceLaws.{kind_counted}
use Rattle.line.specs.FileLaws.{gap_at, segment_no_kind, segment-from}
use Rattle.line.proofs.reading.segment_lines.Goals as goal

pub loop-k-init : goal.loop-k-init
loop-k-init c = (refl, kind_counted _ _ _ c.lines.invariant.2 _ c.in-Some.ensures)

pub loop-k-preserved : goal.loop-k-preserved
loop-k-preserved c =
    let l = c.loop-k in
    let left : 1 - l.k ≡ 2 - (l.k + 1) = omega arith in
    let m : 2 - l.k ≡ suc (2 - (l.k + 1)) = omega arith in
    let gap = rw (c.after_field.ensures, left) at c.in-Ok.ensures in
    (sym (lay_step gap_at _ _ _ _ _ _ m _ _ (sym gap)) ∙ l.invariant.0, field_counted _ _ _ _ _ _ l.invariant.1 c.in-Ok.ensures refl)

pub lines-preserved : goal.lines-preserved
lines-preserved c =
    let l = c.loop-k in
    let w = c.lines in
    let done : 2 - l.k ≡ 0 = omega arith in
    let line = segment-from _ _ _ _ _ (sym c.in-Some.ensures) (sym (lay_done gap_at _ 0 _ _ _ _ done) ∙ l.invariant.0) in
    let k : c.args.count - w.i ≡ suc (c.args.count - (w.i + 1)) = omega (arith, w.invariant.1, c.if-i-count.false) in
    (sym (lay_step (λ left. segment_line) _ _ _ _ _ _ k _ _ line) ∙ w.invariant.0, omega (arith, k), l.invariant.1)

pub returns-then-i-count : goal.returns-then-i-count
unfolding padded
returns-then-i-count c =
    let k : c.args.count - c.lines.i ≡ 0 = omega arith in
    sym (lay_done (λ left. segment_line) _ 0 _ _ _ _ k) ∙ c.lines.invariant.0

pub returns-in_default : goal.returns-in_default
unfolding padded
returns-in_default c =
    let w = c.lines in
    let k : c.args.count - w.i ≡ suc (c.args.count - (w.i + 1)) = omega arith in
    sym (lay_stop (λ left. segment_line) _ _ _ _ _ _ k _ _ (segment_no_kind _ _ (sym c.in_default.ensures))) ∙ w.invariant.0

pub returns-in-Err : goal.returns-in-Err
unfolding padded
returns-in-Err c =
    let l = c.loop-k in
    let w = c.lines in
    let left : 1 - l.k ≡ 2 - (l.k + 1) = omega arith in
    let m : 2 - l.k ≡ suc (2 - (l.k + 1)) = omega arith in
    let gap = rw (c.after_field.ensures, left) at c.in-Err.ensures in
    let line = segment-from _ _ _ _ _ (sym c.in-Some.ensures) (sym (lay_stop gap_at _ _ _ _ _ _ m _ _ (sym gap)) ∙ l.invariant.0) in
    let k : c.args.count - w.i ≡ suc (c.args.count - (w.i + 1)) = omega (arith, w.invariant.1, c.if-i-count.false) in
    sym (lay_stop (λ left. segment_line) _ _ _ _ _ _ k _ _ line) ∙ w.invariant.0
