-- The answers; the idea of the proof is at the head of the invariants.
use native.Mathlib.Omega.{arith}
use Prim.Native.Nat.{suc, ◌-◌, ◌+◌}
use mathlib.Core.Path.{◌≡◌, ◌∙◌, sym, refl}
use native.Mathlib.Nat.{sub-zero}
use Rattle.text.specs.Elements.Padded.{padded}
use Rattle.text.proofs.Elements.LayLaws.{lay_done}
use Rattle.text.proofs.Places.LinesLaws.{field_counted}
use Rattle.line.specs.File.{train_line}
use Rattle.line.specs.PlaceLaws.{head_counted}
use Rattle.line.specs.TrainLaws.{journey_stop-run, journey_stop-stop, journey_step, journey_last_read, journey_last_stop, train-stop_head, train-from, lines_read, lines-stop, head_legs}
use Rattle.line.proofs.reading.train_lines.Goals as goal

pub overflow_sub-between : goal.overflow_sub-between
overflow_sub-between c =
    let legs = head_legs _ _ _ _ _ c.requires.1 (sym c.in-Ok.ensures) in
    omega (arith, legs.0, c.legs_between-between.ensures)

pub loop-k-init : goal.loop-k-init
loop-k-init c =
    let legs = head_legs _ _ _ _ _ c.requires.1 (sym c.in-Ok.ensures) in
    (rw sub-zero refl, omega (arith, legs.1, c.legs_between-between.ensures), head_counted _ _ _ c.lines.invariant.2 _ _ c.in-Ok.ensures)

pub ranged-requires-in-loop-k : goal.ranged-requires-in-loop-k
ranged-requires-in-loop-k c = field_counted _ _ _ _ _ _ c.loop-k.invariant.2 c.in-Ok-ranged.ensures refl

pub loop-k-preserved : goal.loop-k-preserved
loop-k-preserved c =
    let l = c.loop-k in
    let m : c.legs_between-between.result - 1 - l.k ≡ suc (c.legs_between-between.result - 1 - (l.k + 1)) = omega arith in
    let after_run = field_counted _ _ _ _ _ _ l.invariant.2 c.in-Ok-ranged.ensures refl in
    let after_stop = field_counted _ _ _ _ _ _ after_run c.in-Ok-ranged-2.ensures refl in
    (sym (journey_step _ _ _ _ _ _ _ m _ _ (sym c.in-Ok-ranged.ensures) _ _ (sym c.in-Ok-ranged-2.ensures)) ∙ l.invariant.0, l.invariant.1, after_stop)

pub lines-preserved : goal.lines-preserved
lines-preserved c =
    let l = c.loop-k in
    let m : c.legs_between-between.result - 1 - l.k ≡ 0 = omega arith in
    let end : l.k ≡ c.legs_between-between.result - 1 = omega arith in
    let journey = journey_last_read _ _ _ _ _ _ m _ _ (sym c.in-Ok-ranged-3.ensures) in
    let train = rw end at (train-from _ _ _ _ _ _ _ (sym c.in-Ok.ensures) c.legs_between-between.ensures (sym journey ∙ l.invariant.0)) in (
      lines_read _ _ _ _ _ _ _ c.lines.invariant.0 (omega arith) _ _ _ train c.train_of.ensures,
      omega arith,
      field_counted _ _ _ _ _ _ l.invariant.2 c.in-Ok-ranged-3.ensures refl,
    )

pub returns-then-i-count : goal.returns-then-i-count
unfolding padded
returns-then-i-count c =
    let k : c.args.count - c.lines.i ≡ 0 = omega arith in
    sym (lay_done (λ left. train_line c.args.stations) _ 0 _ _ _ _ k) ∙ c.lines.invariant.0

pub returns-in-Err : goal.returns-in-Err
unfolding padded
returns-in-Err c =
    lines-stop _ _ _ _ _ _ _ c.lines.invariant.0 (omega arith) _ _ _ (train-stop_head _ _ _ _ _ (sym c.in-Err.ensures)) refl

pub returns-in-Err-ranged : goal.returns-in-Err-ranged
unfolding padded
returns-in-Err-ranged c =
    let l = c.loop-k in
    let m : c.legs_between-between.result - 1 - l.k ≡ suc (c.legs_between-between.result - 1 - (l.k + 1)) = omega arith in
    let journey = journey_stop-run _ _ _ _ _ _ _ m _ _ (sym c.in-Err-ranged.ensures) in
    let train = train-from _ _ _ _ _ _ _ (sym c.in-Ok.ensures) c.legs_between-between.ensures (sym journey ∙ l.invariant.0) in
    lines-stop _ _ _ _ _ _ _ c.lines.invariant.0 (omega arith) _ _ _ train refl

pub returns-in-Err-ranged-2 : goal.returns-in-Err-ranged-2
unfolding padded
returns-in-Err-ranged-2 c =
    let l = c.loop-k in
    let m : c.legs_between-between.result - 1 - l.k ≡ suc (c.legs_between-between.result - 1 - (l.k + 1)) = omega arith in
    let journey = journey_stop-stop _ _ _ _ _ _ _ m _ _ (sym c.in-Ok-ranged.ensures) _ _ (sym c.in-Err-ranged-2.ensures) in
    let train = train-from _ _ _ _ _ _ _ (sym c.in-Ok.ensures) c.legs_between-between.ensures (sym journey ∙ l.invariant.0) in
    lines-stop _ _ _ _ _ _ _ c.lines.invariant.0 (omega arith) _ _ _ train refl

pub returns-in-Err-ranged-3 : goal.returns-in-Err-ranged-3
unfolding padded
returns-in-Err-ranged-3 c =
    let l = c.loop-k in
    let m : c.legs_between-between.result - 1 - l.k ≡ 0 = omega arith in
    let journey = journey_last_stop _ _ _ _ _ _ m _ _ (sym c.in-Err-ranged-3.ensures) in
    let train = train-from _ _ _ _ _ _ _ (sym c.in-Ok.ensures) c.legs_between-between.ensures (sym journey ∙ l.invariant.0) in
    lines-stop _ _ _ _ _ _ _ c.lines.invariant.0 (omega arith) _ _ _ train refl
