-- The answers; the idea of the proof is at the head of the invariants.
use Prim.Native.Nat.{suc, ◌-◌, ◌+◌}
use mathlib.Core.Path.{◌≡◌, ◌∙◌, sym}
use native.Mathlib.Omega.{arith}
use Rattle.text.specs.Places.Lines.{Counted, AnyNumber}
use Rattle.text.proofs.Places.LinesLaws.{keeps_counted, stands_got}
use Rattle.text.proofs.Reading.HandedLaws.{told_on}
use Rattle.timetable.specs.PlaceLaws.{any_timetable_number, stands-legs}
use Rattle.timetable.specs.ReadingLaws.{trains_done, trains_refused, trains_step}
use Rattle.timetable.proofs.reading.train_lines.Goals as goal

pub returns-in_err-at : goal.returns-in_err-at
returns-in_err-at c =
    let w = c.loop-i in
    let n = c.args.line.traffic.train_count in
    let k : n - w.i ≡ suc (n - (w.i + 1)) = omega arith in
    told_on _ c.from_residual.ensures.1 ∙ sym (trains_refused _ c.args.line _ _ _ _ _ k (sym c.in_err-at.ensures)) ∙ w.invariant.0

pub loop-i-preserved : goal.loop-i-preserved
loop-i-preserved c =
    let w = c.loop-i in
    let n = c.args.line.traffic.train_count in
    let k : n - w.i ≡ suc (n - (w.i + 1)) = omega arith in
    let train = sym c.in_ok-at.ensures in (
      sym (trains_step _ c.args.line _ _ _ _ _ k train) ∙ w.invariant.0,
      stands_got Counted AnyNumber _ (stands-legs _ Counted (keeps_counted _) AnyNumber any_timetable_number _ _ _ _ _ _ w.invariant.1) train,
    )

pub returns : goal.returns
returns c =
    let w = c.loop-i in
    let k : c.args.line.traffic.train_count - w.i ≡ 0 = omega arith in
    sym (trains_done _ c.args.line _ _ _ _ k) ∙ w.invariant.0
