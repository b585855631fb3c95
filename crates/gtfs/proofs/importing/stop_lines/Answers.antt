-- The answers; the idea of the proof is at the head of the invariants.
use Prim.Native.Nat.{suc, ◌-◌, ◌+◌}
use mathlib.Core.Path.{◌≡◌, ◌∙◌, sym}
use native.Mathlib.Omega.{arith}
use Rattle.text.specs.Places.Lines.{Counted, AnyNumber}
use Rattle.text.proofs.Places.LinesLaws.{keeps_counted, stands_got}
use Rattle.text.proofs.Reading.HandedLaws.{told_on}
use Rattle.line.specs.Record.{legs_of}
use Rattle.gtfs.proofs.StopsLaws.{due_told, stops_done, stops_refused, stops_step}
use Rattle.gtfs.proofs.PlaceLaws.{any_stop_times_number, stands-due}
use Rattle.gtfs.proofs.importing.stop_lines.Goals as goal

pub returns-in_err-time : goal.returns-in_err-time
returns-in_err-time c =
    let w = c.loop-j in
    let legs = legs_of c.args.train in
    let k : legs - w.j ≡ suc (legs - (w.j + 1)) = omega (arith, c.legs_between-j-end.ensures) in
    let due = due_told _ _ c.stop_on.ensures c.in_err-time.ensures in
    told_on _ c.from_residual.ensures.1 ∙ sym (stops_refused _ _ _ _ _ _ _ _ _ k due) ∙ w.invariant.0

pub loop-j-preserved : goal.loop-j-preserved
loop-j-preserved c =
    let w = c.loop-j in
    let legs = legs_of c.args.train in
    let k : legs - w.j ≡ suc (legs - (w.j + 1)) = omega (arith, c.legs_between-j-end.ensures) in
    let due = due_told _ _ c.stop_on.ensures c.in_ok-time.ensures in (
      sym (stops_step _ _ _ _ _ _ _ _ _ k _ due c.segment_between-p.ensures.0) ∙ w.invariant.0,
      stands_got Counted AnyNumber _ (stands-due _ Counted (keeps_counted _) AnyNumber any_stop_times_number _ _ w.invariant.1) due,
    )

pub returns : goal.returns
returns c =
    let w = c.loop-j in
    let k : legs_of c.args.train - w.j ≡ 0 = omega (arith, c.legs_between-j-end.ensures) in
    sym (stops_done _ _ _ _ _ _ _ _ k) ∙ w.invariant.0
