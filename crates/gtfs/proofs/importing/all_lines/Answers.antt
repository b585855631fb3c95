-- The answers; the idea of the proof is at the head of the invariants.
use Prim.Native.Nat.{suc, ◌-◌, ◌+◌}
use mathlib.Core.Path.{◌≡◌, ◌∙◌, sym}
use native.Mathlib.Omega.{arith}
use Rattle.text.specs.Places.Lines.{Counted, AnyNumber}
use Rattle.text.proofs.Places.LinesLaws.{keeps_counted, stands_got}
use Rattle.text.proofs.Reading.HandedLaws.{told_on}
use Rattle.gtfs.proofs.StopsLaws.{trips_done, trips_refused, trips_step}
use Rattle.gtfs.proofs.PlaceLaws.{any_stop_times_number, stands_trip}
use Rattle.gtfs.proofs.importing.all_lines.Goals as goal

pub returns-in_err-at : goal.returns-in_err-at
returns-in_err-at c =
    let w = c.loop-i in
    let n = c.args.line.traffic.train_count in
    let k : n - w.i ≡ suc (n - (w.i + 1)) = omega arith in
    told_on _ c.from_residual.ensures.1 ∙ sym (trips_refused _ c.args.line _ _ _ _ _ k (sym c.in_err-at.ensures)) ∙ w.invariant.0

pub loop-i-preserved : goal.loop-i-preserved
loop-i-preserved c =
    let w = c.loop-i in
    let n = c.args.line.traffic.train_count in
    let k : n - w.i ≡ suc (n - (w.i + 1)) = omega arith in
    let trip = sym c.in_ok-at.ensures in (
      sym (trips_step _ c.args.line _ _ _ _ _ k trip) ∙ w.invariant.0,
      stands_got Counted AnyNumber _ (stands_trip _ Counted (keeps_counted _) AnyNumber any_stop_times_number _ _ _ _ _ w.invariant.1) trip,
    )

pub returns : goal.returns
returns c =
    let w = c.loop-i in
    let k : c.args.line.traffic.train_count - w.i ≡ 0 = omega arith in
    sym (trips_done _ c.args.line _ _ _ _ k) ∙ w.invariant.0
