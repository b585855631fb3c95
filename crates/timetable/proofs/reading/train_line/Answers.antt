-- The answers; the idea of the proof is at the head of the invariants.
use Prim.Native.Nat.{suc, ◌-◌, ◌+◌}
use mathlib.Core.Path.{◌≡◌, ◌∙◌, sym}
use native.Mathlib.Omega.{arith}
use Rattle.text.specs.Reading.Parsed.{Parsed}
use Rattle.text.proofs.Places.LinesLaws.{field_counted}
use Rattle.text.proofs.Reading.HandedLaws.{told_on}
use Rattle.line.specs.File.{after_field}
use Rattle.timetable.specs.Reading.{time_at}
use Rattle.timetable.specs.ReadingLaws.{legs_done, legs_no_departure, legs_no_arrival, legs_step}
use Rattle.timetable.proofs.reading.train_line.Goals as goal

pub returns-in_err-departure : goal.returns-in_err-departure
returns-in_err-departure c =
    let w = c.loop-j in
    let legs = c.legs_between-legs.result in
    let k : legs - w.j ≡ suc (legs - (w.j + 1)) = omega arith in
    told_on _ c.from_residual.ensures.1 ∙ sym (legs_no_departure _ _ _ _ _ _ _ _ k (sym c.in_err-departure.ensures)) ∙ w.invariant.0

pub ranged-requires-in-loop-j : goal.ranged-requires-in-loop-j
ranged-requires-in-loop-j c = field_counted _ _ _ _ _ _ c.loop-j.invariant.1 c.ranged.ensures c.in_ok-departure.was

pub returns-in_err-arrival : goal.returns-in_err-arrival
returns-in_err-arrival c =
    let w = c.loop-j in
    let legs = c.legs_between-legs.result in
    let refused = c.in_err-arrival.field-0.0 in
    let k : legs - w.j ≡ suc (legs - (w.j + 1)) = omega arith in
    let arrival : time_at (after_field (legs - (w.j + 1))) c.args.s.now c.in_ok-departure.after_departure ≡ Parsed.bad refused.number refused.place =
    rw (← c.after_field-b.ensures) (sym c.in_err-arrival.ensures) in
    told_on _ c.from_residual-in_err-arrival.ensures.1 ∙ sym (legs_no_arrival _ _ _ _ _ _ _ _ k (sym c.in_ok-departure.ensures) arrival) ∙ w.invariant.0

pub loop-j-preserved : goal.loop-j-preserved
loop-j-preserved c =
    let w = c.loop-j in
    let legs = c.legs_between-legs.result in
    let k : legs - w.j ≡ suc (legs - (w.j + 1)) = omega arith in
    let arrival : time_at (after_field (legs - (w.j + 1))) c.args.s.now c.in_ok-departure.after_departure ≡ Parsed.got c.in_ok-arrival.arrival c.in_ok-arrival.next =
    rw (← c.after_field-b.ensures) (sym c.in_ok-arrival.ensures) in
    let after-departure = field_counted _ _ _ _ _ _ w.invariant.1 c.ranged.ensures c.in_ok-departure.was in (
      sym (legs_step _ _ _ _ _ _ _ _ k (sym c.in_ok-departure.ensures) _ arrival c.segment_between-p.ensures.0) ∙ w.invariant.0,
      field_counted _ _ _ _ _ _ after-departure c.ranged-in-loop-j.ensures c.in_ok-arrival.was,
    )

pub returns : goal.returns
returns c =
    let w = c.loop-j in
    let k : c.legs_between-legs.result - w.j ≡ 0 = omega arith in
    sym (legs_done _ _ _ _ _ _ _ k) ∙ w.invariant.0
