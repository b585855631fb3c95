-- The answers; the idea of the proof is at the head of the invariants.
use Prim.Native.Nat.{ℕ, suc, ◌<◌, ◌-◌, ◌+◌}
use mathlib.Core.Path.{◌≡◌, ◌∙◌, sym, ap, refl}
use native.Mathlib.Omega.{arith}
use native.Mathlib.Nat.{sub-zero}
use lib.ListN.{length, take, length-set}
use Rattle.text.proofs.Places.LinesLaws.{field_counted}
use Rattle.text.proofs.Reading.HandedLaws.{told_on}
use Rattle.text.specs.Reading.Parsed.{Parsed, map_parsed}
use Rattle.timetable.specs.Reading.{own_count_at, name_at}
use Rattle.timetable.specs.Spell.{numbers}
use Rattle.timetable.specs.Told.{named}
use Rattle.timetable.specs.ListLaws.{own_within, number_more, name_least, list_no_count, list_counted}
use Rattle.timetable.specs.RestLaws.{after_none, after_done, after_step, after_stop}
use Rattle.timetable.specs.PlaceLaws.{own_counted}
use Rattle.timetable.proofs.reading.list_line.Goals as goal

pub returns-in_err-own : goal.returns-in_err-own
returns-in_err-own c = ap (map_parsed named) (told_on _ c.from_residual.ensures.1) ∙ sym (list_no_count _ _ _ (sym c.in_err-own.ensures))

pub loop-k-init : goal.loop-k-init
loop-k-init c = (rw sub-zero (after_none _), own_counted _ _ c.requires.1 c.in_ok-own.ensures, refl)

pub returns-in_err-number : goal.returns-in_err-number
returns-in_err-number c =
    let w = c.loop-k in
    let a = c.args in
    let count = c.from-count.result in
    let refused = c.in_err-number.field-0.0 in
    let own : own_count_at a.n a.s.now a.start ≡ Parsed.got count c.in_ok-own.after_count = rw c.from-count.ensures (sym c.in_ok-own.ensures) in
    let m : count - w.k ≡ suc (count - (w.k + 1)) = omega arith in
    let number : name_at a.n (count - (w.k + 1)) a.s.now w.cursor ≡ Parsed.bad refused.number refused.place =
    rw (← c.after_field-b.ensures) (rw c.numbers.ensures at (sym c.in_err-number.ensures)) in
    ap (map_parsed named) (told_on _ c.from_residual-in_err-number.ensures.1)
    ∙ sym (list_counted _ _ _ own (sym w.invariant.0 ∙ after_stop (name_at a.n) _ _ _ _ (numbers (take w.k w.trains)) m _ _ number))

pub overflow_sub-trains : goal.overflow_sub-trains
overflow_sub-trains c =
    let w = c.loop-k in
    let a = c.args in
    let left = c.from-count.result - (w.k + 1) in
    let number : name_at a.n left a.s.now w.cursor ≡ Parsed.got c.in_ok-number.number c.in_ok-number.next =
    rw (← c.after_field-b.ensures) (rw c.numbers.ensures at (sym c.in_ok-number.ensures)) in
    name_least a.n left a.s.now w.cursor _ _ number

pub bounds-trains-k : goal.bounds-trains-k
bounds-trains-k c = omega (arith, own_within _ _ _ _ _ (sym c.in_ok-own.ensures), c.requires.0, c.from-count.ensures)

pub loop-k-preserved : goal.loop-k-preserved
loop-k-preserved c =
    let w = c.loop-k in
    let a = c.args in
    let count = c.from-count.result in
    let left = count - (w.k + 1) in
    let number : name_at a.n left a.s.now w.cursor ≡ Parsed.got c.in_ok-number.number c.in_ok-number.next =
    rw (← c.after_field-b.ensures) (rw c.numbers.ensures at (sym c.in_ok-number.ensures)) in
    let m : count - w.k ≡ suc left = omega arith in
    let room : w.k < length w.trains = omega (arith, w.invariant.2, own_within _ _ _ _ _ (sym c.in_ok-own.ensures), c.requires.0, c.from-count.ensures) in (
      sym (after_step (name_at a.n) _ _ _ _ (numbers (take w.k w.trains)) m _ _ number (number_more w.trains w.k _ room (name_least a.n left a.s.now w.cursor _ _ number))) ∙ w.invariant.0,
      field_counted _ _ _ _ _ _ w.invariant.1 c.ranged.ensures c.in_ok-number.was,
      length-set w.trains w.k _ ∙ w.invariant.2,
    )

pub returns : goal.returns
returns c =
    let w = c.loop-k in
    let a = c.args in
    let count = c.from-count.result in
    let own : own_count_at a.n a.s.now a.start ≡ Parsed.got count c.in_ok-own.after_count = rw c.from-count.ensures (sym c.in_ok-own.ensures) in
    let all : w.k ≡ count = omega arith in
    let m : count - w.k ≡ 0 = omega arith in
    ap (λ (k : ℕ). Parsed.got (numbers (take k w.trains)) w.cursor) (sym all)
    ∙ sym (list_counted _ _ _ own (sym w.invariant.0 ∙ after_done (name_at a.n) _ 0 _ _ (numbers (take w.k w.trains)) m))
