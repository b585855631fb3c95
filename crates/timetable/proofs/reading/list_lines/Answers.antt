-- The answers; the idea of the proof is at the head of the invariants.
use Prim.Native.Nat.{ℕ, suc, ◌<◌, ◌-◌, ◌+◌}
use mathlib.Core.Path.{◌≡◌, ◌∙◌, sym, ap}
use native.Mathlib.Omega.{arith}
use lib.ListN.{length, length-set}
use Rattle.text.specs.Elements.PaddedLaws.{stored_more}
use Rattle.text.specs.Reading.Parsed.{Parsed, map_parsed}
use Rattle.text.specs.Places.Lines.{Counted, AnyNumber}
use Rattle.text.proofs.Places.LinesLaws.{keeps_counted, stands_got}
use Rattle.text.proofs.Reading.HandedLaws.{told_on}
use Rattle.timetable.specs.Reading.{list_at}
use Rattle.timetable.specs.Told.{named, named_first}
use Rattle.timetable.specs.PlaceLaws.{any_timetable_number, stands-list}
use Rattle.timetable.specs.RestLaws.{after_done, after_step, after_stop}
use Rattle.timetable.proofs.reading.list_lines.Goals as goal

pub returns-in_err-lists : goal.returns-in_err-lists
returns-in_err-lists c =
    let w = c.loop-k in
    let a = c.args in
    let more : a.count - w.k ≡ suc (a.count - (w.k + 1)) = omega arith in
    ap (map_parsed (named_first a.count)) (told_on _ c.from_residual.ensures.1)
    ∙ sym (after_stop (λ left. list_at a.n) _ _ _ _ (named_first w.k w.lists) more _ _ (sym c.in_err-lists.ensures)) ∙ w.invariant.0

pub loop-k-preserved : goal.loop-k-preserved
loop-k-preserved c =
    let w = c.loop-k in
    let a = c.args in
    let more : a.count - w.k ≡ suc (a.count - (w.k + 1)) = omega arith in
    let list = sym c.in_ok-lists.ensures in
    let room : w.k < length w.lists = omega (arith, w.invariant.2, c.requires) in (
      sym (after_step (λ left. list_at a.n) _ _ _ _ (named_first w.k w.lists) more _ _ list (stored_more named w.lists w.k c.in_ok-lists.field-0-0 room)) ∙ w.invariant.0,
      stands_got Counted AnyNumber _ (stands-list _ Counted (keeps_counted _) AnyNumber any_timetable_number _ _ w.invariant.1) list,
      length-set w.lists w.k _ ∙ w.invariant.2,
    )

pub returns : goal.returns
returns c =
    let w = c.loop-k in
    let a = c.args in
    let all : w.k ≡ a.count = omega arith in
    let none : a.count - w.k ≡ 0 = omega arith in
    ap (λ (k : ℕ). Parsed.got (named_first k w.lists) w.cursor) (sym all)
    ∙ sym (after_done (λ left. list_at a.n) _ 0 _ _ (named_first w.k w.lists) none) ∙ w.invariant.0
