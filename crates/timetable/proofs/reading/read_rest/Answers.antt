-- `timetable::reading::read_rest` meets its contract: each refusal is that of the definition at the same place, and the lists and the total are those read.
use mathlib.Core.Path.{◌∙◌, sym, ap}
use native.Mathlib.Omega.{arith}
use Rattle.text.specs.Places.Lines.{Counted, AnyNumber}
use Rattle.text.proofs.Places.LinesLaws.{keeps_counted, field_counted, stands_got}
use Rattle.text.specs.Reading.Parsed.{map_parsed}
use Rattle.text.proofs.Reading.HandedLaws.{told_on}
use Rattle.timetable.specs.Told.{rest_read}
use Rattle.timetable.specs.PlaceLaws.{any_timetable_number, stands_lists}
use Rattle.timetable.specs.RestLaws.{rest_no_count, rest_no_lists, rest_no_total, rest_more, rest_whole}
use Rattle.timetable.proofs.reading.read_rest.Goals as goal

pub returns-in_err-next : goal.returns-in_err-next
returns-in_err-next c =
    let count = rw c.only.ensures at (sym c.in_err-next.ensures) in
    ap (map_parsed (rest_read c.args.line)) (told_on _ c.from_residual.ensures.1) ∙ sym (rest_no_count _ _ _ c.list_count-own.ensures.0 count)

pub list_lines-requires : goal.list_lines-requires
list_lines-requires c = (
  c.requires.0.trains.1,
  omega (arith, c.list_count-own.ensures.1, c.from.ensures),
  field_counted _ _ _ _ _ _ c.requires.1 c.ranged.ensures c.in_ok-next.was,
)

pub returns-in_err-lists : goal.returns-in_err-lists
returns-in_err-lists c =
    let count = rw c.only.ensures at (sym c.in_ok-next.ensures) in
    let lists = rw c.from.ensures at (sym c.in_err-lists.ensures) in
    ap (map_parsed (rest_read c.args.line)) (told_on _ c.from_residual-in_err-lists.ensures.1)
    ∙ sym (rest_no_lists _ _ _ c.list_count-own.ensures.0 count lists)

pub long_number_field-requires : goal.long_number_field-requires
long_number_field-requires c =
    let after-count = field_counted _ _ _ _ _ _ c.requires.1 c.ranged.ensures c.in_ok-next.was in
    stands_got Counted AnyNumber _ (stands_lists _ Counted (keeps_counted _) AnyNumber any_timetable_number _ _ _ after-count) (sym c.in_ok-lists.ensures)

pub returns-in_default : goal.returns-in_default
returns-in_default c =
    let count = rw c.only.ensures at (sym c.in_ok-next.ensures) in
    let lists = rw c.from.ensures at (sym c.in_ok-lists.ensures) in
    let total = sym c.long_number_field.ensures ∙ c.in_default.is in
    sym (rest_no_total _ _ _ c.list_count-own.ensures.0 count lists total)

pub returns-then-end-s : goal.returns-then-end-s
returns-then-end-s c =
    let count = rw c.only.ensures at (sym c.in_ok-next.ensures) in
    let lists = rw c.from.ensures at (sym c.in_ok-lists.ensures) in
    let total = sym c.long_number_field.ensures ∙ c.in-Some.is in
    sym (rest_more _ _ _ c.list_count-own.ensures.0 count lists total c.if-end-s.true)

pub returns : goal.returns
returns c =
    let own = c.list_count-own.ensures.0 in
    let count = rw c.only.ensures at (sym c.in_ok-next.ensures) in
    let lists = rw (c.from.ensures, own) at (sym c.in_ok-lists.ensures) in
    let total = sym c.long_number_field.ensures ∙ c.in-Some.is in
    sym (rest_whole _ _ _ own count (rw own lists) total (omega (arith, c.if-end-s.false)))
