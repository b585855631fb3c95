-- `timetable::reading::read_timetable` meets its contract: refused for its length or in its first part, or else what the second part gives.
use mathlib.Core.Path.{◌∙◌, sym, ap}
use native.Mathlib.Omega.{arith}
use Rattle.text.specs.Places.Lines.{Counted, AnyNumber}
use Rattle.text.proofs.Places.LinesLaws.{keeps_counted, stands_got}
use Rattle.text.specs.Reading.Parsed.{map_parsed}
use Rattle.text.proofs.Reading.HandedLaws.{told_on}
use Rattle.timetable.specs.PlaceLaws.{any_timetable_number, stands_minutes}
use Rattle.timetable.specs.Told.{timetable_of}
use Rattle.timetable.specs.RestLaws.{file_long, file_no_minutes, file_minutes}
use Rattle.timetable.proofs.reading.read_timetable.Goals as goal

pub returns-then-s-gt-MAX_BYTES : goal.returns-then-s-gt-MAX_BYTES
returns-then-s-gt-MAX_BYTES c = sym (file_long _ _ c.if-s-gt-MAX_BYTES.true)

pub returns-in_err-minutes : goal.returns-in_err-minutes
returns-in_err-minutes c =
    ap (map_parsed (timetable_of c.args.line)) (told_on _ c.from_residual.ensures.1)
    ∙ sym (file_no_minutes _ _ (omega (arith, c.if-s-gt-MAX_BYTES.false)) (sym c.in_err-minutes.ensures))

pub read_rest-requires : goal.read_rest-requires
read_rest-requires c = (
  c.requires,
  stands_got Counted AnyNumber _ (stands_minutes _ Counted (keeps_counted _) AnyNumber any_timetable_number _ _ (record { fits = omega arith })) (sym c.in_ok-minutes.ensures),
)

pub returns-in_err-lists : goal.returns-in_err-lists
returns-in_err-lists c =
    ap (map_parsed (timetable_of c.args.line)) (told_on _ c.from_residual-in_err-lists.ensures.1)
    ∙ sym (file_minutes _ _ (omega (arith, c.if-s-gt-MAX_BYTES.false)) (sym c.in_ok-minutes.ensures) c.in_err-lists.ensures)

pub returns : goal.returns
returns c = sym (file_minutes _ _ (omega (arith, c.if-s-gt-MAX_BYTES.false)) (sym c.in_ok-minutes.ensures) c.in_ok-lists.ensures)
