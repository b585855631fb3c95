-- `gtfs::importing::stop_time` meets its contract: the parts of a line in turn, each refused as it is found; after each there are no more lines than
-- bytes. Assumes nothing.
use Prim.Native.Nat.{ℕ}
use mathlib.Core.Path.{◌≡◌, sym}
use mathlib.Core.List.{List, ◌∷◌, []}
use Rattle.text.specs.declared.Cursor.{Cursor}
use Rattle.text.specs.Reading.Parsed.{Parsed}
use Rattle.text.specs.Places.Lines.{Counted, AnyNumber}
use Rattle.text.proofs.Places.LinesLaws.{keeps_counted, stands_got, text_counted, field_counted}
use Rattle.gtfs.specs.Reading.{clock_at}
use Rattle.gtfs.specs.LineLaws.{stands_clock}
use Rattle.gtfs.proofs.importing.stop_time.Goals as goal

-- after a time of day
clock_counted : (s : List ℕ) {c next : Cursor} {v : ℕ} → Counted c → Parsed.got v next ≡ clock_at s c → Counted next
clock_counted s h told = stands_got Counted AnyNumber _ (stands_clock s Counted (keeps_counted s) AnyNumber tt _ h) (sym told)

pub ranged-requires : goal.ranged-requires
ranged-requires c = text_counted _ c.requires 20 (84 ∷ []) c.past_text.ensures c.in_ok-after_letter.was

pub clock_field-requires : goal.clock_field-requires
clock_field-requires c =
    let letter = text_counted _ c.requires 20 (84 ∷ []) c.past_text.ensures c.in_ok-after_letter.was in
    field_counted 20 20 0 9999 44 _ letter c.ranged.ensures c.in_ok-trip.was

pub clock_field-requires-2 : goal.clock_field-requires-2
clock_field-requires-2 c =
    let letter = text_counted _ c.requires 20 (84 ∷ []) c.past_text.ensures c.in_ok-after_letter.was in
    let trip = field_counted 20 20 0 9999 44 _ letter c.ranged.ensures c.in_ok-trip.was in
    clock_counted _ trip c.in_ok-arrival.ensures

pub ranged-requires-2 : goal.ranged-requires-2
ranged-requires-2 c =
    let letter = text_counted _ c.requires 20 (84 ∷ []) c.past_text.ensures c.in_ok-after_letter.was in
    let trip = field_counted 20 20 0 9999 44 _ letter c.ranged.ensures c.in_ok-trip.was in
    clock_counted _ (clock_counted _ trip c.in_ok-arrival.ensures) c.in_ok-departure.ensures

pub ranged-requires-3 : goal.ranged-requires-3
ranged-requires-3 c =
    let letter = text_counted _ c.requires 20 (84 ∷ []) c.past_text.ensures c.in_ok-after_letter.was in
    let trip = field_counted 20 20 0 9999 44 _ letter c.ranged.ensures c.in_ok-trip.was in
    let departure = clock_counted _ (clock_counted _ trip c.in_ok-arrival.ensures) c.in_ok-departure.ensures in
    field_counted 20 20 0 9999 44 _ departure c.ranged-2.ensures c.in_ok-station.was
