-- `gtfs::importing::trip_lines` meets its contract: the line of the origin, and from its departure on the other stops. Assumes nothing.
use mathlib.Core.Path.{◌∙◌, sym}
use Rattle.text.specs.Places.Lines.{Counted, AnyNumber}
use Rattle.text.proofs.Places.LinesLaws.{keeps_counted, stands_got}
use Rattle.text.proofs.Reading.HandedLaws.{told_on}
use Rattle.gtfs.proofs.StopsLaws.{due_told, trip_refused, trip_begun}
use Rattle.gtfs.proofs.PlaceLaws.{any_stop_times_number, stands-due}
use Rattle.gtfs.proofs.importing.trip_lines.Goals as goal

pub returns-in_err-origin : goal.returns-in_err-origin
returns-in_err-origin c =
    told_on _ c.from_residual.ensures.1 ∙ sym (trip_refused _ _ _ _ _ _ (due_told _ _ c.stop_on.ensures c.in_err-origin.ensures))

pub stop_lines-requires : goal.stop_lines-requires
stop_lines-requires c =
    let due = due_told _ _ c.stop_on.ensures c.in_ok-origin.ensures in
    (c.requires.0, c.requires.1, stands_got Counted AnyNumber _ (stands-due _ Counted (keeps_counted _) AnyNumber any_stop_times_number _ _ c.requires.2) due)

pub returns : goal.returns
returns c = c.stop_lines.ensures ∙ sym (trip_begun _ _ _ _ _ _ (due_told _ _ c.stop_on.ensures c.in_ok-origin.ensures))
