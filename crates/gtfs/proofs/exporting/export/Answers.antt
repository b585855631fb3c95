-- `gtfs::exporting::export` meets its contract: a file that is refused leaves the lent bytes as they were; the line of an accepted one is within the
-- limits, and its timetable is exported. Assumes nothing.
use Rattle.std.proofs.Common.{◌≡◌, ap, Err, rules}
use Rattle.text.specs.Writing.LendLaws.{lent_refused, lent_as}
use Rattle.line.specs.declared.Line.{Line}
use Rattle.timetable.specs.CheckLoopLaws.{file_within}
use Rattle.timetable.specs.Reading.{timetable_file}
use Rattle.gtfs.specs.Operations.{spelt, stop_times_of, exporting}
use Rattle.gtfs.proofs.OperationsLaws.{after_refused, after_accepted}
use Rattle.gtfs.proofs.exporting.export.Goals as goal

pub returns-in_err-line : goal.returns-in_err-line
unfolding exporting
returns-in_err-line c =
    let s = c.args.timetable.now in
    let same : c.from_residual.result ≡ Err c.in_err-line.field-0.0 = search rules in
    lent_refused c.args.out.now same (ap spelt (after_refused c.args.file.now (λ (l : Line). stop_times_of l (timetable_file l s)) c.in_err-line.ensures))

pub export_for-requires : goal.export_for-requires
export_for-requires c = file_within c.args.file.now c.in_ok-line.ensures

pub returns : goal.returns
unfolding exporting
returns c =
    let s = c.args.timetable.now in
    lent_as (ap spelt (after_accepted c.args.file.now (λ (l : Line). stop_times_of l (timetable_file l s)) c.in_ok-line.ensures)) c.export_for.ensures
