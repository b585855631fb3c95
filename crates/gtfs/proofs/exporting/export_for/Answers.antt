-- `gtfs::exporting::export_for` meets its contract: the minutes of a timetable that was read are of the two days, and their text is lent; one that is
-- refused leaves the lent bytes as they were. Assumes nothing.
use Rattle.std.proofs.Common.{◌≡◌, ap, Err, rules}
use Rattle.text.specs.Writing.LendLaws.{lent_refused, lent_as}
use Rattle.line.specs.File.{answered}
use Rattle.gtfs.proofs.OperationsLaws.{spelt_refused, spelt_read, read_days}
use Rattle.gtfs.proofs.exporting.export_for.Goals as goal

pub returns-in_err-read : goal.returns-in_err-read
returns-in_err-read c =
    let same : c.from_residual.result ≡ Err c.in_err-read.field-0.0 = search rules in
    lent_refused c.args.out.now same (spelt_refused c.args.line c.args.timetable.now (ap answered c.in_err-read.ensures))

pub write_stop_times-requires : goal.write_stop_times-requires
write_stop_times-requires c = (c.requires, read_days c.args.line c.args.timetable.now (ap answered c.in_ok-read.ensures) c.requires)

pub returns : goal.returns
returns c = lent_as (spelt_read c.args.line c.args.timetable.now (ap answered c.in_ok-read.ensures)) c.write_stop_times.ensures
