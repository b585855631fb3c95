-- `gtfs::importing::import_lines` meets its contract: a file that is refused, or an accepted one, whose line is within the limits. Assumes nothing.
use mathlib.Core.Path.{ap}
use Rattle.text.proofs.Reading.HandedLaws.{handed_on}
use Rattle.text.specs.Writing.LendLaws.{lent_as, lent_refused}
use Rattle.line.specs.declared.Line.{Line}
use Rattle.timetable.specs.CheckLoopLaws.{file_within}
use Rattle.gtfs.specs.Reading.{stop_times_file}
use Rattle.gtfs.specs.Operations.{spelt, lines_of, importing}
use Rattle.gtfs.proofs.OperationsLaws.{after_refused, after_accepted}
use Rattle.gtfs.proofs.importing.import_lines.Goals as goal

pub returns-in_err-line : goal.returns-in_err-line
unfolding importing
returns-in_err-line c =
    let s = c.args.stop_times.now in
    lent_refused _ (handed_on _ c.from_residual.ensures.1) (ap spelt (after_refused _ (λ (l : Line). lines_of l (stop_times_file l s)) c.in_err-line.ensures))

pub import_lines_for-requires : goal.import_lines_for-requires
import_lines_for-requires c = file_within _ c.in_ok-line.ensures

pub returns : goal.returns
unfolding importing
returns c =
    let s = c.args.stop_times.now in
    lent_as (ap spelt (after_accepted _ (λ (l : Line). lines_of l (stop_times_file l s)) c.in_ok-line.ensures)) c.import_lines_for.ensures
