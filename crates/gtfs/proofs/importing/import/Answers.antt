-- `gtfs::importing::import` meets its contract: a file that is refused, or an accepted one, whose line is within the limits. Assumes nothing.
use mathlib.Core.Path.{◌∙◌, sym, ap}
use Rattle.text.proofs.Reading.HandedLaws.{handed_on}
use Rattle.line.specs.declared.Line.{Line}
use Rattle.line.specs.File.{answered}
use Rattle.timetable.specs.CheckLoopLaws.{file_within}
use Rattle.gtfs.specs.Reading.{stop_times_file}
use Rattle.gtfs.specs.Operations.{minutes_of}
use Rattle.gtfs.proofs.OperationsLaws.{after_refused, after_accepted}
use Rattle.gtfs.proofs.importing.import.Goals as goal

pub returns-in_err-line : goal.returns-in_err-line
unfolding minutes_of
returns-in_err-line c =
    let s = c.args.stop_times.now in
    handed_on _ c.from_residual.ensures.1 ∙ ap answered (sym (after_refused _ (λ (l : Line). stop_times_file l s) c.in_err-line.ensures))

pub read_stop_times-requires : goal.read_stop_times-requires
read_stop_times-requires c = file_within _ c.in_ok-line.ensures

pub returns : goal.returns
unfolding minutes_of
returns c =
    let s = c.args.stop_times.now in
    c.read_stop_times.ensures ∙ ap answered (sym (after_accepted _ (λ (l : Line). stop_times_file l s) c.in_ok-line.ensures))
