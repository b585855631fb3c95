-- `timetable::checking::check_line` meets its contract: a text that is refused, or one that was read and is judged.
use mathlib.Core.Path.{◌∙◌, ap}
use Rattle.text.proofs.Reading.HandedLaws.{handed_on}
use Rattle.line.specs.File.{answered}
use Rattle.timetable.specs.CheckLoopLaws.{judged_refused, judged_read}
use Rattle.timetable.proofs.checking.check_line.Goals as goal

pub returns-in_err-read : goal.returns-in_err-read
returns-in_err-read c = handed_on _ c.from_residual.ensures.1 ∙ judged_refused _ _ (ap answered c.in_err-read.ensures)

pub returns : goal.returns
returns c = c.judge.ensures ∙ judged_read _ _ (ap answered c.in_ok-read.ensures)
