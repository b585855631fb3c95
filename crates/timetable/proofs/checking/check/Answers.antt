-- `timetable::checking::check` meets its contract: a file that is refused, or an accepted one, whose line is within the limits.
use Rattle.timetable.specs.CheckLoopLaws.{file_within}
use Rattle.timetable.proofs.checking.check.Goals as goal

pub check_line-requires : goal.check_line-requires
check_line-requires c = file_within _ c.in_ok-line.ensures
