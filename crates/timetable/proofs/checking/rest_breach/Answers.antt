-- `timetable::checking::rest_breach` meets its contract: the lists are judged first, then the total.
use Rattle.line.specs.RunnableLaws.{within_runnable}
use Rattle.timetable.proofs.checking.rest_breach.Goals as goal

pub weighted_delay-requires : goal.weighted_delay-requires
weighted_delay-requires c = within_runnable c.args.line c.requires
