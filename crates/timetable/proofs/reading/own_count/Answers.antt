-- `timetable::reading::own_count` meets its contract: after the count there are still no more lines than bytes. Assumes nothing.
use Rattle.text.proofs.Places.LinesLaws.{number_counted}
use Rattle.timetable.proofs.reading.own_count.Goals as goal

pub past-requires : goal.past-requires
past-requires c = number_counted _ c.requires 4 c.number.ensures c.in-Some.is
