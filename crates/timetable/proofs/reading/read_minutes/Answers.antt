-- `timetable::reading::read_minutes` meets its contract: after the count there are still no more lines than bytes. Assumes nothing.
use Rattle.text.proofs.Places.LinesLaws.{field_counted}
use Rattle.timetable.proofs.reading.read_minutes.Goals as goal

pub train_lines-requires : goal.train_lines-requires
train_lines-requires c = (c.requires.0, field_counted _ _ _ _ _ _ c.requires.1 c.ranged.ensures c.in_ok-next.was)
