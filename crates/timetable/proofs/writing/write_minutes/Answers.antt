-- `timetable::writing::write_minutes` meets its contract: the train lines of minutes within the two days fit the buffer. Assumes nothing.
use Rattle.std.proofs.Common.{arith}
use Rattle.timetable.specs.FitsLaws.{lines_fit}
use Rattle.timetable.proofs.writing.write_minutes.Goals as goal

pub put_minutes-requires : goal.put_minutes-requires
put_minutes-requires c = (c.requires.0, rw c.new-text.ensures (omega (arith, lines_fit c.args.line c.args.minutes c.requires.0 c.requires.1)))
