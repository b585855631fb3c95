-- `starts::asking::is_time` meets its contract: a time is built of the minute exactly where it is one of the two days. Assumes nothing.
use Rattle.starts.specs.AskingLaws.{decides_high}
use Rattle.starts.proofs.asking.is_time.Goals as goal

pub returns : goal.returns
returns c = rw c.from.ensures at (decides_high 2879 _ _ c.value.ensures _ c.is_some.ensures)
