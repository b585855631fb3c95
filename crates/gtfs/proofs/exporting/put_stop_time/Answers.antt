-- `gtfs::exporting::put_stop_time` meets its contract: the letter and the five fields are written one after the other. Assumes nothing.
use Rattle.std.proofs.Common.{append_assoc}
use Rattle.gtfs.specs.Spell.{stop_time_text}
use Rattle.gtfs.proofs.exporting.put_stop_time.Goals as goal

pub returns : goal.returns
unfolding stop_time_text
returns c =
    rw (c.field-3.ensures, c.field-2.ensures, c.put_clock-2.ensures, c.put_clock.ensures, c.field.ensures, c.byte.ensures)
    (rw (c.from.ensures, c.from-2.ensures, c.from-3.ensures) (simp append_assoc))
