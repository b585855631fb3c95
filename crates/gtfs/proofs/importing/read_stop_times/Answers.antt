-- `gtfs::importing::read_stop_times` meets its contract: the header, the trips, and then the end of the text, each refused as it is found. Assumes nothing.
use native.Mathlib.Omega.{arith}
use Rattle.text.proofs.Places.LinesLaws.{text_counted}
use Rattle.gtfs.specs.Spell.{header}
use Rattle.gtfs.proofs.importing.read_stop_times.Goals as goal

pub all_lines-requires : goal.all_lines-requires
all_lines-requires c = (c.requires, text_counted _ (record { fits = omega arith }) 20 header c.past_text.ensures c.in_ok-after_header.was)
