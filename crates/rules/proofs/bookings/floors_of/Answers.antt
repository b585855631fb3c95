-- `rules::bookings::floors_of` meets its contract: each booking of a line that can be run has its entry (`taken_entry`). Assumes nothing.
use Rattle.std.proofs.Common.{arith}
use Rattle.rules.specs.Check.FloorsLaws.{floors_taken, taken_entry}
use Rattle.rules.proofs.bookings.floors_of.Goals as goal

pub floors_by-requires : goal.floors_by-requires
floors_by-requires c = taken_entry c.args.line c.requires (omega arith) (omega arith) c.from-count.ensures

pub returns : goal.returns
returns c = floors_taken c.args.line c.requires (omega arith) c.from-count.ensures _ c.floors_by.ensures
