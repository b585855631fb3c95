-- `timetable::writing::first_fault` meets its contract: a fault of the line is the first; without one the line is within the limits, and the fault of its
-- minutes is the first. Assumes nothing.
use Rattle.std.proofs.Common.{sym, ◌∙◌}
use Rattle.line.specs.WithinLaws.{within_of}
use Rattle.timetable.proofs.writing.first_fault.Goals as goal

pub minutes_fault-requires : goal.minutes_fault-requires
minutes_fault-requires c = within_of c.args.line (sym c.fault_of.ensures ∙ c.in_ok-fault_of.was)
