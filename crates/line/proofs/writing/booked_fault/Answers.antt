-- `line::writing::booked_fault` meets its contract: a count in its limits is one of the array's sizes. Assumes nothing.
use Rattle.std.proofs.Common.{arith}
use Rattle.line.specs.Ranges.{booking_count}
use Rattle.line.specs.FaultLaws.{number_fits}
use Rattle.line.proofs.writing.booked_fault.Goals as goal

pub shared_ref_as_front-bookings : goal.shared_ref_as_front-bookings
shared_ref_as_front-bookings c = omega (arith, number_fits booking_count _ _ c.number_fault.ensures c.in_ok-number_fault.was)
