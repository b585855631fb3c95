-- `rules::bookings::floors_by` meets its contract. The invariant: the entries are the floors by the bookings so far. A booking raises the entry of its leg
-- alone (`floors_more`). Assumes nothing.
use Rattle.rules.specs.Check.Floors.{FloorsBy}
use Rattle.rules.proofs.bookings.floors_by.Given as goal

abbrev pub invariant-loop-booking : goal.invariant-loop-booking
invariant-loop-booking l = FloorsBy l.trains l.bookings l.booking-index l.floors
