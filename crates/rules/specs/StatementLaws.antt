-- Laws of what is declared: paths, bookings, timetables that are the same, that there is at most one best and that it has the least delay, and
-- that there is at most one order list of a segment and lane. Due minutes, delay and free arrivals are in proofs/StatementLaws.
pub mod PathsLaws
pub mod BookingsLaws
pub mod SameLaws
pub mod BestLaws
pub mod OrderListsLaws
