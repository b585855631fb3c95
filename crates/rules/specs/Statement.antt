-- What is declared, in the words of documents 01 and 02: the paths of trains, their bookings, the minutes of a timetable, rules 10 to 15 and 18 and what is lawful, when trains are due,
-- weighted delay and what is best, the order lists, the first rule that is broken. To read in this order.
pub mod Paths
pub mod Bookings
pub mod Minutes
pub mod Rules
pub mod Delay
pub mod OrderLists
pub mod FirstBroken
