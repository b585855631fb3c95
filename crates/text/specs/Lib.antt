-- The mathematics of reading and writing text, by subject. `Reading` first, then `Writing`; `Places` says on which line a cursor stands, `Elements` goes from
-- elements to arrays and back, and `Sections` has the lists and sections that the requests add.
pub mod Reading
pub mod Elements
pub mod Places
pub mod Sections
pub mod Writing
