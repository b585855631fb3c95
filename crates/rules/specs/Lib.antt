-- The mathematics of the rules, by subject. `Statement` is all that a reader must believe: rules 10 to 15 and 18, weighted delay, the best timetable, the order lists. The rest is computed:
-- `Check` (the first breach), `Conflict` (the lowest conflict), `Lists` (the order lists); `Scan` has what the code of the scan needs.
pub mod Statement
pub mod StatementLaws
pub mod Check
pub mod Conflict
pub mod Scan
pub mod Lists
