-- The check passes exactly the lawful timetables (`ExactLaws`, and `DaysLaws` for minutes of any size), its breach is the first rule that is broken
-- (`FirstBrokenLaws`), the due minutes in lists are those declared (`DuesLaws`), and what
-- tests each number of a range (`RangeLaws`).
pub mod RangeLaws
pub mod DuesLaws
pub mod ExactLaws
pub mod DaysLaws
pub mod FirstBrokenLaws
