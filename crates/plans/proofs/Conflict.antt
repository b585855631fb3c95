-- Every lawful timetable goes one of the ways out of a conflict (`WaysLaws`), and so any conflict splits a plan (`SplitsLaws`).
pub mod SplitsLaws
pub mod WaysLaws
