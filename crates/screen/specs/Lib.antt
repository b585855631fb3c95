-- The mathematics of what the screen calls: a file solved, with its answer packed, the length of its walk, stop times exported and imported, and the totals of
-- many starting minutes.
pub mod Solved
pub mod SolvedLaws
pub mod Walking
pub mod StopTimesLaws
pub mod Started
pub mod StartedLaws
