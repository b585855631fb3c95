-- Conflicts and the ways out of them: what a conflict says of the minutes (`RealConflicts`), its ways (`Ways`). That every lawful
-- timetable goes one, and so any conflict splits a plan, is in proofs/Conflict.
pub mod RealConflicts
pub mod RealConflictsLaws
pub mod Ways
