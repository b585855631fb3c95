-- The search: taking up a plan and trying its ways (`Searching`), keeping a timetable's orders (`Neighbourhood`), and finding the best timetable (`Finding`).
pub mod Searching
pub mod SearchingLaws
pub mod Neighbourhood
pub mod NeighbourhoodLaws
pub mod Finding
pub mod FindingLaws
