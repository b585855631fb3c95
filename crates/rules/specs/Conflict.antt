-- Conflicts: the table of directions (`Directions`), the lowest conflict of some minutes (`Conflicts`), and what it says of them (`FoundLaws`, `LowestLaws`).
pub mod Directions
pub mod DirectionsLaws
pub mod Conflicts
pub mod ConflictsLaws
pub mod FoundLaws
pub mod LowestLaws
