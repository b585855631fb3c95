-- The walk of request K9: its definition, that it finds the best timetable, and the contracts of its functions.
pub mod Walk
pub mod Look
pub mod SoundLaws
pub mod WalkLaws
pub mod WalkBestLaws
pub mod ProblemLaws
pub mod AfreshLaws
pub mod Scanning
pub mod ScanningLaws
pub mod Taking
pub mod TakingLaws
pub mod WalksLaws
pub mod TakenLaws
pub mod Finding
pub mod FindingLaws
