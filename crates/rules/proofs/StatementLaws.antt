-- When each train is due (`DueLaws`), what delay there is (`DelayLaws`), that the free arrival is the earliest possible (`FreeArrivalLaws`), and what moves with
-- the earliest minute of a train (`StartingLaws`).
pub mod DueLaws
pub mod DelayLaws
pub mod FreeArrivalLaws
pub mod StartingLaws
