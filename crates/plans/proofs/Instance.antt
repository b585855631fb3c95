-- The line is an instance of the theory (`PlanningLaws`), and what a search of everything has found (`LineSearchedLaws`).
pub mod LineSearchedLaws
pub mod PlanningLaws
