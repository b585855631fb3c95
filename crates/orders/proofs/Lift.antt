-- Lifting along a path (`RaisedPathsLaws`, `NextLegLaws`), then to other trains (`ServingLaws`), and for a choice, one arc at a time (`ChosenArcsLaws`) and with
-- two arcs (`TwoArcsLaws`).
pub mod ChosenArcsLaws
pub mod NextLegLaws
pub mod RaisedPathsLaws
pub mod ServingLaws
pub mod TwoArcsLaws
