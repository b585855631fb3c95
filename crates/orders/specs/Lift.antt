-- Lifting a leg and all that follows: the contracts (`Lifting`), along a path (`RaisedPaths`), then to other trains (`SpreadingLaws`). Further
-- laws are in proofs/Lift.
pub mod Lifting
pub mod RaisedPaths
pub mod LiftingLaws
pub mod SpreadingLaws
