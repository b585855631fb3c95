-- The contracts of the code that both searches use: the key by which minutes are compared (`Keys`), the best so far (`Tallies`), a way out as the code has it
-- (`WaysTold`), raising for a choice (`Choosing`) and what it costs in time or
-- not (`WayCosts`), what a search found (`FoundBest`). Their laws are in proofs/Clauses; those that other crates state their own by
-- stand beside them (`TalliesLaws`, `FoundBestLaws`).
pub mod Keys
pub mod Tallies
pub mod TalliesLaws
pub mod WaysTold
pub mod Choosing
pub mod WayCosts
pub mod FoundBest
pub mod FoundBestLaws
