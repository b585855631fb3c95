-- Sections: lists whose elements depend on those before them, and the section that may be left off (`Chained`); the laws of both round trips are in proofs/.
pub mod Chained
