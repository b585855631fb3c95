-- The laws of both round trips of a section (`ChainedLaws`).
pub mod ChainedLaws
