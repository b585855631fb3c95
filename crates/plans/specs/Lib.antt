-- What every search over plans rests on, by subject. `Theory` knows nothing of trains; `Conflict` and `Instance` make the line an instance of it; `Clauses` is
-- what the code of a search promises.
pub mod Theory
pub mod Conflict
pub mod Instance
pub mod Clauses
