-- The starred examples of document 01: the statement, and its proof.
pub mod Lines
pub mod Examples
