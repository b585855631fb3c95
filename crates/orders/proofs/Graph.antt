-- The graph says what it is to keep the plan (`GraphLaws`).
pub mod GraphLaws
