-- The arcs of one row of marks (`RowLaws`).
pub mod RowLaws
