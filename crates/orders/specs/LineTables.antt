-- The tables of a line that raising reads: their layout and entries (`Tables`), and what their entries are.
pub mod Tables
pub mod TablesLaws
pub mod TableLegsLaws
