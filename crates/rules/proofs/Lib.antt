-- The laws of the check and of what is declared that rest on a gap of two trains or on a due minute; the other laws stand beside their definitions in specs/.
pub mod Check
pub mod StatementLaws
