-- Laws of reading: parts (`ParsedLaws`), fixed forms (`FixedLaws`), and what the answers of the code tell (`ToldLaws`).
pub mod ParsedLaws
pub mod FixedLaws
pub mod ToldLaws
pub mod HandedLaws
