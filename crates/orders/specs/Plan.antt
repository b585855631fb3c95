-- Plans: choices (`Choices`), what it is to keep a set of them (`Plans`), such a set as bits of masks (`Bits`, `Marks`), and plans whose marks fit their line
-- (`TidyPlans`).
pub mod Choices
pub mod Plans
pub mod PlansLaws
pub mod Bits
pub mod BitsLaws
pub mod Marks
pub mod MarksLaws
pub mod TidyPlans
pub mod TidyPlansLaws
