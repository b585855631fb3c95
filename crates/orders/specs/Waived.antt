-- A line with every latest waived: what it is (`WaivedLine`), how it is made train by train (`WaivingLaws`), and that nothing but rule 13 is another on it
-- (`WaivedLaws`).
pub mod WaivedLine
pub mod WaivingLaws
pub mod WaivedLaws
