-- The mathematics of the checking service: how answers are packed, a file read and written out again, and what each says.
pub mod Packing
pub mod PackingLaws
pub mod Rewriting
pub mod RewritingLaws
