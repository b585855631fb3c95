-- The laws of reading that rest on how a field is refused; the other laws stand beside their definitions in specs/.
pub mod Reading
pub mod Elements
pub mod Places
pub mod Sections
