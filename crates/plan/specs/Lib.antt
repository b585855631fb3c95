-- What the program reads and prints.
pub mod Reading
pub mod Telling
