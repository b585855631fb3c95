-- The mathematics of stop_times.txt: its modules, definitions before their laws. Further laws are in proofs/
pub mod Stops
pub mod Spell
pub mod Reading
pub mod Operations
pub mod LineLaws
pub mod SameTextLaws
pub mod WritingLaws
pub mod FitsLaws
