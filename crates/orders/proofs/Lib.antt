-- The laws of raising and lifting that rest on the minute between one train and another at a station; the other laws stand beside their definitions in specs/.
pub mod Graph
pub mod Lift
pub mod Look
pub mod Outcome
pub mod Raise
