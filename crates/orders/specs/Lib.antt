-- The mathematics of least minutes under a set of choices, by subject. Declared: `Plan` and the first files of `LeastMinutes`. Computed as mathematics: the
-- rest of `LeastMinutes`. Computed as the code does it: `LineTables`, `Graph`, `Raise`, `Lift`, `Look`. `Outcome` brings the two together. `Waived` is the line
-- with every latest waived.
pub mod Plan
pub mod LeastMinutes
pub mod LineTables
pub mod Graph
pub mod Raise
pub mod Lift
pub mod Look
pub mod Outcome
pub mod Waived
