-- The check of rules: the floors under departures and the due minutes in lists (`Floors`, `Dues`), each rule as a test (`Tests`), the first breach (`Breaches`), with their
-- laws. That there is none exactly when the timetable is lawful, and that it is the first rule that is broken, is in proofs/Check.
pub mod Floors
pub mod Tests
pub mod Dues
pub mod Breaches
pub mod RulesLaws
pub mod FloorsLaws
pub mod BreachesLaws
