-- The mathematics of many starting minutes for one train, definitions before their laws: what may be asked (`Asking`), what an entry tells and what the operation
-- promises (`Operation`), what is known of a line while its entries are found (`Knowing`).
pub mod Asking
pub mod Operation
pub mod Knowing
pub mod AskingLaws
pub mod KnowingLaws
pub mod TellsLaws
pub mod FillingLaws
pub mod OperationLaws
