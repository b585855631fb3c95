-- Writing: the digits of a number (`Digits`), texts laid one after the other into a buffer (`Splice`), and a text lent to a caller's bytes or refused (`Lend`).
pub mod Digits
pub mod Lend
pub mod Splice
pub mod DigitsLaws
pub mod SpliceLaws
pub mod LendLaws
