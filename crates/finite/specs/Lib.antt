-- General mathematics of finitely many, which knows nothing of texts or railways. To read in this order: tests that decide statements (`Decide`), what holds
-- of each element of a list (`Each`), a list in which one element is altered (`Alter`), what loops over the numbers below n find (`Below`: the first, all, how many, a sum, a table), each with its laws; and tables
-- that are filled entry after entry (`FillLaws`).
pub mod Decide
pub mod DecideLaws
pub mod Each
pub mod EachLaws
pub mod Alter
pub mod AlterLaws
pub mod Below
pub mod LoopLaws
pub mod BelowLaws
pub mod SumsLaws
pub mod FillLaws
