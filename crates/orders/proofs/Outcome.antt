-- Lifting for a choice gives the least minutes of the plan with it, or there are none (`ChoiceLaws`).
pub mod ChoiceLaws
