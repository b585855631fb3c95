-- What the first look at a choice tells (`ProspectsLaws`).
pub mod ProspectsLaws
