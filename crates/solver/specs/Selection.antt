-- Which conflict is settled (`Selecting`) and what the ways out of it cost (`Pricing`).
pub mod Pricing
pub mod PricingLaws
pub mod Selecting
pub mod SelectingLaws
