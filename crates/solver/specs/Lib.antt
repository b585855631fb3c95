-- The search that solving uses, by subject. `Promise` is what a planner is promised; before it the parts of the search, each with its contracts and laws.
pub mod Selection
pub mod Lookahead
pub mod Search
pub mod Promise
