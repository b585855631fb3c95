-- What raising says of the line: arrivals within their limits are rule 13 (`LimitsLaws`), cost is weighted delay (`DelayLaws`). What lifting for
-- a choice gives is in proofs/Outcome.
pub mod LimitsLaws
pub mod DelayLaws
