-- Raising: what it promises over any graph (`Raising`), one leg's new minutes (`LegTimes`) and what they cost (`CostLaws`), and the stores of one leg.
pub mod Raising
pub mod RaisingLaws
pub mod LegTimes
pub mod LegTimesLaws
pub mod CostLaws
pub mod StoreLaws
