-- The laws of stop_times.txt that rest on how a stop is read; the other laws stand beside their definitions in specs/.
pub mod BoundsLaws
pub mod OperationsLaws
pub mod PlaceLaws
pub mod ReadsLaws
pub mod RoundTripLaws
pub mod SpeltLaws
pub mod StopsLaws
