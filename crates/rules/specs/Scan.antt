-- Laws of the code that scans for conflicts: what it collects of a station (`Scanning`), who stands when (`StandingLaws`, `StationLaws`), and the test of two
-- trains by one bit (`SignBitLaws`).
pub mod Scanning
pub mod ScanningLaws
pub mod StandingLaws
pub mod StationLaws
pub mod SignBitLaws
