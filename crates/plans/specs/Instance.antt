-- The line as an instance of the theory: its parts (`Planning`, `TidyMinutes`). Their laws are in proofs/Instance.
pub mod Planning
pub mod TidyMinutes
pub mod PreferredLaws
pub mod TidyMinutesLaws
