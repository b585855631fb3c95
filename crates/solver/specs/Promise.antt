-- What solving a file promises (`Solving`), and demand 3 of it, whole (`Demand`). Begin here.
pub mod Solving
pub mod SolvingLaws
pub mod Demand
