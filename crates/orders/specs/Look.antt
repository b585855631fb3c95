-- A first look at a choice, before anything is raised; its laws are in proofs/Look.
pub mod Prospects
