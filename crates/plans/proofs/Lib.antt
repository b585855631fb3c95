-- The laws of plans that rest on the ways out of a conflict, on the key of minutes or on what dead means; the other laws stand beside their definitions in specs/.
pub mod Clauses
pub mod Conflict
pub mod Instance
