-- The graph of a line's legs: its arcs from tables, directions and marks (`LegGraph`), the choices that marks stand for (`LegChoices`). That the
-- graph says what it is to keep the plan is in proofs/Graph.
pub mod LegGraph
pub mod LegsLaws
pub mod ShapedLaws
pub mod LegChoices
pub mod LegChoicesLaws
