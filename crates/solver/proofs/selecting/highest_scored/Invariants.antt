-- `solver::selecting::highest_scored` meets its contract: place after place. The invariant: what is held is a conflict, if any, and the place is one of
-- the line's. Assumes nothing.
use Prim.Native.Nat.{◌<◌}
use Rattle.solver.specs.Selection.Selecting.{FindsReal}
use Rattle.solver.proofs.selecting.highest_scored.Given as goal

abbrev pub invariant-loop : goal.invariant-loop
invariant-loop l = FindsReal l.m l.initial.marks l.day l.marks l.b.conflict × (l.p < l.places)
