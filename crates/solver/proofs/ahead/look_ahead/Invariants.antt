-- `solver::ahead::look_ahead` meets its contract: a place at a time. The invariant: what is held is a conflict, if any. Assumes nothing.
use Rattle.solver.specs.Selection.Selecting.{FindsReal}
use Rattle.solver.proofs.ahead.look_ahead.Given as goal

abbrev pub invariant-loop : goal.invariant-loop
invariant-loop l = FindsReal l.m l.initial.marks l.day l.marks l.b.conflict
