-- `solver::selecting::with_train` meets its contract: pair after pair. The invariant: what is held is in conflict where the old one is. Assumes nothing.
use Prim.Native.Nat.{◌-◌}
use Rattle.solver.specs.Selection.Selecting.{ScoresOn}
use Rattle.solver.proofs.selecting.with_train.Given as goal

abbrev pub invariant-loop-j : goal.invariant-loop-j
invariant-loop-j l = ScoresOn l.m l.initial.marks l.day l.g l.n l.p l.initial.b l.marks l.b

abbrev pub decreases-loop-j : goal.decreases-loop-j
decreases-loop-j l = l.n - l.j
