-- `solver::ahead::highest_place` meets its contract: what it holds is a place. Assumes nothing.
use Prim.Native.Nat.{◌<◌, ℕ}
use Rattle.std.specs.Prelude.{IfSome}
use Rattle.solver.proofs.ahead.highest_place.Given as goal

abbrev pub invariant-loop-place : goal.invariant-loop-place
invariant-loop-place l = IfSome l.highest (λ (place : ℕ). place < 24)
