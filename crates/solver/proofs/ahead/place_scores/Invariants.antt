-- `solver::ahead::place_scores` meets its contract: the marks are as before after each place, which is the invariant. Assumes nothing.
use mathlib.Core.Path.{◌≡◌}
use Rattle.solver.proofs.ahead.place_scores.Given as goal

abbrev pub invariant-loop-place : goal.invariant-loop-place
invariant-loop-place l = l.marks ≡ l.initial.marks
