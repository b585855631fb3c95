-- `solver::scoring::way_score` meets its contract: each pricing restores the marks, and `score` gives at least 1. The number of the way rises. Assumes
-- nothing.
use Prim.Native.Nat.{◌-◌, ◌≤◌}
use mathlib.Core.Path.{◌≡◌}
use Rattle.solver.proofs.scoring.way_score.Given as goal

abbrev pub invariant-loop-w : goal.invariant-loop-w
invariant-loop-w l = (l.w ≤ l.n) × (l.marks ≡ l.initial.marks)

abbrev pub decreases-loop-w : goal.decreases-loop-w
decreases-loop-w l = l.n - l.w
