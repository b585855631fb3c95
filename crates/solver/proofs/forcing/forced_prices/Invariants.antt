-- `solver::forcing::forced_prices` meets its contract: there is no price where nothing better is in a way, or where there is none.
-- The invariant: the numbers before w are priced. Assumes nothing.
use Prim.Native.Nat.{◌-◌, ◌≤◌}
use mathlib.Core.Path.{◌≡◌}
use lib.ListN.{length}
use Rattle.std.specs.Prelude.{Some}
use Rattle.solver.specs.Lookahead.Forcing.{PricesForcedBelow}
use Rattle.solver.proofs.forcing.forced_prices.Given as goal

abbrev pub invariant-loop-w : goal.invariant-loop-w
invariant-loop-w l = (l.w ≤ l.n) × PricesForcedBelow l.m l.marks l.best l.day l.cost l.tally (Some l.conflict) l.w l.prices × (length l.prices ≡ 144)

abbrev pub decreases-loop-w : goal.decreases-loop-w
decreases-loop-w l = l.n - l.w
