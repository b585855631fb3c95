-- `solver::pricing::way_prices` meets its contract: there is no price where a way is dead, or where there is none. The invariant:
-- the numbers before w are priced. Assumes nothing.
use Prim.Native.Nat.{◌-◌, ◌≤◌}
use mathlib.Core.Path.{◌≡◌}
use lib.ListN.{length}
use Rattle.solver.specs.Selection.Pricing.{PricesBelow}
use Rattle.solver.proofs.pricing.way_prices.Given as goal

abbrev pub invariant-loop-w : goal.invariant-loop-w
invariant-loop-w l = (l.w ≤ l.n) × PricesBelow l.m l.initial.marks l.day l.cost l.cut l.conflict l.w l.marks l.prices × (length l.prices ≡ 144)

abbrev pub decreases-loop-w : goal.decreases-loop-w
decreases-loop-w l = l.n - l.w
