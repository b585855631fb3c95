-- `solver::search::take_up`, `try_ways` and `try_way`, a cycle of calls, meet their contracts. Measures 3 slack + 2, + 1 and + 0: the slack falls where a
-- way's plan is taken up. The loop's invariant: the ways without a price, dead or tried, hold nothing better.
use Prim.Native.Nat.{◌+◌, ◌*◌}
use mathlib.Core.Path.{◌≡◌}
use lib.ListN.{length}
use Rattle.finite.specs.Below.{count}
use Rattle.orders.specs.LeastMinutes.NoLater.{slack}
use Rattle.solver.specs.Selection.Pricing.{untried}
use Rattle.std.specs.Prelude.{Some}
use Rattle.plans.specs.Conflict.Ways.{way_count}
use Rattle.solver.specs.Search.Searching.{TriesSome}
use Rattle.solver.proofs.search.+take_up_try_way_try_ways.Given as goal

abbrev pub decreases-take_up : goal.decreases-take_up
decreases-take_up l = 3 * slack l.m.now + 2

abbrev pub decreases-try_way : goal.decreases-try_way
decreases-try_way l = 3 * slack l.m.now

abbrev pub decreases-try_ways : goal.decreases-try_ways
decreases-try_ways l = 3 * slack l.m.now + 1

abbrev pub invariant-try_ways-loop-w : goal.invariant-try_ways-loop-w
invariant-try_ways-loop-w l =
    (l.n ≡ way_count (Some l.conflict)) ×
    TriesSome l.m l.initial.marks l.initial.best l.day l.cost l.limit l.initial.b (Some l.conflict) l.n l.prices l.marks l.best l.b × (length l.prices ≡ 144)

abbrev pub decreases-try_ways-loop-w : goal.decreases-try_ways-loop-w
decreases-try_ways-loop-w l = count (untried l.prices) l.n
