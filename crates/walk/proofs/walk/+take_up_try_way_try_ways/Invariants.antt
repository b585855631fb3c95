-- `walk::walk::take_up`, `try_ways` and `try_way`, a cycle of calls, meet their contracts. Measures 3 slack + 2, + 1 and + 0: the slack falls where
-- a way's plan is taken up. The loop's invariant: the ways before w are tried, for every line of which what is given holds.
use Prim.Native.Nat.{◌+◌, ◌*◌, ◌-◌, ◌≤◌}
use Rattle.std.specs.Prelude.{Some}
use Rattle.orders.specs.LeastMinutes.NoLater.{slack}
use Rattle.walk.specs.Taking.{TriesFirst}
use Rattle.walk.proofs.walk.+take_up_try_way_try_ways.Given as goal

abbrev pub decreases-take_up : goal.decreases-take_up
decreases-take_up l = 3 * slack l.m.now + 2

abbrev pub decreases-try_way : goal.decreases-try_way
decreases-try_way l = 3 * slack l.m.now

abbrev pub decreases-try_ways : goal.decreases-try_ways
decreases-try_ways l = 3 * slack l.m.now + 1

abbrev pub invariant-try_ways-loop-w : goal.invariant-try_ways-loop-w
invariant-try_ways-loop-w l =
    TriesFirst l.m l.initial.marks l.initial.best l.day.tables l.day.ds l.day.key l.day.layout l.cost l.initial.b (Some l.conflict) l.w l.marks l.best l.b ×
    (l.w ≤ l.n)

abbrev pub decreases-try_ways-loop-w : goal.decreases-try_ways-loop-w
decreases-try_ways-loop-w l = l.n - l.w
