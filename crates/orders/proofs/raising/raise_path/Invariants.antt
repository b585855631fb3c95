-- `orders::raising::raise_path` meets its contract. The invariant: from the minutes that the first leg was raised from, so many legs from e on are later, f
-- is the last of them, and its next leg, and what leaves them to other trains, is to do (`AlongPath`). Each leg that is raised lowers the slack: that bounds
-- the count of legs too.
use Rattle.orders.specs.LeastMinutes.NoLater.{slack}
use Rattle.orders.proofs.Lift.RaisedPathsLaws.{AlongPath}
use Rattle.orders.proofs.raising.raise_path.Given as goal

abbrev pub invariant-loop-f : goal.invariant-loop-f
invariant-loop-f l = AlongPath l.marks l.t l.ds l.src l.cut l.e l.v l.w l.fn.m l.m l.c l.f l.legs

abbrev pub decreases-loop-f : goal.decreases-loop-f
decreases-loop-f l = slack l.m
