-- `orders::raising::lift` and the two that it calls, which call it again, meet their contracts. `raise_path` raises a leg and those after it on the train's
-- path; what leaves these legs to other trains is to do then (`Stepped`). `lift` sees to it leg by leg: of what leaves a leg `followers` does one part and
-- `comers` the other, and its loop's invariant is that of what left the path only that of the legs that are left is to do (`AsideOf`). The other two lift
-- the legs at which those arcs end, train by train in a loop whose invariant is that the arcs to the trains before j are done (`FromTrain`) and j is
-- marked. `raise_path` raises an event before any of these calls, so the slack falls: the measure of `lift` is twice the slack, that of the others one more.
use Prim.Native.Nat.{◌+◌, ◌*◌, ◌-◌, ◌<◌}
use mathlib.Core.Path.{◌≡◌}
use mathlib.Core.Bool.{true}
use lib.ListN.{get_or}
use Rattle.orders.specs.LeastMinutes.NoLater.{slack}
use Rattle.orders.specs.Plan.Bits.{in_mask}
use Rattle.orders.specs.Graph.LegGraph.{LegArc, leaving, UsedLeg}
use Rattle.orders.specs.Lift.Lifting.{After, Gone, GoingFor}
use Rattle.orders.specs.Lift.RaisedPaths.{AsideOf}
use Rattle.orders.proofs.Raise.RowLaws.{FromTrain}
use Rattle.orders.proofs.raising.+comers_followers_lift.Given as goal

abbrev pub decreases-comers : goal.decreases-comers
decreases-comers l = 2 * slack l.m.now + 1

abbrev pub decreases-followers : goal.decreases-followers
decreases-followers l = 2 * slack l.m.now + 1

abbrev pub decreases-lift : goal.decreases-lift
decreases-lift l = 2 * slack l.m.now

abbrev pub invariant-comers-loop-j : goal.invariant-comers-loop-j
invariant-comers-loop-j l = (l.j < 12 → in_mask (get_or l.marks (leaving l.ds l.e) 0) l.j ≡ true) × GoingFor l.marks l.t l.ds l.src l.cut (Gone l.e) (FromTrain (Gone l.e) l.j) l.initial.m l.m l.c

abbrev pub decreases-comers-loop-j : goal.decreases-comers-loop-j
decreases-comers-loop-j l = 12 - l.j

abbrev pub invariant-followers-loop-j : goal.invariant-followers-loop-j
invariant-followers-loop-j l = (l.j < 12 → in_mask (get_or l.marks l.e 0) l.j ≡ true) × GoingFor l.marks l.t l.ds l.src l.cut (After l.e) (FromTrain (After l.e) l.j) l.initial.m l.m l.c

abbrev pub decreases-followers-loop-j : goal.decreases-followers-loop-j
decreases-followers-loop-j l = 12 - l.j

abbrev pub invariant-lift-loop : goal.invariant-lift-loop
invariant-lift-loop l =
    GoingFor l.marks l.t l.ds l.src l.cut (AsideOf l.t l.end l.e) (AsideOf l.t (l.end - l.counter) l.f) l.initial.m l.m l.c ×
    UsedLeg l.ds l.f × ((a : LegArc) → AsideOf l.t (l.end - l.counter) l.f a → AsideOf l.t l.end l.e a)
