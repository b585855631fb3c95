-- `rules::delay::arrived_after` meets its contract. The invariant: the arrival is that after leg j, worked out from the runs, stops and floors in their lists. It
-- is at most 12,000 (`arrived_most`), and so is the departure before it, which is the later of the end of the stop and the floor. Assumes nothing.
use Rattle.std.proofs.Common.{◌≡◌}
use Rattle.rules.specs.Check.Floors.{arrived_after}
use Rattle.rules.proofs.delay.arrived_after.Given as goal

abbrev pub invariant-loop-j : goal.invariant-loop-j
invariant-loop-j l = l.arrival ≡ arrived_after l.initial.arrival l.train.runs l.train.stops l.floors l.i l.j
