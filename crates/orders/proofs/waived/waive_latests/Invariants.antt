-- `orders::waived::waive_latests` meets its contract. The invariant: the first i trains are waived, and the others as they were.
use Rattle.orders.specs.Waived.WaivingLaws.{WaivedFirst}
use Rattle.orders.proofs.waived.waive_latests.Given as goal

abbrev pub invariant-loop-i : goal.invariant-loop-i
invariant-loop-i l = WaivedFirst l.i l.line.traffic.trains l.trains
