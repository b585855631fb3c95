-- `orders::first::free_in_time` meets its contract. The invariant: the trains before i arrive in time. Assumes nothing.
use Rattle.orders.specs.LeastMinutes.FirstPlanLaws.{EndsBelow}
use Rattle.orders.proofs.first.free_in_time.Given as goal

abbrev pub invariant-loop-i : goal.invariant-loop-i
invariant-loop-i l = EndsBelow l.line l.i
