-- `timetable::checking::lists_breach` meets its contract. The invariant: the lists before k are right.
use Rattle.finite.specs.Below.{EachBelow}
use Rattle.rules.specs.Lists.Orders.{lists_in}
use Rattle.timetable.specs.Told.{named_first}
use Rattle.timetable.specs.CheckLoopLaws.{Right}
use Rattle.timetable.proofs.checking.lists_breach.Given as goal

abbrev pub invariant-loop-k : goal.invariant-loop-k
invariant-loop-k l = EachBelow l.k (Right (named_first l.own.count l.lists) (lists_in l.own))
