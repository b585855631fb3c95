-- `solver::forcing::forced_price` meets its contract: the choices that are made are forced, so whatever better is in the plan at the start is in the plan that
-- is followed. The invariant says so. Assumes nothing.
use Rattle.line.specs.declared.Line.{Line}
use Rattle.std.specs.Prelude.{Some}
use Rattle.orders.specs.Plan.Choices.{Choice}
use Rattle.orders.specs.Plan.Marks.{also}
use Rattle.plans.specs.Clauses.Choosing.{IsWay}
use Rattle.solver.specs.Search.Searching.{Held}
use Rattle.solver.specs.Lookahead.Forcing.{Narrowed}
use Rattle.solver.proofs.forcing.forced_price.Given as goal

abbrev pub invariant-loop : goal.invariant-loop
invariant-loop l =
    (y : Line) (x : Choice) → Held y l.m l.marks l.best l.day l.cost l.tally → IsWay y l.m l.day.ds x l.fn.way →
    Narrowed y (also x l.marks) l.q l.own l.best l.day (Some l.c) l.tally
