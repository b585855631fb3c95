-- `solver::neighbourhood::keep_orders` meets its contract: on every line with this layout what is there is always a plan to search wherever the first was. Assumes nothing.
use Rattle.solver.specs.Search.Neighbourhood.{Leads, OnLayout}
use Rattle.solver.proofs.neighbourhood.keep_orders.Given as goal

abbrev pub invariant-loop-p : goal.invariant-loop-p
invariant-loop-p l = Leads (OnLayout l.day) l.initial.marks l.initial.m l.cost l.marks l.m l.c
