-- `plans::costing::way_cost` meets its contract: what raising promises of the line with every latest waived, read as a promise of the line itself.
use native.Mathlib.Omega.{arith}
use Rattle.orders.specs.LeastMinutes.CarriedLaws.{delay-most}
use Rattle.orders.specs.Waived.WaivedLine.{waived}
use Rattle.plans.proofs.Clauses.WayCostsLaws.{waived_chooses, raises_tells}
use Rattle.plans.proofs.costing.way_cost.Goals as goal

pub raised-requires : goal.raised-requires
raised-requires c =
    let p = c.requires in
    record {
      line = waived p.line;
      choice = p.choice;
      plan = p.plan;
      chooses = waived_chooses p.line p.choice p.plan _ _ _ _ _ _ p.chooses;
    }

pub returns : goal.returns
returns c l x p h =
    raises_tells l x p _ _ _ _ _ _ h _ (λ m z. omega (arith, delay-most l h.runnable m z)) _ _
    (c.raised.ensures (waived l) x p (waived_chooses l x p _ _ _ _ _ _ h))
