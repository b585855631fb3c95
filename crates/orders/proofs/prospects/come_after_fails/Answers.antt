-- `orders::prospects::come_after_fails` meets its contract: a train that goes over the segment before cannot come after; for any other, the one arc of the
-- choice asks that it come after the departure of leg e, so it does in every solution.
use mathlib.Core.Path.{refl}
use Rattle.orders.proofs.Lift.ServingLaws.{serves_comes}
use Rattle.orders.proofs.Look.ProspectsLaws.{none_chosen, before_none}
use Rattle.orders.proofs.prospects.come_after_fails.Goals as goal

pub returns-then-goes_before : goal.returns-then-goes_before
returns-then-goes_before c = λ _.
    before_none _ _ _ _ _ _ _ _ _ c.requires.0.ready c.requires.1 c.requires.2 c.coming_leg-f.ensures
    (c.goes_before.ensures c.if-goes_before.true)

pub returns-else-goes_before : goal.returns-else-goes_before
returns-else-goes_before c = λ q.
    none_chosen _ _ _ _ _ _ _ _ _
    (serves_comes _ _ _ c.args.m.now c.args.e _ c.args.j c.requires.0.ready.leg c.requires.1 _ c.requires.2
    c.coming_leg-f.ensures refl) (c.train_fails.ensures q)
