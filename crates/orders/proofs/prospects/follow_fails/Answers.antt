-- `orders::prospects::follow_fails` meets its contract: the arcs of the choice ask for the minutes of a train behind, so every solution has them.
use mathlib.Core.Path.{refl}
use Rattle.orders.proofs.Lift.ServingLaws.{serves_behind}
use Rattle.orders.proofs.Look.ProspectsLaws.{none_chosen}
use Rattle.orders.proofs.prospects.follow_fails.Goals as goal

pub returns : goal.returns
returns c = λ q.
    none_chosen _ _ _ _ _ _ _ _ _
    (serves_behind _ _ _ c.args.m.now c.args.e _ c.args.j c.requires.0.ready.leg c.requires.1 _ _ c.requires.2 refl
    c.times_behind-b.ensures.0) (c.train_fails.ensures q)
