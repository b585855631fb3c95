-- `orders::prospects::Prospect::train_fails` meets its contract: minutes that keep the train's runs and stops arrive at its end no earlier than by those that are left
-- after leg e (`none_by`).
use Rattle.orders.proofs.Look.ProspectsLaws.{none_by}
use Rattle.orders.proofs.prospects.Prospect.train_fails.Goals as goal

pub returns : goal.returns
returns c = λ q.
    none_by _ _ _ _ _ _ _ _ _ c.requires.0 _ _ _ _ c.run_at.ensures c.arrival_for-arrival.ensures
    c.last_at.ensures c.rest_at.ensures (c.end_fails.ensures q)
