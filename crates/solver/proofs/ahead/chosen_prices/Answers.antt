-- `solver::ahead::chosen_prices` meets its contract: prices with all forced choices promise it, and a way that is dead within the cut of the best so far
-- holds nothing better. Assumes nothing.
use Rattle.solver.specs.Lookahead.AheadLaws.{try_price, prices_better}
use Rattle.solver.proofs.ahead.chosen_prices.Goals as goal

pub way_prices-requires : goal.way_prices-requires
way_prices-requires c = try_price _ _ _ _ _ _ _ c.requires

pub returns : goal.returns
returns c = prices_better _ _ _ _ _ _ _ c.cut_of.ensures _ _ _ _ c.way_prices.ensures
