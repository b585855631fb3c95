-- `solver::finding::search_within` meets its contract: it takes up the plan without choices. Assumes nothing.
use Rattle.orders.specs.Plan.Marks.{free}
use Rattle.solver.specs.Search.FindingLaws.{afresh_held, searched_sought}
use Rattle.solver.proofs.finding.search_within.Goals as goal

pub take_up-requires : goal.take_up-requires
unfolding free
take_up-requires c =
    let p = c.requires in
    record {
      line = p.line;
      held = afresh_held p.line _ _ _ c.afresh.ensures _ _ _ _ p.first;
    }

pub returns : goal.returns
unfolding free
returns c l h =
    let afresh = c.afresh.ensures in
    searched_sought l _ _ _ afresh _ _ _ _ (c.take_up.ensures l (afresh_held l _ _ _ afresh _ _ _ _ h)).0
