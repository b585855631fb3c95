-- `solver::finding::search_around` meets its contract: keeping orders leads from the first plan to one to search, and what is found there is lawful whatever
-- the orders are. Assumes nothing.
use mathlib.Core.Path.{refl}
use Rattle.orders.specs.Plan.Marks.{free}
use Rattle.orders.specs.Lift.LiftingLaws.{some_alive}
use Rattle.solver.specs.Search.FindingLaws.{first_searchable, near_held, improved_none, improved_sought}
use Rattle.solver.proofs.finding.search_around.Goals as goal

pub keep_orders-requires : goal.keep_orders-requires
unfolding free
keep_orders-requires c =
    let p = c.requires in
    let g = p.first.given in
    record {
      line = p.line;
      among = record { tabled = g.tabled; layout_is = g.layout_is };
      searchable = first_searchable p.line c.args.first.now _ _ _ p.first _ refl;
    }

pub returns-in_default : goal.returns-in_default
returns-in_default c l h =
    improved_none l _ _ _ c.afresh-b.ensures h.given.tallied

pub take_up-requires : goal.take_up-requires
unfolding free
take_up-requires c =
    let p = c.requires in
    let g = p.first.given in
    let near = (rw c.in-Some.is at (c.keep_orders.ensures (rw c.in-Some.is (some_alive refl)))).leads p.line (record { tabled = g.tabled; layout_is = g.layout_is })
    (first_searchable p.line c.args.first.now _ _ _ p.first _ refl) in
    record {
      line = p.line;
      held = near_held p.line _ _ _ c.afresh-b.ensures c.args.first.now _ p.first _ _ _ near;
    }

pub returns : goal.returns
unfolding free
returns c l h =
    let g = h.given in
    let near = (rw c.in-Some.is at (c.keep_orders.ensures (rw c.in-Some.is (some_alive refl)))).leads l (record { tabled = g.tabled; layout_is = g.layout_is })
    (first_searchable l c.args.first.now _ _ _ h _ refl) in
    improved_sought l _ _ _ c.afresh-b.ensures _ _ _ _ _ _ (c.take_up.ensures l (near_held l _ _ _ c.afresh-b.ensures c.args.first.now _ h _ _ _ near)).0
