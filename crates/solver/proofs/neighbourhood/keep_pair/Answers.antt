-- `solver::neighbourhood::keep_pair` meets its contract: an order to keep fits every line with that segment, either way round. Assumes nothing.
use Rattle.solver.specs.Search.NeighbourhoodLaws.{leads_nowhere, leads_among, keep_among, order_other, order_fits, segment_low}
use Rattle.solver.proofs.neighbourhood.keep_pair.Goals as goal

pub keeps_order-requires : goal.keeps_order-requires
keeps_order-requires c =
    let p = c.requires.0 in (segment_low _ c.args.day.now _ p.line p.among, c.requires.1, c.requires.2)

pub returns-then-not-keeps_order : goal.returns-then-not-keeps_order
returns-then-not-keeps_order c _ = leads_nowhere _ _ _ _

pub keep_first-requires : goal.keep_first-requires
keep_first-requires c =
    let a = c.requires in
    let order = c.keeps_order.ensures c.if-not-keeps_order.false in
    keep_among _ _ _ _ _ (λ l h. order_fits _ c.args.day.now _ l h _ _ a.2 a.1 (order_other _ c.args.day.now _ _ _ order)) a.0

pub returns-then-kept-p : goal.returns-then-kept-p
returns-then-kept-p c alive =
    let a = c.requires in
    let order = c.keeps_order.ensures c.if-not-keeps_order.false in
    leads_among _ _ _ _ _ (λ l h. order_fits _ c.args.day.now _ l h _ _ a.2 a.1 (order_other _ c.args.day.now _ _ _ order)) _ _ _ (c.keep_first.ensures alive)

pub keep_first-requires-2 : goal.keep_first-requires-2
keep_first-requires-2 c =
    let a = c.requires in
    let order = c.keeps_order.ensures c.if-not-keeps_order.false in
    keep_among _ _ _ _ _ (λ l h. order_fits _ c.args.day.now _ l h _ _ a.1 a.2 order) a.0

pub returns : goal.returns
returns c alive =
    let a = c.requires in
    let order = c.keeps_order.ensures c.if-not-keeps_order.false in
    leads_among _ _ _ _ _ (λ l h. order_fits _ c.args.day.now _ l h _ _ a.1 a.2 order) _ _ _ (c.keep_first-2.ensures alive)
