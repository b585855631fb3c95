-- `plans::choosing::raised` meets its contract: the laws of raising, for every line of which what it asks for holds. Assumes nothing.
use native.Mathlib.Omega.{arith}
use Rattle.plans.proofs.Clauses.ChoosingLaws.{segment_asks, station_asks, chose_raises, dear_raises}
use Rattle.plans.proofs.choosing.raised.Goals as goal

pub returns-then-cut-cost : goal.returns-then-cut-cost
returns-then-cut-cost c l x p h = dear_raises l p _ _ _ _ _ _ _ x h c.if-cut-cost.true

pub come_after-requires : goal.come_after-requires
come_after-requires c =
    let a = c.requires in
    station_asks a.line a.plan _ _ _ _ _ _ _ a.choice a.chooses c.if-way.true (omega (arith, c.if-cut-cost.false))

pub returns-then-way : goal.returns-then-way
returns-then-way c l x p h = chose_raises l p _ _ _ _ _ _ _ x h _ _ c.come_after.ensures

pub follow-requires : goal.follow-requires
follow-requires c =
    let a = c.requires in
    segment_asks a.line a.plan _ _ _ _ _ _ _ a.choice a.chooses c.if-way.false (omega (arith, c.if-cut-cost.false))

pub returns-else-way : goal.returns-else-way
returns-else-way c l x p h = chose_raises l p _ _ _ _ _ _ _ x h _ _ c.follow.ensures
