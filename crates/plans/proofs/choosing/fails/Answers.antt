-- `plans::choosing::fails` meets its contract: the plan costs too much already, or a first look along the legs shows it. Assumes nothing.
use native.Mathlib.Omega.{arith}
use Rattle.plans.proofs.Clauses.ChoosingLaws.{segment_asks, station_asks, none_raises, dear_none}
use Rattle.plans.proofs.choosing.fails.Goals as goal

pub returns-then-cut-cost : goal.returns-then-cut-cost
returns-then-cut-cost c e l x p h = dear_none l p _ _ _ _ _ _ _ x h c.if-cut-cost.true

pub come_after_fails-requires : goal.come_after_fails-requires
come_after_fails-requires c =
    let a = c.requires in
    station_asks a.line a.plan _ _ _ _ _ _ _ a.choice a.chooses c.if-way.true (omega (arith, c.if-cut-cost.false))

pub returns-then-way : goal.returns-then-way
returns-then-way c e l x p h = none_raises l p _ _ _ _ _ _ _ x h (c.come_after_fails.ensures e)

pub follow_fails-requires : goal.follow_fails-requires
follow_fails-requires c =
    let a = c.requires in
    segment_asks a.line a.plan _ _ _ _ _ _ _ a.choice a.chooses c.if-way.false (omega (arith, c.if-cut-cost.false))

pub returns-else-way : goal.returns-else-way
returns-else-way c e l x p h = none_raises l p _ _ _ _ _ _ _ x h (c.follow_fails.ensures e)
