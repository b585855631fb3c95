-- `orders::raising::raise_leg` meets its contract: the laws of the stores say what is to do after them, and that there is no way where it answers so.
use mathlib.Core.Path.{refl}
use native.Mathlib.Omega.{arith}
use Rattle.orders.specs.Raise.CostLaws.{cost-most}
use Rattle.orders.specs.Raise.LegTimesLaws.{departs_small, departs_by, arrives_by}
use Rattle.orders.specs.Raise.StoreLaws.{store_late, store_back, store_dear, store}
use Rattle.orders.proofs.raising.raise_leg.Goals as goal

pub arrival_for-arrival-requires : goal.arrival_for-arrival-requires
arrival_for-arrival-requires c = (
  departs_small _ _ _ _ _ c.departure_for-departure.ensures (c.requires.0.within c.args.e) c.requires.2 c.requires.3,
  omega (arith, c.run_at-run.ensures, c.requires.0.shaped.run-most c.args.e c.requires.0.leg.0),
)

pub returns-then-arrival-limit_at : goal.returns-then-arrival-limit_at
returns-then-arrival-limit_at c =
    store_late _ _ _ _ _ _ _ _ _ _ _ _ c.requires.0
    (departs_by c.args.t.now c.args.e c.run_at-run.ensures c.departure_for-departure.ensures)
    (arrives_by c.args.t.now c.args.e c.run_at-run.ensures c.arrival_for-arrival.ensures) _
    c.limit_at.ensures c.if-arrival-limit_at.true

pub returns-then-source_rises : goal.returns-then-source_rises
returns-then-source_rises c =
    store_back _ _ _ _ _ _ _ _ _ _ _ _ c.requires.0
    (departs_by c.args.t.now c.args.e c.run_at-run.ensures
    c.departure_for-departure.ensures)
    (arrives_by c.args.t.now c.args.e c.run_at-run.ensures
    c.arrival_for-arrival.ensures) _ c.source_rises.ensures c.if-source_rises.true

pub more_cost-requires : goal.more_cost-requires
more_cost-requires c =
    let r = c.requires.0 in
    let most = r.shaped.limit_most c.args.e r.leg.0 in (
      r.leg.0,
      r.shaped.weight-most c.args.e r.leg.0,
      c.arrival_for-arrival.ensures.old,
      omega (arith, c.if-arrival-limit_at.false, c.limit_at.ensures),
    )

pub overflow_add-c : goal.overflow_add-c
overflow_add-c c =
    let r = c.requires.0 in
    omega (arith, c.more_cost.ensures.1, r.cost_is, cost-most c.args.t.now c.args.m.now r.shaped.weight-most r.within)

pub returns-then-c-cut : goal.returns-then-c-cut
returns-then-c-cut c =
    store_dear _ _ _ _ _ _ _ _ _ _ _ _ c.requires.0
    (departs_by c.args.t.now c.args.e c.run_at-run.ensures
    c.departure_for-departure.ensures)
    (arrives_by c.args.t.now c.args.e c.run_at-run.ensures
    c.arrival_for-arrival.ensures) _ _ c.more_cost.ensures.0 refl c.if-c-cut.true

pub returns : goal.returns
returns c =
    let run = c.run_at-run.ensures in
    store _ _ _ _ _ _ _ _ _ _ _ _ c.requires.0 (departs_by c.args.t.now c.args.e run c.departure_for-departure.ensures)
    (arrives_by c.args.t.now c.args.e run c.arrival_for-arrival.ensures) _ _ c.more_cost.ensures.0 refl
    _ c.limit_at.ensures c.if-arrival-limit_at.false _
    c.source_rises.ensures c.if-source_rises.false c.if-c-cut.false c.requires.1
