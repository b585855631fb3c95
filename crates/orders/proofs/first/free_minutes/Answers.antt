-- The answers; the idea of the proof is at the head of the invariants.
use Prim.Native.Nat.{◌%◌}
use mathlib.Core.Path.{◌≡◌, ◌∙◌}
use native.Mathlib.Omega.{arith}
use Rattle.finite.specs.FillLaws.{begun_more}
use Rattle.orders.specs.Graph.LegsLaws.{leg_is, leg-not}
use Rattle.orders.specs.LeastMinutes.FirstPlan.{free_entry}
use Rattle.orders.specs.LeastMinutes.FirstPlanLaws.{minute_none, minutes_made}
use Rattle.orders.proofs.first.free_minutes.Goals as goal
use Rattle.orders.proofs.first.free_minutes.Goals.{then-ds-x-eq0, else-ds-x-eq0}

pub leg_minute-requires : goal.leg_minute-requires
leg_minute-requires c =
    let x = c.loop-x.x in
    let ds = c.directions_of-ds.ensures in
    (c.requires.0, c.requires.1, c.loop-x-test.true, leg_is c.args.line (x % 176) _ c.requires.0.trains.1 (omega arith) ds c.if-ds-x-eq0.false)

pub loop-x-preserved : goal.loop-x-preserved
loop-x-preserved c =
    let w = c.loop-x in
    let x = w.x in
    let minute : c.if-ds-x-eq0.minutes ≡ free_entry c.args.line x = elim c.if-ds-x-eq0.branch [
      | then-ds-x-eq0 h ↦ h.minutes-is ∙ minute_none c.args.line x
          (leg-not c.args.line (x % 176) _ c.requires.0.trains.1 (omega arith) c.directions_of-ds.ensures h.if-ds-x-eq0.true)
      | else-ds-x-eq0 h ↦ h.minutes-is ∙ h.leg_minute.ensures
    ] in
    begun_more (free_entry c.args.line) 352 x _ _ w.invariant c.loop-x-test.true minute

pub returns : goal.returns
returns c = minutes_made _ _ _ c.loop-x.invariant (omega arith)
