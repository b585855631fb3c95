-- The answers; the idea of the proof is at the head of the invariants.
use Prim.Native.Nat.{ℕ, ◌+◌, ◌-◌}
use mathlib.Core.Path.{◌≡◌, refl, sym, ◌∙◌, ap, subst}
use mathlib.Core.Logic.{inr}
use native.Mathlib.Omega.{arith}
use lib.ListN.{get_or}
use Rattle.orders.specs.Graph.LegGraph.{LegArc, UsedLeg}
use Rattle.orders.specs.Lift.Lifting.{GoingFor, told_cost}
use Rattle.orders.specs.Lift.RaisedPaths.{AsideOf}
use Rattle.orders.specs.Lift.LiftingLaws.{some_alive, going_start, going_ready, going_slack, stepped_ready, stepped_last}
use Rattle.orders.proofs.Lift.ServingLaws.{serves_behind, serves_comes}
use Rattle.orders.proofs.Raise.RowLaws.{after-row, gone_row, row-start, row_none, row_next, row-end, comes_leg, row_still, row_raised, row_dead}
use Rattle.orders.specs.Lift.SpreadingLaws.{RestAside, spread_after, spread_after_dead, spread_gone, spread_gone_dead, spread_end}
use Rattle.orders.proofs.raising.+comers_followers_lift.Goals as goal
use Rattle.orders.proofs.raising.+comers_followers_lift.Goals.{comers-then-m-f+in_ok-c, comers-else-m-f, followers-then-rises+in_ok-c, followers-else-rises}

pub comers-returns-then-s-eq0 : goal.comers-returns-then-s-eq0
comers-returns-then-s-eq0 t c =
    row_none _ _ _ _ _ _ (gone_row _ _ _ c.args.e) _ _ _ _ _ _ c.requires
    (ap (λ (x : ℕ). get_or c.args.marks.now x 0) c.leaving_row-row.ensures.0) c.if-s-eq0.true

pub comers-loop-j-init : goal.comers-loop-j-init
comers-loop-j-init t c =
    let row = gone_row c.args.marks.now c.args.t.now c.args.ds.now c.args.e in
    row_next _ _ _ _ _ _ row _ _ _ _ _ _ (row-start _ _ _ _ _ _ row _ _ _ _ _ c.requires) _ _
    (ap (λ (x : ℕ). get_or c.args.marks.now x 0) c.leaving_row-row.ensures.0) c.next_bit-j.ensures

pub comers-lift-requires : goal.comers-lift-requires
comers-lift-requires t c =
    let g = c.loop-j.invariant.1 in
    let train = c.loop-j-test.true in
    let leg = comes_leg _ _ _ _ _ _ _ c.requires _ train _ (c.loop-j.invariant.0 train) c.coming_leg-f.ensures in (
      omega (arith, c.decreases, going_slack _ _ _ _ _ _ _ _ _ _ _ g),
      (
        going_ready _ _ _ _ _ _ _ _ _ _ _ g _ _ _ c.requires leg,
        inr c.if-m-f.true,
        omega arith,
        omega
            (arith, g.raised.grown.within c.args.e),
      ),
    )

pub comers-returns-in_err-c : goal.comers-returns-in_err-c
comers-returns-in_err-c t c =
    let row = gone_row c.args.marks.now c.args.t.now c.args.ds.now c.args.e in
    let train = c.loop-j-test.true in
    rw c.from_residual.ensures
    (row_dead _ _ _ _ _ _ row _ _ _ _ _ _ c.loop-j.invariant.1 _ _ _
    (serves_comes _ _ _ _ _ _ _ c.requires.leg train _ (c.loop-j.invariant.0 train) c.coming_leg-f.ensures refl)
    _ _ c.lift.ensures c.in_err-c.was)

pub comers-loop-j-preserved : goal.comers-loop-j-preserved
comers-loop-j-preserved t c =
    let row = gone_row c.args.marks.now c.args.t.now c.args.ds.now c.args.e in
    let train = c.loop-j-test.true in
    let leg = c.coming_leg-f.ensures in
    let on = c.loop-j.invariant.0 train in
    let g = c.loop-j.invariant.1 in
    row_next _ _ _ _ _ _ row _ _ _ _ (c.loop-j.j + 1) _
    (elim c.if-m-f.branch [
      | comers-then-m-f+in_ok-c w ↦ row_raised _ _ _ _ _ _ row _ _ _ _ _ _ g _ _ _ _ _ (serves_comes _ _ _ _ _ _ _ c.requires.leg train _ on leg refl)
          _ _ w.lift.ensures (some_alive w.in_ok-c.was) w.m-is (w.c-is ∙ sym (ap told_cost w.in_ok-c.was))
      | comers-else-m-f w ↦ row_still _ _ _ _ _ _ row _ _ _ _ _ _ g _ _ _ _ _ (serves_comes _ _ _ _ _ _ _ c.requires.leg train _ on leg refl)
          (omega arith) w.if-m-f.false w.m-is w.c-is
    ]) _ _ (ap (λ (x : ℕ). get_or c.args.marks.now x 0) c.leaving_row-row.ensures.0)
    c.next_bit-j-in-loop-j.ensures

pub comers-returns : goal.comers-returns
comers-returns t c =
    row-end _ _ _ _ _ _ (gone_row _ _ _ c.args.e) _ _ _ _ _ _ c.loop-j.invariant.1 c.loop-j-test.false

pub followers-returns-then-s-eq0 : goal.followers-returns-then-s-eq0
followers-returns-then-s-eq0 t c =
    row_none _ _ _ _ _ _ (after-row _ _ _ c.args.e) _ _ _ _ _ _ c.requires refl c.if-s-eq0.true

pub followers-loop-j-init : goal.followers-loop-j-init
followers-loop-j-init t c =
    let row = after-row c.args.marks.now c.args.t.now c.args.ds.now c.args.e in
    row_next _ _ _ _ _ _ row _ _ _ _ _ _ (row-start _ _ _ _ _ _ row _ _ _ _ _ c.requires) _ _ refl c.next_bit-j.ensures

pub followers-lift-requires : goal.followers-lift-requires
followers-lift-requires t c =
    let g = c.loop-j.invariant.1 in
    let train = c.loop-j-test.true in
    let b = c.times_behind-b.ensures in (
      omega (arith, c.decreases, going_slack _ _ _ _ _ _ _ _ _ _ _ g),
      (
        going_ready _ _ _ _ _ _ _ _ _ _ _ g _ _ _ c.requires
            (c.requires.shaped.beside_used c.args.e _ c.requires.leg train (c.loop-j.invariant.0 train)),
        c.rises.ensures.0 c.if-rises.true,
        omega
            (arith, b.1),
        omega (arith, b.2),
      ),
    )

pub followers-returns-in_err-c : goal.followers-returns-in_err-c
followers-returns-in_err-c t c =
    let row = after-row c.args.marks.now c.args.t.now c.args.ds.now c.args.e in
    let train = c.loop-j-test.true in
    let behind = c.times_behind-b.ensures.0 in
    rw c.from_residual.ensures
    (row_dead _ _ _ _ _ _ row _ _ _ _ _ _ c.loop-j.invariant.1 _ _ _
    (serves_behind _ _ _ _ _ _ _ c.requires.leg train _ _ (c.loop-j.invariant.0 train) refl behind) _ _ c.lift.ensures c.in_err-c.was)

pub followers-loop-j-preserved : goal.followers-loop-j-preserved
followers-loop-j-preserved t c =
    let row = after-row c.args.marks.now c.args.t.now c.args.ds.now c.args.e in
    let train = c.loop-j-test.true in
    let behind = c.times_behind-b.ensures.0 in
    let on = c.loop-j.invariant.0 train in
    let g = c.loop-j.invariant.1 in
    row_next _ _ _ _ _ _ row _ _ _ _ (c.loop-j.j + 1) _
    (elim c.if-rises.branch [
      | followers-then-rises+in_ok-c w ↦ row_raised _ _ _ _ _ _ row _ _ _ _ _ _ g _ _ _ _ _ (serves_behind _ _ _ _ _ _ _ c.requires.leg train _ _ on refl behind)
          _ _ w.lift.ensures (some_alive w.in_ok-c.was) w.m-is (w.c-is ∙ sym (ap told_cost w.in_ok-c.was))
      | followers-else-rises w ↦
          (let z = c.rises.ensures.1 w.if-rises.false in
          row_still _ _ _ _ _ _ row _ _ _ _ _ _ g _ _ _ _ _ (serves_behind _ _ _ _ _ _ _ c.requires.leg train _ _ on refl behind)
          z.0 z.1 w.m-is w.c-is)
    ]) _ _ refl c.next_bit-j-in-loop-j.ensures

pub followers-returns : goal.followers-returns
followers-returns t c =
    row-end _ _ _ _ _ _ (after-row _ _ _ c.args.e) _ _ _ _ _ _ c.loop-j.invariant.1 c.loop-j-test.false

pub lift-loop-init : goal.lift-loop-init
lift-loop-init t c =
    let a = c.args in
    let p = c.in_ok-path.path in
    let r = c.requires.0 in
    let z = c.raise_path.ensures.stepped _ c.in_ok-path.was in
    let all : p.legs ≡ p.legs - 0 = omega arith in
    subst
    (λ (left : ℕ). GoingFor a.marks.now a.t.now a.ds.now a.src a.cut (AsideOf a.t.now p.legs a.e) (AsideOf a.t.now left a.e) c.raise_path.new.m
    c.raise_path.new.m p.cost × UsedLeg a.ds.now a.e × ((x : LegArc) → AsideOf a.t.now left a.e x → AsideOf a.t.now p.legs a.e x))
    all
    (going_start _ _ _ _ _ _ _ _ _ _ (stepped_ready _ _ _ _ _ _ _ _ _ _ _ _ z _ r), r.leg, λ x d. d)

pub lift-followers-requires : goal.lift-followers-requires
lift-followers-requires t c =
    let g = c.loop.invariant.0 in
    let z = c.raise_path.ensures.stepped _ c.in_ok-path.was in (
      omega (arith, c.decreases, z.less, going_slack _ _ _ _ _ _ _ _ _ _ _ g),
      going_ready _ _ _ _ _ _ _ _ _ _ _ g _ _ _ (stepped_ready _ _ _ _ _ _ _ _ _ _ _ _ z _ c.requires.0) c.loop.invariant.1,
    )

pub lift-returns-in_err-c : goal.lift-returns-in_err-c
lift-returns-in_err-c t c =
    let v = c.loop.invariant in
    rw c.from_residual-in_err-c.ensures
    (stepped_last _ _ _ _ _ _ _ _ _ _ _ _ (c.raise_path.ensures.stepped _ c.in_ok-path.was) _ _
    (spread_after_dead _ _ _ _ _ _ _ _ _ _ _ v.2 v.0 (omega (arith, c.loop-test.true)) _ _ c.followers.ensures c.in_err-c.was))

pub lift-comers-requires : goal.lift-comers-requires
lift-comers-requires t c =
    let a = c.args in
    let p = c.in_ok-path.path in
    let v = c.loop.invariant in
    let g : GoingFor a.marks.now a.t.now a.ds.now a.src a.cut (AsideOf a.t.now p.legs a.e) (RestAside a.t.now (p.legs - c.loop.counter) c.loop.f)
    c.raise_path.new.m c.followers.new.m c.in_ok-c.c =
    spread_after _ _ _ _ _ _ _ _ _ _ _ v.2 v.0 (omega (arith, c.loop-test.true)) _ _ c.in_ok-c.ensures (some_alive refl) in
    let z = c.raise_path.ensures.stepped _ c.in_ok-path.was in (
      omega (arith, c.decreases, z.less, going_slack _ _ _ _ _ _ _ _ _ _ _ g),
      going_ready _ _ _ _ _ _ _ _ _ _ _ g _ _ _ (stepped_ready _ _ _ _ _ _ _ _ _ _ _ _ z _ c.requires.0) v.1,
    )

pub lift-returns-in_err-c-2 : goal.lift-returns-in_err-c-2
lift-returns-in_err-c-2 t c =
    let v = c.loop.invariant in
    rw c.from_residual-in_err-c-2.ensures
    (stepped_last _ _ _ _ _ _ _ _ _ _ _ _ (c.raise_path.ensures.stepped _ c.in_ok-path.was) _ _
    (spread_gone_dead _ _ _ _ _ _ _ _ _ _ _ v.2
    (spread_after _ _ _ _ _ _ _ _ _ _ _ v.2 v.0 (omega (arith, c.loop-test.true)) _ _ c.in_ok-c.ensures (some_alive refl))
    (omega (arith, c.loop-test.true)) _ _ c.comers.ensures c.in_err-c-2.was))

pub lift-next_at-f-requires : goal.lift-next_at-f-requires
lift-next_at-f-requires t c = c.loop.invariant.1.0

pub lift-loop-preserved : goal.lift-loop-preserved
lift-loop-preserved t c =
    let a = c.args in
    let p = c.in_ok-path.path in
    let v = c.loop.invariant in
    let one_less : p.legs - c.loop.counter - 1 ≡ p.legs - (c.loop.counter + 1) = omega arith in
    subst
    (λ (left : ℕ). GoingFor a.marks.now a.t.now a.ds.now a.src a.cut (AsideOf a.t.now p.legs a.e) (AsideOf a.t.now left c.next_at-f.result)
    c.raise_path.new.m c.comers.new.m c.in_ok-c-2.c × UsedLeg a.ds.now c.next_at-f.result ×
    ((x : LegArc) → AsideOf a.t.now left c.next_at-f.result x → AsideOf a.t.now p.legs a.e x))
    one_less
    (spread_gone _ _ _ _ _ _ _ _ _ _ _ v.2
    (spread_after _ _ _ _ _ _ _ _ _ _ _ v.2 v.0 (omega (arith, c.loop-test.true)) _ _ c.in_ok-c.ensures (some_alive refl))
    (omega (arith, c.loop-test.true)) _ _ c.in_ok-c-2.ensures
    c.requires.0.shaped v.1 _ c.next_at-f.ensures (some_alive refl))

pub lift-returns : goal.lift-returns
lift-returns t c =
    let v = c.loop.invariant in
    stepped_last _ _ _ _ _ _ _ _ _ _ _ _ (c.raise_path.ensures.stepped _ c.in_ok-path.was) _ _
    (spread_end _ _ _ _ _ _ _ _ _ _ _ v.2 v.0 (omega arith))
