-- `orders::raising::follow` meets its contract: the choice is seen to arc by arc. The first lift leaves at most the arc between arrivals, and every solution
-- has its minutes (`Halfway`); the second gives the least minutes or none. Each has as its source the event that its arc starts from.
use mathlib.Core.Path.{refl}
use mathlib.Core.Logic.{inr}
use native.Mathlib.Omega.{arith}
use Rattle.orders.proofs.Lift.TwoArcsLaws.{Halfway, halfway_as, departure_still, departure_dead, departure_lifted, arrival_still, arrival_lifted}
use Rattle.orders.specs.Lift.LiftingLaws.{some_alive, ready_leg}
use Rattle.orders.proofs.raising.follow.Goals as goal
use Rattle.orders.proofs.raising.follow.Goals.{then-m-f+in_ok-c, else-m-f}

pub returns-in_err-c : goal.returns-in_err-c
returns-in_err-c c =
    rw c.from_residual.ensures
    (departure_dead _ _ _ _ _ _ _ _ _ c.requires.0.ready.leg c.requires.1 c.requires.2 refl c.times_behind-b.ensures.0 _ _ _
    c.source_of-src.ensures c.requires.0 _ _ c.lift.ensures c.in_err-c.was)

pub lift-requires-then-m-f-2 : goal.lift-requires-then-m-f-2
lift-requires-then-m-f-2 c =
    let half : let a = c.args in Halfway a.marks.now a.t.now a.ds.now a.e a.j a.cut a.m.now c.if-m-f.m c.if-m-f.c = elim c.if-m-f.branch [
      | then-m-f+in_ok-c w ↦ halfway_as _ _ _ _ _ _ _ _ _
          (departure_lifted _ _ _ _ _ _ _ _ _ c.requires.0.ready.leg c.requires.1 c.requires.2 refl c.times_behind-b.ensures.0 _ _ _
          w.source_of-src.ensures c.requires.0 _ _ w.in_ok-c.ensures (some_alive refl)) _ _ w.m-is w.c-is
      | else-m-f w ↦ halfway_as _ _ _ _ _ _ _ _ _
          (departure_still _ _ _ _ _ _ _ _ _ c.requires.0.ready.leg c.requires.1 c.requires.2 refl c.times_behind-b.ensures.0 _ _ _
          refl c.requires.0 w.if-m-f.false) _ _ w.m-is w.c-is
    ] in
    let r = half.choosing.ready in (
      ready_leg _ _ _ _ _ _ _ _ r (r.shaped.beside_used c.args.e c.args.j r.leg c.requires.1 c.requires.2),
      inr c.if-m-f-2.true,
      omega arith,
      omega (arith, c.times_behind-b.ensures.2),
    )

pub returns-then-m-f-2 : goal.returns-then-m-f-2
returns-then-m-f-2 c =
    let half : let a = c.args in Halfway a.marks.now a.t.now a.ds.now a.e a.j a.cut a.m.now c.if-m-f.m c.if-m-f.c = elim c.if-m-f.branch [
      | then-m-f+in_ok-c w ↦ halfway_as _ _ _ _ _ _ _ _ _
          (departure_lifted _ _ _ _ _ _ _ _ _ c.requires.0.ready.leg c.requires.1 c.requires.2 refl c.times_behind-b.ensures.0 _ _ _
          w.source_of-src.ensures c.requires.0 _ _ w.in_ok-c.ensures (some_alive refl)) _ _ w.m-is w.c-is
      | else-m-f w ↦ halfway_as _ _ _ _ _ _ _ _ _
          (departure_still _ _ _ _ _ _ _ _ _ c.requires.0.ready.leg c.requires.1 c.requires.2 refl c.times_behind-b.ensures.0 _ _ _
          refl c.requires.0 w.if-m-f.false) _ _ w.m-is w.c-is
    ] in
    arrival_lifted _ _ _ _ _ _ _ _ _ c.requires.0.ready.leg c.requires.1 c.requires.2 refl c.times_behind-b.ensures.0 _ _ _ half
    c.if-m-f-2.true _ _ c.lift-then-m-f-2.ensures

pub returns : goal.returns
returns c =
    let half : let a = c.args in Halfway a.marks.now a.t.now a.ds.now a.e a.j a.cut a.m.now c.if-m-f.m c.if-m-f.c = elim c.if-m-f.branch [
      | then-m-f+in_ok-c w ↦ halfway_as _ _ _ _ _ _ _ _ _
          (departure_lifted _ _ _ _ _ _ _ _ _ c.requires.0.ready.leg c.requires.1 c.requires.2 refl c.times_behind-b.ensures.0 _ _ _
          w.source_of-src.ensures c.requires.0 _ _ w.in_ok-c.ensures (some_alive refl)) _ _ w.m-is w.c-is
      | else-m-f w ↦ halfway_as _ _ _ _ _ _ _ _ _
          (departure_still _ _ _ _ _ _ _ _ _ c.requires.0.ready.leg c.requires.1 c.requires.2 refl c.times_behind-b.ensures.0 _ _ _
          refl c.requires.0 w.if-m-f.false) _ _ w.m-is w.c-is
    ] in
    arrival_still _ _ _ _ _ _ _ _ _ c.requires.0.ready.leg c.requires.1 c.requires.2 refl c.times_behind-b.ensures.0 _ _ _ half c.if-m-f-2.false
