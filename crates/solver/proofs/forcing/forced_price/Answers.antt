-- The answers; the idea of the proof is at the head of the invariants.
use mathlib.Core.Path.{◌≡◌, ap}
use Rattle.std.specs.Prelude.{None}
use mathlib.Core.Bool.{not}
use Rattle.solver.specs.Selection.PricingLaws.{planned_after}
use Rattle.solver.specs.Lookahead.ForcingLaws.{can_settle, followed_first, followed_worse, followed_dead, followed_more}
use Rattle.solver.proofs.forcing.forced_price.Goals as goal

pub settle-requires : goal.settle-requires
settle-requires c = can_settle _ _ _ _ _ _ _ c.requires

pub loop-init : goal.loop-init
loop-init c l x h i = followed_first l _ _ _ _ _ _ h _ c.cut_of-cut.ensures x _ i _ _ _ c.in_ok-c.ensures

pub returns-then-not-improves : goal.returns-then-not-improves
returns-then-not-improves c l x h i _ = followed_worse l _ _ _ _ _ _ _ (c.loop.invariant l x h i) _ c.improves.ensures (ap not c.if-not-improves.true)

pub forced_way-requires : goal.forced_way-requires
forced_way-requires c =
    let p = c.requires in
    let g = (c.loop.invariant p.line p.choice p.held p.is_way).0.given in
    record { line = p.line; tabled = g.tabled; planned = g.planned; layout_is = g.layout_is }

pub returns : goal.returns
returns c l x h i e = absurd (cc)

pub returns-in_err-c : goal.returns-in_err-c
returns-in_err-c c l x h i _ =
    let was : c.settle.result ≡ None = c.in_err-c.was in
    followed_first l _ _ _ _ _ _ h _ c.cut_of-cut.ensures x _ i _ _ _ (rw was at c.settle.ensures)

pub returns-in-Dead : goal.returns-in-Dead
returns-in-Dead c l x h i _ =
    let f = c.loop.invariant l x h i in
    let g = f.0.given in
    let scan = rw c.in-Dead.is at c.forced_way.ensures in
    followed_dead l _ _ _ _ _ _ _ f _ c.cut_of-cut.ensures (scan.says l g.tabled g.planned g.layout_is)

pub settle-requires-in-Next : goal.settle-requires-in-Next
settle-requires-in-Next c =
    let p = c.requires in
    let g = (c.loop.invariant p.line p.choice p.held p.is_way).0.given in
    let scan = rw c.in-Next.is at c.forced_way.ensures in
    let one = scan.says p.line g.tabled g.planned g.layout_is in
    record {
      line = p.line;
      choice = one.choice;
      tabled = g.tabled;
      planned = planned_after _ _ _ _ _ scan.marks_same g.planned;
      is_way = one.is_way;
    }

pub returns-in_err-c-in-Next : goal.returns-in_err-c-in-Next
returns-in_err-c-in-Next c l x h i _ =
    let f = c.loop.invariant l x h i in
    let g = f.0.given in
    let scan = rw c.in-Next.is at c.forced_way.ensures in
    let was : c.settle-in-Next.result ≡ None = c.in_err-c-in-Next.was in
    followed_more l _ _ _ _ _ _ _ f _ c.cut_of-cut.ensures _ (scan.says l g.tabled g.planned g.layout_is) _ scan.marks_same _ _ _
    (rw was at c.settle-in-Next.ensures)

pub loop-preserved : goal.loop-preserved
loop-preserved c l x h i =
    let f = c.loop.invariant l x h i in
    let g = f.0.given in
    let scan = rw c.in-Next.is at c.forced_way.ensures in
    followed_more l _ _ _ _ _ _ _ f _ c.cut_of-cut.ensures _ (scan.says l g.tabled g.planned g.layout_is) _ scan.marks_same _ _ _ c.in_ok-c-in-Next.ensures
