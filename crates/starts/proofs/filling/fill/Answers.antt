-- The answers; the idea of the proof is at the head of the invariants.
use Prim.Native.Nat.{◌<◌}
use mathlib.Core.Path.{◌∙◌}
use native.Mathlib.Omega.{arith}
use lib.ListN.{length, length-set}
use lib.Seq.{get_or-set_same}
use Rattle.starts.specs.KnowingLaws.{found_knows}
use Rattle.starts.specs.FillingLaws.{asked_still, filled_from, at_within, filling_first, filling_more, filling_follows, filling_end, train_below}
use Rattle.starts.proofs.filling.fill.Goals as goal

pub bounds-minutes-0 : goal.bounds-minutes-0
bounds-minutes-0 c = omega (arith, c.requires.1.some)

pub line_from-before-requires : goal.line_from-before-requires
line_from-before-requires c =
    let few : c.args.i < 12 = train_below c.args.line c.requires.0 c.args.i c.args.minutes.now c.args.totals.now c.requires.1 in
    few

pub best_timetable-known-requires : goal.best_timetable-known-requires
best_timetable-known-requires c =
    at_within _ c.requires.0 _ _ c.args.totals.now c.requires.1 0 (omega (arith, c.requires.1.some)) _ c.line_from-before.ensures

pub bounds-totals-0 : goal.bounds-totals-0
bounds-totals-0 c =
    let asked = c.requires.1 in
    omega (arith, asked.some, asked.room)

pub loop-k-init : goal.loop-k-init
loop-k-init c =
    let asked = c.requires.1 in
    let w = at_within _ c.requires.0 _ _ c.args.totals.now asked 0 (omega (arith, asked.some)) _ c.line_from-before.ensures in
    filling_first _ c.requires.0 _ _ _ (asked_still _ _ c.args.totals.now _ _ asked) _ _ c.line_from-before.ensures (found_knows _ w.0 w.1 _ c.best_timetable-known.ensures)
    (get_or-set_same c.args.totals.now 0 _ 0 (omega (arith, asked.some, asked.room)) ∙ c.entry_of.ensures)

pub line_from-next-requires : goal.line_from-next-requires
line_from-next-requires c =
    let few : c.args.i < 12 = train_below c.args.line c.requires.0 c.args.i c.args.minutes.now c.args.totals.now c.requires.1 in
    few

pub known_after-known-requires : goal.known_after-known-requires
known_after-known-requires c =
    let l = c.loop-k in
    (filling_follows _ c.requires.0 _ _ _ (asked_still _ _ c.args.totals.now _ _ c.requires.1) _ _ _ _ l.invariant (omega arith) _ c.line_from-next.ensures, l.invariant.knows)

pub offset_bounds-totals-k : goal.offset_bounds-totals-k
offset_bounds-totals-k c =
    omega (arith, c.requires.1.few)

pub bounds-totals-k : goal.bounds-totals-k
bounds-totals-k c =
    let lent : c.loop-k.k < length c.loop-k.totals = let l = c.loop-k in
    omega (arith, c.requires.1.room, l.invariant.size, length-set c.args.totals.now 0 c.entry_of.result) in
    lent

pub loop-k-preserved : goal.loop-k-preserved
loop-k-preserved c =
    let l = c.loop-k in
    filling_more _ c.requires.0 _ _ _ (asked_still _ _ c.args.totals.now _ _ c.requires.1) _ _ _ _ l.invariant (omega arith) _ _ _
    c.line_from-next.ensures c.known_after-known.ensures c.entry_of-in-loop-k.ensures

pub shape_of-totals : goal.shape_of-totals
shape_of-totals c =
    c.loop-k.invariant.size ∙ length-set c.args.totals.now 0 _

pub returns : goal.returns
returns c =
    let asked = c.requires.1 in
    filled_from _ _ _ _ asked.some
    (filling_end _ c.requires.0 _ _ _ (asked_still _ _ c.args.totals.now _ _ asked) _ _ _ _ c.loop-k.invariant (omega arith))
