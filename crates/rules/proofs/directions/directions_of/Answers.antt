-- The answers; the idea of the proof is at the head of the invariants.
use Rattle.std.proofs.Common.{◌<◌, sym, ◌∙◌, arith}
use Rattle.rules.specs.Conflict.DirectionsLaws.{entry_is, filled_none, filled_at, filled_more, filled_all}
use Rattle.rules.proofs.directions.directions_of.Goals as goal

pub loop-i-init : goal.loop-i-init
loop-i-init c = filled_none _

pub loop-p-init : goal.loop-p-init
loop-p-init c = filled_at _ _ _ _ c.loop-i.invariant (omega arith)

pub loop-p-preserved : goal.loop-p-preserved
loop-p-preserved c =
    let w = c.loop-p in
    let i = c.loop-i.i in
    let low : i < 16 = omega (arith, c.from-i-end.ensures) in
    let entry = entry_is c.args.line w.p i low (omega (arith, c.from-i-end.ensures)) in
    rw c.from.ensures (filled_more c.args.line w.table i w.p c.direction_between.result w.invariant (omega arith) low (c.direction_between.ensures ∙ sym entry))

pub loop-i-preserved : goal.loop-i-preserved
loop-i-preserved c = filled_at _ _ _ _ c.loop-p.invariant (omega arith)

pub returns : goal.returns
returns c = filled_all _ _ _ c.loop-i.invariant (omega (arith, c.from-i-end.ensures))
