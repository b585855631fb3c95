-- The answers; the idea of the proof is at the head of the invariants.
use Rattle.std.proofs.Common.{sym, arith, length-append, []}
use Rattle.gtfs.specs.Spell.{stops_text}
use Rattle.text.specs.Writing.SpliceLaws.{part_put, all_put}
use Rattle.gtfs.specs.WritingLaws.{next-stop, no_stop, stop_fits}
use Rattle.gtfs.proofs.exporting.put_stops.Goals as goal

pub put_stop_time-requires : goal.put_stop_time-requires
put_stop_time-requires c =
    let w = c.loop-j in
    let legs = c.legs_between-legs in
    let fits = rw (sym legs.ensures) at c.requires.2 in
    let size = length-append c.args.out.now (stops_text legs.result c.args.train c.args.m.now c.args.i 0 []) in
    let room = stop_fits c.args.train c.args.m.now c.args.i legs.result w.j w.out w.invariant (omega arith) in
    rw c.time_after.ensures (omega arith)

pub loop-j-preserved : goal.loop-j-preserved
loop-j-preserved c =
    let w = c.loop-j in
    rw (c.put_stop_time.ensures, c.time_after.ensures)
    (part_put w.out _ _ (rw (next-stop c.args.train c.args.m.now c.args.i c.legs_between-legs.result w.j (omega arith)) at w.invariant))

pub returns : goal.returns
returns c =
    let w = c.loop-j in
    rw (sym c.legs_between-legs.ensures) (all_put w.out w.invariant (no_stop c.args.train c.args.m.now c.args.i c.legs_between-legs.result w.j (omega arith)))
