-- The answers; the idea of the proof is at the head of the invariants.
use Rattle.std.proofs.Common.{◌≡◌, arith, length, length-append, [], rules}
use Rattle.line.specs.RunnableLaws.{within_runnable}
use Rattle.rules.specs.StatementLaws.PathsLaws.{routed}
use Rattle.gtfs.specs.Spell.{trips_text}
use Rattle.text.specs.Writing.SpliceLaws.{part_put, all_put}
use Rattle.gtfs.specs.WritingLaws.{next_trip, no_trip, trip_fits}
use Rattle.gtfs.proofs.exporting.put_trips.Goals as goal

pub put_trip-requires : goal.put_trip-requires
put_trip-requires c =
    let w = c.loop-i in
    let n = c.args.line.traffic.train_count in
    let size : length c.args.line.traffic.trains ≡ 12 = search rules in
    let whole = length-append c.args.out.now (trips_text n c.args.line c.args.m.now 0 []) in
    let room = trip_fits c.args.line c.args.m.now n w.i w.out w.invariant (omega arith) in
    (routed c.args.line w.i (within_runnable c.args.line c.requires.0) size (omega arith), omega (arith, c.requires.0.trains), omega arith)

pub loop-i-preserved : goal.loop-i-preserved
loop-i-preserved c =
    let w = c.loop-i in
    rw c.put_trip.ensures
    (part_put w.out _ _ (rw (next_trip c.args.line c.args.m.now c.args.line.traffic.train_count w.i (omega arith)) at w.invariant))

pub returns : goal.returns
returns c = all_put c.loop-i.out c.loop-i.invariant (no_trip c.args.line c.args.m.now c.args.line.traffic.train_count c.loop-i.i (omega arith))
