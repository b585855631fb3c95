-- `gtfs::exporting::put_trip` meets its contract: the line of the origin and those of the other stops are written one after the other, and each fits
-- where both do. Assumes nothing.
use Rattle.std.proofs.Common.{ℕ, arith, ap, length, append_assoc, length-append, []}
use Rattle.line.specs.Record.{legs_of}
use Rattle.gtfs.specs.Stops.{origin_time}
use Rattle.gtfs.specs.Spell.{stop_time_text, stops_text}
use Rattle.gtfs.specs.WritingLaws.{trip_parts, trip_size}
use Rattle.gtfs.proofs.exporting.put_trip.Goals as goal

pub put_stop_time-requires : goal.put_stop_time-requires
put_stop_time-requires c = rw c.origin_time.ensures (omega (arith, trip_size c.args.train c.args.m.now c.args.i (legs_of c.args.train), c.requires.2))

pub put_stops-requires : goal.put_stops-requires
put_stops-requires c =
    let size = trip_size c.args.train c.args.m.now c.args.i (legs_of c.args.train) in
    let origin = ap length (rw c.origin_time.ensures at c.put_stop_time.ensures) in
    (c.requires.0, c.requires.1, omega (arith, length-append {A = ℕ}, c.requires.2))

pub returns : goal.returns
returns c =
    let t = c.args.train in
    let first = stop_time_text (origin_time t c.args.m.now c.args.i) [] in
    rw (c.put_stops.ensures, c.put_stop_time.ensures, c.origin_time.ensures, trip_parts t c.args.m.now c.args.i (legs_of t))
    (append_assoc c.args.out.now first (stops_text (legs_of t) t c.args.m.now c.args.i 0 []))
