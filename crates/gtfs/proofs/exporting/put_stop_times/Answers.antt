-- `gtfs::exporting::put_stop_times` meets its contract: the header and the trips are written one after the other, and each fits where both do.
-- Assumes nothing.
use Rattle.std.proofs.Common.{arith, ap, length, refl}
use Rattle.gtfs.specs.FitsLaws.{stop_times_fit}
use Rattle.gtfs.specs.WritingLaws.{stop_times_parts, stop_times_size}
use Rattle.gtfs.proofs.exporting.put_stop_times.Goals as goal

pub put_trips-requires : goal.put_trips-requires
put_trips-requires c =
    let size = stop_times_size c.args.line c.args.m.now in
    let fits = stop_times_fit c.args.line c.args.m.now c.requires.0 in
    let header = ap length (rw c.requires.1 at c.text.ensures) in
    (c.requires.0, omega arith)

pub returns : goal.returns
returns c = rw (c.put_trips.ensures, c.text.ensures, c.requires.1, stop_times_parts c.args.line c.args.m.now) refl
