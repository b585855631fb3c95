-- `gtfs::exporting::put_trips` meets its contract. The invariant: what is written, with the trips from train i's on yet to write, is the whole.
-- Assumes nothing.
use Rattle.std.proofs.Common.{◌≡◌, ◌++◌, ◌-◌, []}
use Rattle.gtfs.specs.Spell.{trips_text}
use Rattle.gtfs.proofs.exporting.put_trips.Given as goal

abbrev pub invariant-loop-i : goal.invariant-loop-i
invariant-loop-i l =
    let n = l.line.traffic.train_count in
    l.out ++ trips_text (n - l.i) l.line l.m l.i [] ≡ l.initial.out ++ trips_text n l.line l.m 0 []
