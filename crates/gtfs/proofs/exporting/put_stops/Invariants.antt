-- `gtfs::exporting::put_stops` meets its contract. The invariant: what is written, with the stops to which the legs from j on lead yet to write, is the
-- whole. Assumes nothing.
use Rattle.std.proofs.Common.{◌≡◌, ◌++◌, ◌-◌, []}
use Rattle.gtfs.specs.Spell.{stops_text}
use Rattle.gtfs.proofs.exporting.put_stops.Given as goal

abbrev pub invariant-loop-j : goal.invariant-loop-j
invariant-loop-j l = l.out ++ stops_text (l.legs - l.j) l.train l.m l.i l.j [] ≡ l.initial.out ++ stops_text l.legs l.train l.m l.i 0 []
