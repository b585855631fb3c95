-- `gtfs::importing::all_lines` meets its contract. The invariant: the trips yet to read, with the minutes as they stand, give what all of them give, and
-- there are no more lines than bytes. Assumes nothing.
use Prim.Native.Nat.{◌-◌}
use mathlib.Core.Path.{◌≡◌}
use lib.ListN.{replicate}
use Rattle.text.specs.Places.Lines.{Counted}
use Rattle.gtfs.specs.Reading.{trips_at}
use Rattle.gtfs.proofs.importing.all_lines.Given as goal

abbrev pub invariant-loop-i : goal.invariant-loop-i
invariant-loop-i l = (trips_at (l.line.traffic.train_count - l.i) l.line l.i l.at l.s l.cursor ≡ trips_at l.line.traffic.train_count l.line 0 (replicate 352 0) l.s l.initial.cursor) × Counted l.cursor
