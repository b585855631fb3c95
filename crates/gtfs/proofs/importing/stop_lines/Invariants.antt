-- `gtfs::importing::stop_lines` meets its contract. The invariant: the stops yet to read, with the minutes and the departure as they stand, give what all
-- of them give, and there are no more lines than bytes. Assumes nothing.
use Prim.Native.Nat.{◌-◌}
use mathlib.Core.Path.{◌≡◌}
use Rattle.text.specs.Places.Lines.{Counted}
use Rattle.line.specs.Record.{legs_of}
use Rattle.gtfs.specs.Reading.{stops_at}
use Rattle.gtfs.proofs.importing.stop_lines.Given as goal

abbrev pub invariant-loop-j : goal.invariant-loop-j
invariant-loop-j l = (stops_at (legs_of l.train - l.j) l.train l.i l.j l.departure l.at l.s l.cursor ≡ stops_at (legs_of l.train) l.train l.i 0 l.initial.departure l.initial.at l.s l.initial.cursor) × Counted l.cursor
