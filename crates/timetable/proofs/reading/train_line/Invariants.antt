-- `timetable::reading::train_line` meets its contract. The invariant: the legs yet to read, with the minutes as they stand, give what all of them
-- give, and there are no more lines than bytes. Assumes nothing.
use Prim.Native.Nat.{◌-◌}
use mathlib.Core.Path.{◌≡◌}
use Rattle.text.specs.Places.Lines.{Counted}
use Rattle.line.specs.Record.{legs_of}
use Rattle.timetable.specs.Reading.{legs_at}
use Rattle.timetable.proofs.reading.train_line.Given as goal

abbrev pub invariant-loop-j : goal.invariant-loop-j
invariant-loop-j l = (legs_at (l.legs - l.j) l.train l.i l.j l.at l.s l.cursor ≡ legs_at (legs_of l.train) l.train l.i 0 l.initial.at l.s l.initial.cursor) × Counted l.cursor
