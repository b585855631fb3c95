-- `line::reading::station_lines` meets its contract. The invariant: the lines yet to read, laid into the array from here on, give what the whole gives,
-- and there are no more lines than bytes. Assumes nothing.
use Prim.Native.Nat.{◌-◌}
use mathlib.Core.Path.{◌≡◌}
use Rattle.text.specs.Places.Lines.{Counted}
use Rattle.text.proofs.Elements.LayLaws.{lay_many}
use Rattle.line.specs.File.{station_line}
use Rattle.line.proofs.reading.station_lines.Given as goal

abbrev pub invariant-loop-i : goal.invariant-loop-i
invariant-loop-i l = (lay_many (l.count - l.i) (λ left. station_line) l.s l.cursor l.tracks l.i ≡ lay_many l.count (λ left. station_line) l.s l.initial.cursor l.initial.tracks 0) × Counted l.cursor
