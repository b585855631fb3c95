-- `timetable::reading::list_line` meets its contract. The invariant: the trains so far and then those yet to read are what the whole gives.
-- Assumes nothing.
use Prim.Native.Nat.{◌-◌}
use mathlib.Core.Path.{◌≡◌}
use lib.ListN.{length, take}
use Rattle.text.specs.Places.Lines.{Counted}
use Rattle.text.specs.Reading.Parsed.{many}
use Rattle.timetable.specs.Reading.{name_at}
use Rattle.timetable.specs.Spell.{numbers}
use Rattle.timetable.specs.RestLaws.{after}
use Rattle.timetable.proofs.reading.list_line.Given as goal

abbrev pub invariant-loop-k : goal.invariant-loop-k
invariant-loop-k l = (after (numbers (take l.k l.trains)) (many (l.count - l.k) (name_at l.n) l.s l.cursor) ≡ many l.count (name_at l.n) l.s l.initial.cursor)
    × Counted l.cursor × (length l.trains ≡ 12)
