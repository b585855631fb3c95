-- `timetable::reading::list_lines` meets its contract. The invariant: the lists so far and then those yet to read are what the whole gives.
use Prim.Native.Nat.{◌-◌}
use mathlib.Core.Path.{◌≡◌}
use lib.ListN.{length}
use Rattle.text.specs.Reading.Parsed.{lines}
use Rattle.text.specs.Places.Lines.{Counted}
use Rattle.timetable.specs.Reading.{list_at}
use Rattle.timetable.specs.Told.{named_first}
use Rattle.timetable.specs.RestLaws.{after}
use Rattle.timetable.proofs.reading.list_lines.Given as goal

abbrev pub invariant-loop-k : goal.invariant-loop-k
invariant-loop-k l = (after (named_first l.k l.lists) (lines (l.count - l.k) (list_at l.n) l.s l.cursor) ≡ lines l.count (list_at l.n) l.s l.initial.cursor)
    × Counted l.cursor × (length l.lists ≡ 22)
