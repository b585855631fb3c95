-- `timetable::writing::put_trains` meets its contract. The invariant: what is written, with the lines of the trains from i on yet to write, is the whole.
-- Assumes nothing.
use Rattle.std.proofs.Common.{◌≡◌, ◌++◌, ◌-◌, []}
use Rattle.timetable.specs.Spell.{trains_text}
use Rattle.timetable.proofs.writing.put_trains.Given as goal

abbrev pub invariant-loop-i : goal.invariant-loop-i
invariant-loop-i l =
    let n = l.line.traffic.train_count in
    l.out ++ trains_text (n - l.i) l.line l.m l.i [] ≡ l.initial.out ++ trains_text n l.line l.m 0 []
