-- `timetable::writing::put_train` meets its contract. The invariant: what is written, with the legs from j on yet to write, is the whole. A turn writes
-- a departure and an arrival. Assumes nothing.
use Rattle.std.proofs.Common.{◌≡◌, ◌++◌, ◌-◌, []}
use Rattle.timetable.specs.Spell.{legs_text}
use Rattle.timetable.proofs.writing.put_train.Given as goal

abbrev pub invariant-loop-j : goal.invariant-loop-j
invariant-loop-j l = l.out ++ legs_text (l.legs - l.j) l.train l.m l.i l.j [] ≡ l.initial.out ++ legs_text l.legs l.train l.m l.i 0 []
