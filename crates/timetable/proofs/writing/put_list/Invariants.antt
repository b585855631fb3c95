-- `timetable::writing::put_list` meets its contract. The count is written first. The invariant: what is written, with the numbers of the trains from k on
-- yet to write, is the whole. Assumes nothing.
use Rattle.std.proofs.Common.{◌≡◌, ◌++◌, [], drop}
use Rattle.rules.specs.Lists.Orders.{listed}
use Rattle.timetable.specs.Spell.{numbers, names_text}
use Rattle.timetable.proofs.writing.put_list.Given as goal

abbrev pub invariant-loop-k : goal.invariant-loop-k
invariant-loop-k l = l.out ++ names_text (drop l.k (numbers (listed l.list))) [] ≡ l.initial.out ++ names_text (numbers (listed l.list)) []
