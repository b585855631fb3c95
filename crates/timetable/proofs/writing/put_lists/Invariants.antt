-- `timetable::writing::put_lists` meets its contract. The invariant: what is written, with the lines of the lists yet to write, is the whole. Assumes nothing.
use Rattle.std.proofs.Common.{◌≡◌, ◌++◌, [], drop}
use Rattle.text.specs.Elements.EachThen.{each_then}
use Rattle.timetable.specs.WritingLaws.{order_text}
use Rattle.timetable.proofs.writing.put_lists.Given as goal

abbrev pub invariant-loop-list : goal.invariant-loop-list
invariant-loop-list l = l.out ++ each_then order_text (drop l.list-index l.lists) [] ≡ l.initial.out ++ each_then order_text l.lists []
