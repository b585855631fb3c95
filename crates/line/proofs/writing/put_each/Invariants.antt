-- `line::writing::put_each` meets its contract. The invariant: what is written, with the texts of the entries yet to write, is the whole. Assumes nothing.
use Rattle.std.proofs.Common.{◌≡◌, ◌++◌, [], drop}
use Rattle.text.specs.Elements.EachThen.{each_then}
use Rattle.line.proofs.writing.put_each.Given as goal

abbrev pub invariant-loop-x : goal.invariant-loop-x
invariant-loop-x g l = l.out ++ each_then g.T.Entry.text (drop l.x-index l.entries) [] ≡ l.initial.out ++ each_then g.T.Entry.text l.entries []
