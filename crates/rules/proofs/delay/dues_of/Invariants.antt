-- `rules::delay::dues_of` meets its contract. The invariant: the due minutes of the trains before i are there, worked out from trains, dues and floors in their
-- lists; and so they are those of the line (`due-from`). Assumes nothing.
use Rattle.finite.specs.FillLaws.{Begun}
use Rattle.rules.specs.Check.Dues.{due_from}
use Rattle.rules.proofs.delay.dues_of.Given as goal

abbrev pub invariant-loop-i : goal.invariant-loop-i
invariant-loop-i l = Begun (due_from l.fn.line.traffic.trains l.listed l.floors) 12 l.i l.dues
