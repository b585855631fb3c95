-- `timetable::checking::same_list` meets its contract: the trains of both lists are compared, and each has its number. Assumes nothing.
use Rattle.std.proofs.lemmas.Slice.Eq.{slice_eq-Decides}
use Rattle.std.proofs.lemmas.Bool.Decides.{Decides-eqb}
use Rattle.timetable.specs.CheckLoopLaws.{front_listed, same_told}
use Rattle.timetable.proofs.checking.same_list.Goals as goal

pub returns : goal.returns
returns c =
    let compared = rw (front_listed c.args.read.now c.size_of.ensures.0, front_listed c.args.right.now c.size_of-2.ensures.0) at c.eq.ensures in
    let decides = slice_eq-Decides Decides-eqb _ _ _ compared in
    same_told c.args.read.now c.args.right.now _ decides.0 decides.1
