-- `solver::neighbourhood::keep_first` meets its contract: on every line where the choice fits, the marks are those of the plan with it, so that raising
-- starts from minutes below that plan's lawful timetables and ends with its least. Assumes nothing.
use native.Mathlib.Omega.{arith}
use Rattle.orders.specs.Plan.Choices.{on_segment}
use Rattle.solver.specs.Search.NeighbourhoodLaws.{row_few, second_few, chooses_first, leads_first}
use Rattle.solver.proofs.neighbourhood.keep_first.Goals as goal

pub overflow_mul-e : goal.overflow_mul-e
overflow_mul-e c = let p = c.requires in omega (arith, row_few _ _ _ _ p.line p.among)

pub overflow_add-e : goal.overflow_add-e
overflow_add-e c = let p = c.requires in omega (arith, row_few _ _ _ _ p.line p.among)

pub offset_bounds-marks-e : goal.offset_bounds-marks-e
offset_bounds-marks-e c = let p = c.requires in omega (arith, row_few _ _ _ _ p.line p.among)

pub bounds-marks-e : goal.bounds-marks-e
bounds-marks-e c = let p = c.requires in omega (arith, row_few _ _ _ _ p.line p.among, p.searchable.planned.tidy.size)

pub with_bit-requires : goal.with_bit-requires
with_bit-requires c = let p = c.requires in second_few _ _ _ _ p.line p.among

pub offset_bounds-marks-e-2 : goal.offset_bounds-marks-e-2
offset_bounds-marks-e-2 c = let p = c.requires in omega (arith, row_few _ _ _ _ p.line p.among)

pub bounds-marks-e-2 : goal.bounds-marks-e-2
bounds-marks-e-2 c = let p = c.requires in omega (arith, row_few _ _ _ _ p.line p.among, p.searchable.planned.tidy.size)

pub raised-requires : goal.raised-requires
raised-requires c =
    let p = c.requires in
    record {
      line = p.line;
      choice = on_segment c.args.p c.args.i c.args.j;
      plan = c.args.marks.now;
      chooses = chooses_first _ _ _ _ _ _ _ _ c.with_bit.ensures p.line p.among p.searchable;
    }

pub returns : goal.returns
returns c =
    leads_first _ _ _ _ _ _ _ _ c.with_bit.ensures _ _ _ c.raised.ensures
