-- `solver::forcing::settle` meets its contract: the mark of the way's choice is set, and raising finds the least minutes with it, or none. Assumes nothing.
use mathlib.Core.Path.{refl}
use native.Mathlib.Omega.{arith}
use Rattle.plans.proofs.Clauses.NextPlansLaws.{row_few, second_there, way_added, way_chooses, way_raises}
use Rattle.solver.proofs.forcing.settle.Goals as goal

pub offset_bounds-marks-way : goal.offset_bounds-marks-way
offset_bounds-marks-way c = let p = c.requires in omega (arith, row_few p.line p.tabled.within _ _ p.choice _ p.is_way)

pub bounds-marks-way : goal.bounds-marks-way
bounds-marks-way c = let p = c.requires in row_few p.line p.tabled.within _ _ p.choice _ p.is_way

pub with_bit-requires : goal.with_bit-requires
with_bit-requires c = let p = c.requires in second_there p.line p.tabled.within _ _ p.choice _ p.is_way

pub offset_bounds-marks-way-2 : goal.offset_bounds-marks-way-2
offset_bounds-marks-way-2 c = let p = c.requires in omega (arith, row_few p.line p.tabled.within _ _ p.choice _ p.is_way)

pub bounds-marks-way-2 : goal.bounds-marks-way-2
bounds-marks-way-2 c = let p = c.requires in row_few p.line p.tabled.within _ _ p.choice _ p.is_way

pub raised-requires : goal.raised-requires
raised-requires c =
    let p = c.requires in
    record {
      line = p.line;
      choice = p.choice;
      plan = c.args.marks.now;
      chooses = way_chooses p.line _ _ _ _ _ p.tabled p.planned p.choice _ p.is_way _ c.with_bit.ensures _ refl;
    }

pub returns : goal.returns
returns c l x tabled planned i =
    let v = c.with_bit.ensures in (
      way_raises l _ _ _ _ _ tabled planned x _ i _ v _ refl _ _ _ c.raised.ensures,
      way_added l _ _ _ _ _ tabled planned x _ i _ v,
    )
