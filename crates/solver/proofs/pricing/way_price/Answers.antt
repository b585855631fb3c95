-- `solver::pricing::way_price` meets its contract: what raising says, with the marks restored. Assumes nothing.
use mathlib.Core.Path.{refl}
use native.Mathlib.Omega.{arith}
use Rattle.solver.specs.Selection.PricingLaws.{priced}
use Rattle.plans.proofs.Clauses.NextPlansLaws.{row_few, second_there, way_chooses}
use Rattle.solver.proofs.pricing.way_price.Goals as goal

pub offset_bounds-marks-row : goal.offset_bounds-marks-row
offset_bounds-marks-row c = let p = c.requires in omega (arith, row_few p.line p.tabled.within _ _ p.choice _ p.is_way)

pub bounds-marks-row : goal.bounds-marks-row
bounds-marks-row c = let p = c.requires in row_few p.line p.tabled.within _ _ p.choice _ p.is_way

pub with_bit-requires : goal.with_bit-requires
with_bit-requires c = let p = c.requires in second_there p.line p.tabled.within _ _ p.choice _ p.is_way

pub offset_bounds-marks-row-2 : goal.offset_bounds-marks-row-2
offset_bounds-marks-row-2 c = let p = c.requires in omega (arith, row_few p.line p.tabled.within _ _ p.choice _ p.is_way)

pub bounds-marks-row-2 : goal.bounds-marks-row-2
bounds-marks-row-2 c = let p = c.requires in row_few p.line p.tabled.within _ _ p.choice _ p.is_way

pub raised-price-requires : goal.raised-price-requires
raised-price-requires c =
    let p = c.requires in
    record {
      line = p.line;
      choice = p.choice;
      plan = c.args.marks.now;
      chooses = way_chooses p.line _ _ _ _ _ p.tabled p.planned p.choice _ p.is_way _ c.with_bit.ensures _ refl;
    }

pub offset_bounds-marks-row-3 : goal.offset_bounds-marks-row-3
offset_bounds-marks-row-3 c =
    let p = c.requires in
    omega (arith, row_few p.line p.tabled.within _ _ p.choice _ p.is_way)

pub bounds-marks-row-3 : goal.bounds-marks-row-3
bounds-marks-row-3 c =
    let p = c.requires in row_few p.line p.tabled.within _ _ p.choice _ p.is_way

pub returns : goal.returns
returns c =
    priced _ _ _ _ _ _ _ c.with_bit.ensures _ _ _ refl c.raised-price.ensures
