-- `solver::selecting::select_conflict` meets its contract: what the scan finds is a conflict; where it finds none, the lowest conflict tells whether there
-- is one. Assumes nothing.
use native.Mathlib.Omega.{arith}
use Rattle.solver.specs.Selection.SelectingLaws.{select_scans, lowest_chosen}
use Rattle.solver.proofs.selecting.select_conflict.Goals as goal

pub overflow_sub-day : goal.overflow_sub-day
overflow_sub-day c = omega (arith, (select_scans _ _ _ _ c.requires).laid_out.0)

pub places_to_look-requires : goal.places_to_look-requires
places_to_look-requires c = omega (arith, (select_scans _ _ _ _ c.requires).laid_out.1)

pub highest_scored-b-requires : goal.highest_scored-b-requires
highest_scored-b-requires c = c.requires

pub lowest_conflict-requires : goal.lowest_conflict-requires
lowest_conflict-requires c =
    select_scans _ _ _ _ c.requires

pub returns : goal.returns
returns c =
    record {
      marks_same = c.highest_scored-b.ensures.marks_same;
      chosen = lowest_chosen c.args.day.now _ _ c.lowest_conflict.ensures;
    }
