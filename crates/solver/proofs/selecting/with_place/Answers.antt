-- `solver::selecting::with_place` meets its contract: a place below the number of segments is a segment of the layout, and a place above it a middle
-- station. Assumes nothing.
use mathlib.Core.Path.{refl}
use native.Mathlib.Omega.{arith}
use Rattle.solver.specs.Selection.SelectingLaws.{select_scans, can_score_on, finds_on}
use Rattle.solver.proofs.selecting.with_place.Goals as goal

pub overflow_sub-count : goal.overflow_sub-count
overflow_sub-count c = omega (arith, (select_scans _ _ _ _ c.requires.0).laid_out.0)

pub offset_bounds-day-place : goal.offset_bounds-day-place
offset_bounds-day-place c = omega (arith, c.if-place-count.true, (select_scans _ _ _ _ c.requires.0).laid_out.1)

pub bounds-day-place : goal.bounds-day-place
bounds-day-place c = omega (arith, c.if-place-count.true, (select_scans _ _ _ _ c.requires.0).laid_out.1)

pub with_segment-requires : goal.with_segment-requires
with_segment-requires c =
    can_score_on _ _ _ _ _ _ refl c.if-place-count.true c.requires.0

pub returns-then-place-count : goal.returns-then-place-count
returns-then-place-count c =
    finds_on _ _ _ c.args.cost _ _ refl c.if-place-count.true _ c.requires.1 _ _ c.with_segment.ensures
