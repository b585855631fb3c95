-- The answers; the idea of the proof is at the head of the invariants.
use mathlib.Core.Path.{refl, ◌∙◌}
use native.Mathlib.Omega.{arith}
use Rattle.plans.specs.Conflict.Ways.{way_of}
use Rattle.plans.proofs.Clauses.WaysToldLaws.{steps_within}
use Rattle.plans.proofs.Clauses.TryingLaws.{way_there, count_most, way_of_real}
use Rattle.solver.specs.Selection.PricingLaws.{range_if, planned_after}
use Rattle.solver.proofs.scoring.way_score.Goals as goal
use Rattle.solver.proofs.scoring.way_score.Goals.{in-Some+else-is_none, in_default}

pub loop-w-init : goal.loop-w-init
loop-w-init c = (omega arith, refl)

pub way_of-out-requires : goal.way_of-out-requires
way_of-out-requires c =
    let a = c.requires in (
      range_if a.line a.tabled.within a.tabled.raisable.arrays _ c.args.conflict a.real,
      omega (arith, c.way_count-n.ensures, count_most c.args.conflict, c.loop-w-test.true),
    )

pub way_price-price-requires : goal.way_price-price-requires
way_price-price-requires c =
    let i = c.loop-w in
    let a = c.requires in
    let there = way_there _ _ (way_of c.args.conflict i.w) (rw c.in-Some.is at c.way_of-out.ensures.0) in
    record {
      line = a.line;
      choice = there.0;
      tabled = a.tabled;
      planned = planned_after _ _ _ _ _ i.invariant.1 a.planned;
      is_way =
          way_of_real a.line a.tabled.within a.tabled.raisable.arrays _ c.args.conflict a.real _ _ _ i.w c.way_count-n.ensures
          c.loop-w-test.true there.0 there.1 there.2;
    }

pub overflow_add-w : goal.overflow_add-w
overflow_add-w c = omega (arith, c.way_of-out.ensures.1.up_to)

pub loop-w-smaller : goal.loop-w-smaller
loop-w-smaller c = omega (arith, c.way_of-out.ensures.1.on, c.loop-w-test.true)

pub returns : goal.returns
returns c = record { marks_same = c.loop-w.invariant.1; some = c.score.ensures }

pub loop-w-preserved : goal.loop-w-preserved
loop-w-preserved c =
    let i = c.loop-w in (
      steps_within _ _ _ _ c.way_count-n.ensures c.loop-w-test.true c.way_of-out.ensures.1,
      elim c.match-out.branch [
        | in-Some+else-is_none w ↦ rw w.marks-is (w.way_price-price.ensures.marks_same ∙ i.invariant.1)
        | in_default w ↦ rw w.marks-is i.invariant.1
      ],
    )
