-- The answers; the idea of the proof is at the head of the invariants.
use Prim.Native.Nat.{ℕ}
use mathlib.Core.Path.{◌≡◌}
use native.Mathlib.Omega.{arith}
use lib.ListN.{length-set, length-replicate}
use Rattle.std.specs.Prelude.{Option, None}
use Rattle.plans.specs.Conflict.Ways.{way_of, way_count}
use Rattle.plans.proofs.Clauses.WaysToldLaws.{steps_within}
use Rattle.plans.proofs.Clauses.TryingLaws.{way_there, count_most, way_of_real}
use Rattle.solver.specs.Selection.PricingLaws.{range_if, prices_none, prices_skip, prices_more, planned_after}
use Rattle.solver.proofs.pricing.way_prices.Goals as goal
use Rattle.solver.proofs.pricing.way_prices.Goals.{in-Some, in_default}

pub loop-w-init : goal.loop-w-init
loop-w-init c = (omega arith, prices_none _ _ _ _ _ _ _, length-replicate {A = Option ℕ} 144 None)

pub way_of-out-requires : goal.way_of-out-requires
way_of-out-requires c =
    let a = c.requires in (
      range_if a.line a.tabled.within a.tabled.raisable.arrays _ c.args.conflict a.real,
      omega (arith, c.way_count-n.ensures, count_most c.args.conflict, c.loop-w-test.true),
    )

pub way_price-requires : goal.way_price-requires
way_price-requires c =
    let i = c.loop-w in
    let a = c.requires in
    let there = way_there _ _ (way_of c.args.conflict i.w) (rw c.in-Some.is at c.way_of-out.ensures.0) in
    record {
      line = a.line;
      choice = there.0;
      tabled = a.tabled;
      planned = planned_after _ _ _ _ _ i.invariant.1.marks_same a.planned;
      is_way =
          way_of_real a.line a.tabled.within a.tabled.raisable.arrays _ c.args.conflict a.real _ _ _ i.w c.way_count-n.ensures
          c.loop-w-test.true there.0 there.1 there.2;
    }

pub overflow_add-w : goal.overflow_add-w
overflow_add-w c = omega (arith, c.way_of-out.ensures.1.up_to)

pub loop-w-smaller : goal.loop-w-smaller
loop-w-smaller c = omega (arith, c.way_of-out.ensures.1.on, c.loop-w-test.true)

pub loop-w-preserved : goal.loop-w-preserved
loop-w-preserved c =
    let i = c.loop-w in
    let count = c.way_count-n.ensures in
    let low = c.loop-w-test.true in
    let out = c.way_of-out.ensures in (
      steps_within _ _ _ _ count low out.1,
      elim c.match-out.branch [
        | in-Some w ↦
            rw (w.marks-is, w.prices-is) (prices_more _ _ _ _ _ _ _ count _ low _ _ i.invariant.1 _ out.1 _ (rw w.in-Some.is at out.0) _ _ w.way_price.ensures
            (omega (arith, i.invariant.2, count, count_most c.args.conflict)))
        | in_default w ↦ rw (w.marks-is, w.prices-is) (prices_skip _ _ _ _ _ _ _ count _ low _ _ i.invariant.1 _ out.1 (rw w.in_default.is at out.0))
      ],
      elim c.match-out.branch [
        | in-Some w ↦ rw w.prices-is (simp length-set i.invariant.2)
        | in_default w ↦ rw w.prices-is i.invariant.2
      ],
    )

pub returns : goal.returns
returns c =
    let i = c.loop-w in
    let all : i.w ≡ way_count c.args.conflict = omega (arith, c.loop-w-test.false, i.invariant.0, c.way_count-n.ensures) in
    rw (← all) i.invariant.1
