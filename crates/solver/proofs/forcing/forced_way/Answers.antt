-- `solver::forcing::forced_way` meets its contract: the prices tell which ways are dead, so where all are nothing is left, and one that alone is not is
-- forced. Assumes nothing.
use mathlib.Core.Path.{◌≡◌, ◌∙◌}
use borrow.Author.Rules.{rules}
use native.Mathlib.Omega.{arith}
use Rattle.std.specs.Prelude.{Some, None}
use Rattle.plans.proofs.Clauses.TryingLaws.{count_most, range_of}
use Rattle.solver.specs.Selection.PricingLaws.{planned_after}
use Rattle.solver.specs.Lookahead.ForcingLaws.{all_dead, none_left, one_left}
use Rattle.solver.proofs.forcing.forced_way.Goals as goal

pub returns-then-selected : goal.returns-then-selected
returns-then-selected c = record { marks_same = c.select_conflict-selected.ensures.marks_same; says = λ _ _ _ _. tt }

pub way_prices-prices-requires : goal.way_prices-prices-requires
way_prices-prices-requires c =
    let p = c.requires in
    let chosen = rw c.in-Some.is at c.select_conflict-selected.ensures in
    record {
      line = p.line;
      tabled = p.tabled;
      planned = planned_after _ _ _ _ _ chosen.marks_same p.planned;
      real = (chosen.chosen p.line p.tabled.within p.tabled.raisable.arrays p.layout_is p.tabled.raisable.directions).real;
    }

pub bounds-prices-w : goal.bounds-prices-w
bounds-prices-w c =
    omega (arith, (c.cheapest.ensures.alive _ c.in-Some-cheapest.is).0, c.way_count-n.ensures, count_most (Some c.in-Some.conflict))

pub returns-in_default : goal.returns-in_default
returns-in_default c = record { marks_same = c.select_conflict-selected.ensures.marks_same; says = λ _ _ _ _. tt }

pub returns-in_default-cheapest : goal.returns-in_default-cheapest
returns-in_default-cheapest c =
    let chosen = rw c.in-Some.is at c.select_conflict-selected.ensures in
    record {
      marks_same = c.way_prices-prices.ensures.marks_same ∙ c.select_conflict-selected.ensures.marks_same;
      says = λ l tabled planned is.
          all_dead _ _ _ _ _ _ _ chosen _ c.way_count-n.ensures _ _ c.way_prices-prices.ensures l tabled planned is
          (rw c.in_default-cheapest.is at c.cheapest.ensures);
    }

pub way_of-requires : goal.way_of-requires
way_of-requires c =
    let p = c.requires in
    let chosen = rw c.in-Some.is at c.select_conflict-selected.ensures in
    let real = (chosen.chosen p.line p.tabled.within p.tabled.raisable.arrays p.layout_is p.tabled.raisable.directions).real in (
      range_of p.line p.tabled.within p.tabled.raisable.arrays _ c.in-Some.conflict real,
      omega (arith, (c.cheapest.ensures.alive _ c.in-Some-cheapest.is).0, c.way_count-n.ensures, count_most (Some c.in-Some.conflict)),
    )

pub returns-then-is_some : goal.returns-then-is_some
returns-then-is_some c =
    record { marks_same = c.way_prices-prices.ensures.marks_same ∙ c.select_conflict-selected.ensures.marks_same; says = λ _ _ _ _. tt }

pub returns-in-Some-way : goal.returns-in-Some-way
returns-in-Some-way c =
    let chosen = rw c.in-Some.is at c.select_conflict-selected.ensures in
    let none : c.cheapest-2.result ≡ None = search rules in
    record {
      marks_same = c.way_prices-prices.ensures.marks_same ∙ c.select_conflict-selected.ensures.marks_same;
      says = λ l tabled planned is.
          one_left _ _ _ _ _ _ _ chosen _ c.way_count-n.ensures _ _ c.way_prices-prices.ensures l tabled planned is
          _ (c.cheapest.ensures.alive _ c.in-Some-cheapest.is).0 (rw none at c.cheapest-2.ensures) _ (rw c.in-Some-way.is at c.way_of.ensures.0);
    }

pub returns-in-None : goal.returns-in-None
returns-in-None c =
    let chosen = rw c.in-Some.is at c.select_conflict-selected.ensures in
    let none : c.cheapest-2.result ≡ None = search rules in
    record {
      marks_same = c.way_prices-prices.ensures.marks_same ∙ c.select_conflict-selected.ensures.marks_same;
      says = λ l tabled planned is.
          none_left _ _ _ _ _ _ _ chosen _ c.way_count-n.ensures _ _ c.way_prices-prices.ensures l tabled planned is
          _ (c.cheapest.ensures.alive _ c.in-Some-cheapest.is).0 (rw none at c.cheapest-2.ensures) (rw c.in-None.is at c.way_of.ensures.0);
    }

pub offset_bounds-prices-w : goal.offset_bounds-prices-w
offset_bounds-prices-w c =
    omega (arith, (c.cheapest.ensures.alive _ c.in-Some-cheapest.is).0, c.way_count-n.ensures, count_most (Some c.in-Some.conflict))
