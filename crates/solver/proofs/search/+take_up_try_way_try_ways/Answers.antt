-- The answers; the idea of the proof is at the head of the invariants.
use mathlib.Core.Path.{refl, ap}
use mathlib.Core.Bool.{not}
use native.Mathlib.Omega.{arith}
use borrow.Author.Rules.{rules}
use lib.ListN.{length-set}
use Rattle.std.specs.Prelude.{Some, None}
use Rattle.orders.specs.Lift.LiftingLaws.{some_alive}
use Rattle.plans.specs.Conflict.Ways.{way_of}
use Rattle.plans.proofs.Clauses.TryingLaws.{way_there, way_absent, count_most, range_of, way_of_real}
use Rattle.plans.proofs.Clauses.NextPlansLaws.{row_few, second_there, way_chooses, next_falls}
use Rattle.solver.specs.Selection.PricingLaws.{untried_falls}
use Rattle.solver.specs.Search.SearchingLaws.{held_after, held_by, sought_low, sought_spent, sought_cut, sought_clear, sought_dead, next_held}
use Rattle.solver.specs.Search.SearchingLaws.{sought_alive, sought_marks, sought_by, ways_priced, ways_done, ways_skip, ways-more}
use Rattle.solver.proofs.search.+take_up_try_way_try_ways.Goals as goal
use Rattle.solver.proofs.search.+take_up_try_way_try_ways.Goals.{try_ways-in-Some-way, try_ways-in_default-way}

pub take_up-returns-then-spent : goal.take_up-returns-then-spent
take_up-returns-then-spent t c l h =
    sought_low l _ _ _ _ _ _ _ h _ _ _ (sought_spent l _ _ _ _ _ _ _ h _ c.if-spent.true c.spent.ensures)

pub take_up-returns-then-not-improves : goal.take_up-returns-then-not-improves
take_up-returns-then-not-improves t c l h =
    sought_low l _ _ _ _ _ _ _ h _ _ _ (sought_cut l _ _ _ _ _ _ _ h _ c.improves.ensures (ap not c.if-not-improves.true))

pub take_up-choose_conflict-selected-requires : goal.take_up-choose_conflict-selected-requires
take_up-choose_conflict-selected-requires t c = c.requires

pub take_up-returns-in_default : goal.take_up-returns-in_default
take_up-returns-in_default t c l h =
    let o = rw c.in_default.is at c.choose_conflict-selected.ensures in
    sought_low l _ _ _ _ _ _ _ h _ _ _
    (sought_marks l _ _ _ _ _ _ _ _ o.marks_same
    (sought_clear l _ _ _ _ _ _ _ h _ c.improves.ensures (ap not c.if-not-improves.false) None o.chosen refl _ c.copy_minutes.ensures))

pub take_up-try_ways-requires : goal.take_up-try_ways-requires
take_up-try_ways-requires t c =
    let p = c.requires in
    let g = p.held.given in
    let o = rw c.in-Some.is at c.choose_conflict-selected.ensures in (
      omega (arith, c.decreases),
      record {
        line = p.line;
        held = held_by p.line _ _ _ _ _ None _ p.held _ o.marks_same;
        real = (o.chosen p.line g.tabled.within g.tabled.raisable.arrays g.layout_is g.tabled.raisable.directions).real;
      },
    )

pub take_up-returns : goal.take_up-returns
take_up-returns t c l h =
    let g = h.given in
    let o = rw c.in-Some.is at c.choose_conflict-selected.ensures in
    sought_low l _ _ _ _ _ _ _ h _ _ _
    (sought_by l _ _ _ _ _ _ _ _ o.marks_same
    (c.try_ways.ensures l (held_by l _ _ _ _ _ None _ h _ o.marks_same)
    (o.chosen l g.tabled.within g.tabled.raisable.arrays g.layout_is g.tabled.raisable.directions).real))

pub try_way-offset_bounds-marks-row : goal.try_way-offset_bounds-marks-row
try_way-offset_bounds-marks-row t c =
    let p = c.requires in
    omega (arith, row_few p.line p.held.given.tabled.within _ _ p.choice _ p.is_way)

pub try_way-bounds-marks-row : goal.try_way-bounds-marks-row
try_way-bounds-marks-row t c =
    let p = c.requires in
    row_few p.line p.held.given.tabled.within _ _ p.choice _ p.is_way

pub try_way-with_bit-requires : goal.try_way-with_bit-requires
try_way-with_bit-requires t c =
    let p = c.requires in
    second_there p.line p.held.given.tabled.within _ _ p.choice _ p.is_way

pub try_way-offset_bounds-marks-row-2 : goal.try_way-offset_bounds-marks-row-2
try_way-offset_bounds-marks-row-2 t c =
    let p = c.requires in
    omega (arith, row_few p.line p.held.given.tabled.within _ _ p.choice _ p.is_way)

pub try_way-bounds-marks-row-2 : goal.try_way-bounds-marks-row-2
try_way-bounds-marks-row-2 t c =
    let p = c.requires in
    row_few p.line p.held.given.tabled.within _ _ p.choice _ p.is_way

pub try_way-raised-requires : goal.try_way-raised-requires
try_way-raised-requires t c =
    let p = c.requires in
    let g = p.held.given in
    record {
      line = p.line;
      choice = p.choice;
      plan = c.args.marks.now;
      chooses = way_chooses p.line _ _ _ _ _ g.tabled g.planned p.choice _ p.is_way _ c.with_bit.ensures _ refl;
    }

pub try_way-offset_bounds-marks-row-in_default : goal.try_way-offset_bounds-marks-row-in_default
try_way-offset_bounds-marks-row-in_default t c =
    let p = c.requires in
    omega (arith, row_few p.line p.held.given.tabled.within _ _ p.choice _ p.is_way)

pub try_way-bounds-marks-row-in_default : goal.try_way-bounds-marks-row-in_default
try_way-bounds-marks-row-in_default t c =
    let p = c.requires in
    row_few p.line p.held.given.tabled.within _ _ p.choice _ p.is_way

pub try_way-returns-in_default : goal.try_way-returns-in_default
try_way-returns-in_default t c l x h i =
    sought_dead l _ _ _ _ _ _ _ h x _ i _ c.counted-b.ensures _ c.with_bit.ensures _ refl _
    c.cut_of.ensures _ _ c.raised.ensures c.in_default.is

pub try_way-take_up-r-requires : goal.try_way-take_up-r-requires
try_way-take_up-r-requires t c =
    let p = c.requires in
    let g = p.held.given in
    let raised = rw c.in-Some.is at c.raised.ensures in
    let falls = next_falls p.line _ _ _ _ _ g.tabled g.planned p.choice _ p.is_way _ c.with_bit.ensures _ refl _ _ _ raised (some_alive refl) in
    let held = next_held p.line _ _ _ _ _ None _ p.held p.choice _ p.is_way _ c.counted-b.ensures _ c.with_bit.ensures _
    refl _ c.cut_of.ensures _ _ raised (some_alive refl) in
    (omega (arith, c.decreases, falls), record { line = p.line; held = held })

pub try_way-offset_bounds-marks-row-3 : goal.try_way-offset_bounds-marks-row-3
try_way-offset_bounds-marks-row-3 t c =
    let p = c.requires in
    omega (arith, row_few p.line p.held.given.tabled.within _ _ p.choice _ p.is_way)

pub try_way-bounds-marks-row-3 : goal.try_way-bounds-marks-row-3
try_way-bounds-marks-row-3 t c =
    let p = c.requires in
    row_few p.line p.held.given.tabled.within _ _ p.choice _ p.is_way

pub try_way-returns : goal.try_way-returns
try_way-returns t c l x h i =
    let raised = rw c.in-Some.is at c.raised.ensures in
    let held = next_held l _ _ _ _ _ None _ h x _ i _ c.counted-b.ensures _ c.with_bit.ensures _ refl _
    c.cut_of.ensures _ _ raised (some_alive refl) in
    sought_alive l _ _ _ _ _ _ _ h x _ i _ c.counted-b.ensures _ c.with_bit.ensures _ refl _
    c.cut_of.ensures _ _ raised _ _ _ (c.take_up-r.ensures l held).0

pub try_ways-chosen_prices-prices-requires : goal.try_ways-chosen_prices-prices-requires
try_ways-chosen_prices-prices-requires t c = c.requires

pub try_ways-cheapest-requires : goal.try_ways-cheapest-requires
try_ways-cheapest-requires t c = omega (arith, c.loop-w.invariant.0, count_most (Some c.args.conflict))

pub try_ways-loop-w-init : goal.try_ways-loop-w-init
try_ways-loop-w-init t c = (
  c.way_count-n.ensures,
  (λ l h real. ways_priced l _ _ _ _ _ _ _ h _ real _ _ _ c.chosen_prices-prices.ensures _ (omega (arith, c.way_count-n.ensures))),
  search rules,
)

pub try_ways-way_of-requires : goal.try_ways-way_of-requires
try_ways-way_of-requires t c =
    let p = c.requires in
    let g = p.held.given in
    let w = c.cheapest.ensures.alive _ c.in-Some.is in (
      range_of p.line g.tabled.within g.tabled.raisable.arrays _ c.args.conflict p.real,
      omega (arith, c.loop-w.invariant.0, count_most (Some c.args.conflict), w.0),
    )

pub try_ways-try_way-b-requires : goal.try_ways-try_way-b-requires
try_ways-try_way-b-requires t c =
    let i = c.loop-w in
    let p = c.requires in
    let g = p.held.given in
    let held = held_by p.line _ _ _ _ _ None _ p.held _ c.chosen_prices-prices.ensures.marks_same in
    let done = i.invariant.1 p.line held p.real in
    let there = way_there _ _ (way_of (Some c.args.conflict) c.in-Some.w) (rw c.in-Some-way.is at c.way_of.ensures.0) in (
      omega (arith, c.decreases),
      record {
        line = p.line;
        choice = there.0;
        held = held_after p.line _ _ _ _ _ None _ held _ _ _ done.marks_same done.tallied;
        is_way =
            way_of_real p.line g.tabled.within g.tabled.raisable.arrays _ (Some c.args.conflict) p.real _ _ _ c.in-Some.w i.invariant.0
            (c.cheapest.ensures.alive _ c.in-Some.is).0 there.0 there.1 there.2;
      },
    )

pub try_ways-loop-w-smaller : goal.try_ways-loop-w-smaller
try_ways-loop-w-smaller t c =
    let i = c.loop-w in
    let w = c.cheapest.ensures.alive _ c.in-Some.is in
    untried_falls _ _ c.in-Some.w w.0 (omega (arith, i.invariant.2, w.0, i.invariant.0, count_most (Some c.args.conflict))) w.1

pub try_ways-loop-w-preserved : goal.try_ways-loop-w-preserved
try_ways-loop-w-preserved t c =
    let i = c.loop-w in
    let out = c.way_of.ensures.0 in (
      i.invariant.0,
      (λ l h real.
          let done = i.invariant.1 l h real in
          elim c.match-way_of.branch [
            | try_ways-in-Some-way w ↦
                let there = way_there _ _ (way_of (Some c.args.conflict) c.in-Some.w) (rw w.in-Some-way.is at out) in
                let is_way = way_of_real l h.given.tabled.within h.given.tabled.raisable.arrays _ (Some c.args.conflict) real _ _ _ c.in-Some.w i.invariant.0
                (c.cheapest.ensures.alive _ c.in-Some.is).0 there.0 there.1 there.2 in
                let held = held_after l _ _ _ _ _ None _ h _ _ _ done.marks_same done.tallied in
                rw (w.marks-is, w.best-is, w.b-is) (ways-more l _ _ _ _ _ _ _ _ _ _ done c.in-Some.w there.0 there.1 _ _ _ (w.try_way-b.ensures l there.0 held is_way))
            | try_ways-in_default-way w ↦
                rw (w.marks-is, w.best-is, w.b-is) (ways_skip l _ _ _ _ _ _ _ _ _ _ done c.in-Some.w
                (way_absent _ (way_of (Some c.args.conflict) c.in-Some.w) (rw w.in_default-way.is at out)))
          ]),
      simp length-set i.invariant.2,
    )

pub try_ways-returns : goal.try_ways-returns
try_ways-returns t c l h real =
    let i = c.loop-w in
    let same = c.chosen_prices-prices.ensures.marks_same in
    let held = held_by l _ _ _ _ _ None _ h _ same in
    sought_by l _ _ _ _ _ _ _ _ same
    (ways_done l _ _ _ _ _ _ _ held _ real (λ e. absurd (cc)) _ i.invariant.0 _ _ _ _ (i.invariant.1 l held real) (rw c.in_default.is at c.cheapest.ensures))
