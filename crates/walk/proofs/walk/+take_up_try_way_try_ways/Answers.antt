-- The answers; the idea of the proof is at the head of the invariants.
use Rattle.std.specs.Prelude.{Some}
use mathlib.Core.Path.{◌≡◌, refl, sym, ◌∙◌, ap}
use mathlib.Core.Bool.{not}
use native.Mathlib.Omega.{arith}
use Rattle.rules.specs.Scan.StationLaws.{directions_size}
use Rattle.plans.specs.Conflict.Ways.{way_of, way_count}
use Rattle.plans.proofs.Clauses.WaysToldLaws.{steps_within}
use Rattle.orders.specs.Lift.LiftingLaws.{some_alive}
use Rattle.walk.specs.WalksLaws.{walks_none}
use Rattle.walk.specs.TakenLaws.{some_ways}
use Rattle.plans.proofs.Clauses.TryingLaws.{way_there, count_most, conflict_range, is_way}
use Rattle.plans.proofs.Clauses.GivenLaws.{key_long, laid_out, conflict_known}
use Rattle.walk.specs.TakenLaws.{clear_known, given_taken, given_cut, given_clear, given_split, given_fails, given_dead, next_given}
use Rattle.walk.specs.TakenLaws.{given_alive, given_after, tries_more, tries_skip}
use Rattle.plans.proofs.Clauses.NextPlansLaws.{row_few, second_there, way_chooses, next_falls}
use Rattle.walk.proofs.walk.+take_up_try_way_try_ways.Goals as goal
use Rattle.walk.proofs.walk.+take_up_try_way_try_ways.Goals.{try_ways-in-Some, try_ways-in_default}

pub try_way-returns-then-fails : goal.try_way-returns-then-fails
try_way-returns-then-fails t c l x g i =
    given_fails l _ _ _ _ _ _ _ _ _ g x _ i _ c.with_bit.ensures _ c.counted-b.ensures _ c.cut_of.ensures
    (c.fails.ensures c.if-fails.true)

pub take_up-returns-then-not-improves : goal.take_up-returns-then-not-improves
take_up-returns-then-not-improves t c l g =
    given_taken l _ _ _ _ _ _ _ _ _ g _ _ _ (given_cut l _ _ _ _ _ _ _ _ _ g _ c.improves.ensures (ap not c.if-not-improves.true))

pub take_up-lowest_conflict-requires : goal.take_up-lowest_conflict-requires
take_up-lowest_conflict-requires t c =
    record {
      scans = record {
        laid_out = laid_out c.requires.line _ _ _ _ _ _ _ _ _ c.requires.given;
        directions = directions_size _ _ c.requires.given.tabled.raisable.directions;
        size = c.requires.given.planned.carried.least.fit.size;
      };
      former_size = c.requires.former_size;
      known = c.requires.known;
    }

pub take_up-returns-in_default : goal.take_up-returns-in_default
take_up-returns-in_default t c l g =
    given_taken l _ _ _ _ _ _ _ _ _ g _ _ _
    (given_clear l _ _ _ _ _ _ _ _ _ g _ c.improves.ensures (ap not c.if-not-improves.false)
    _ (sym c.in_default.is ∙ c.lowest_conflict.ensures) refl _ c.copy_minutes.ensures)

pub take_up-try_ways-requires : goal.take_up-try_ways-requires
take_up-try_ways-requires t c =
    let g = c.requires in (
      omega (arith, c.decreases),
      record {
        line = g.line;
        given = g.given;
        conflict_is = conflict_known g.line _ _ _ _ _ _ _ _ _ g.given _ (sym c.in-Some.is ∙ c.lowest_conflict.ensures);
      },
    )

pub take_up-returns : goal.take_up-returns
take_up-returns t c l g =
    let is = sym c.in-Some.is ∙ c.lowest_conflict.ensures in
    given_taken l _ _ _ _ _ _ _ _ _ g _ _ _
    (given_split l _ _ _ _ _ _ _ _ _ g _ c.improves.ensures (ap not c.if-not-improves.false) _ is (some_ways c.in-Some.conflict) _ _ _
    (c.try_ways.ensures l g (conflict_known l _ _ _ _ _ _ _ _ _ g _ is)))

pub try_way-fails-requires : goal.try_way-fails-requires
try_way-fails-requires t c =
    record {
      line = c.requires.line;
      choice = c.requires.choice;
      plan = c.args.marks.now;
      chooses =
          way_chooses c.requires.line _ _ _ _ _ c.requires.given.tabled c.requires.given.planned c.requires.choice _ c.requires.is_way _ c.with_bit.ensures _
          refl;
    }

pub try_way-raised-requires : goal.try_way-raised-requires
try_way-raised-requires t c =
    record {
      line = c.requires.line;
      choice = c.requires.choice;
      plan = c.args.marks.now;
      chooses =
          way_chooses c.requires.line _ _ _ _ _ c.requires.given.tabled c.requires.given.planned c.requires.choice _ c.requires.is_way _ c.with_bit.ensures _
          refl;
    }

pub try_way-returns-in_default : goal.try_way-returns-in_default
try_way-returns-in_default t c l x g i =
    given_dead l _ _ _ _ _ _ _ _ _ g x _ i _ c.with_bit.ensures _ c.counted-b.ensures _ refl _
    c.cut_of-2.ensures _ _ c.raised.ensures c.in_default.is

pub try_way-take_up-r-requires : goal.try_way-take_up-r-requires
try_way-take_up-r-requires t c =
    let p = c.requires in
    let falls = next_falls p.line _ _ _ _ _ p.given.tabled p.given.planned p.choice _ p.is_way _ c.with_bit.ensures _
    refl _ _ _ (rw c.in-Some.is at c.raised.ensures) (some_alive refl) in
    let given = next_given p.line _ _ _ _ _ _ _ _ _ p.given p.choice _ p.is_way _ c.with_bit.ensures _ c.counted-b.ensures _
    refl _ c.cut_of-2.ensures _ _ (rw c.in-Some.is at c.raised.ensures) (some_alive refl) in
    (omega (arith, c.decreases, falls), record { line = p.line; given = given; former_size = p.given.planned.carried.least.fit.size; known = p.known })

pub try_way-returns : goal.try_way-returns
try_way-returns t c l x g i =
    let given = next_given l _ _ _ _ _ _ _ _ _ g x _ i _ c.with_bit.ensures _ c.counted-b.ensures _
    refl _ c.cut_of-2.ensures _ _ (rw c.in-Some.is at c.raised.ensures) (some_alive refl) in
    given_alive l _ _ _ _ _ _ _ _ _ g x _ i _ c.with_bit.ensures _ c.counted-b.ensures _ refl _
    c.cut_of-2.ensures _ _ (rw c.in-Some.is at c.raised.ensures) (some_alive refl) _ _ _ (c.take_up-r.ensures l given).0

pub try_ways-clear_segments-clear-requires : goal.try_ways-clear_segments-clear-requires
try_ways-clear_segments-clear-requires t c = laid_out c.requires.line _ _ _ _ _ _ _ _ _ c.requires.given

pub try_ways-loop-w-init : goal.try_ways-loop-w-init
try_ways-loop-w-init t c =
    ((λ l g e. walks_none l g.tabled.within g.tabled.raisable.arrays _ _ _ _ _ g.planned g.tallied _), omega arith)

pub try_ways-way_of-out-requires : goal.try_ways-way_of-out-requires
try_ways-way_of-out-requires t c = (
  conflict_range c.requires.line c.requires.given.tabled.within c.requires.given.tabled.raisable.arrays _ _ c.requires.conflict_is _ refl,
  omega (arith, c.way_count-n.ensures, count_most (Some c.args.conflict), c.loop-w-test.true),
)

pub try_ways-try_way-b-requires : goal.try_ways-try_way-b-requires
try_ways-try_way-b-requires t c =
    let i = c.loop-w in
    let r = c.requires in
    let there = way_there _ _ (way_of (Some c.args.conflict) i.w) (rw c.in-Some.is at c.way_of-out.ensures.0) in
    let is = is_way r.line r.given.tabled.within r.given.tabled.raisable.arrays _ _ r.conflict_is _ _ _ i.w c.way_count-n.ensures c.loop-w-test.true
    there.0 there.1 there.2 in (
      omega (arith, c.decreases),
      record {
        line = r.line;
        choice = there.0;
        given = given_after r.line _ _ _ _ _ _ _ _ _ r.given _ _ _ _ (i.invariant.0 r.line r.given r.conflict_is);
        is_way = is;
        row_few = row_few r.line r.given.tabled.within _ _ there.0 _ is;
        second_few = second_there r.line r.given.tabled.within _ _ there.0 _ is;
        known = clear_known r.line _ _ _ _ _ _ _ _ _ r.given _ r.conflict_is _ c.clear_segments-clear.ensures;
      },
    )

pub try_ways-overflow_add-w : goal.try_ways-overflow_add-w
try_ways-overflow_add-w t c = omega (arith, c.way_of-out.ensures.1.up_to)

pub try_ways-loop-w-smaller : goal.try_ways-loop-w-smaller
try_ways-loop-w-smaller t c = omega (arith, c.way_of-out.ensures.1.on, c.loop-w-test.true)

pub try_ways-loop-w-preserved : goal.try_ways-loop-w-preserved
try_ways-loop-w-preserved t c =
    let i = c.loop-w in
    let count = c.way_count-n.ensures in
    let low = c.loop-w-test.true in
    let out = c.way_of-out.ensures in (
      elim c.match-out.branch [
        | try_ways-in-Some w ↦
            tries_more _ _ _ _ _ _ _ _ _ _ _ count i.w low _ _ _ i.invariant.0 _ out.0 _ out.1 _ _ _ _ w.in-Some.is _ _ _ w.try_way-b.ensures
            w.marks-is w.best-is w.b-is
        | try_ways-in_default w ↦ tries_skip _ _ _ _ _ _ _ _ _ _ _ count i.w low _ _ _ i.invariant.0 _ out.0 _ out.1 _ _ _ w.in_default.is w.marks-is w.best-is w.b-is
      ],
      steps_within _ _ _ _ count low out.1,
    )

pub try_ways-returns : goal.try_ways-returns
try_ways-returns t c =
    let i = c.loop-w in
    let all : i.w ≡ way_count (Some c.args.conflict) = omega (arith, c.loop-w-test.false, i.invariant.1, c.way_count-n.ensures) in
    rw (← all) i.invariant.0
