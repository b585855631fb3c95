-- `solver::selecting::with_pair` meets its contract: two trains that the test finds in conflict are in one on every line with this segment. Assumes
-- nothing.
use mathlib.Core.Path.{ap}
use mathlib.Core.Bool.{not}
use native.Mathlib.Omega.{arith}
use Rattle.solver.specs.Selection.SelectingLaws.{on_low, clash-on, higher_real, scores_on_none}
use Rattle.solver.proofs.selecting.with_pair.Goals as goal

pub in_conflict-requires : goal.in_conflict-requires
in_conflict-requires c =
    let a = c.requires in
    let low = on_low _ _ _ _ _ _ _ a.0 in (low.0, omega (arith, a.1, low.1), omega (arith, a.2, low.1))

pub returns-then-not-in_conflict : goal.returns-then-not-in_conflict
returns-then-not-in_conflict c = scores_on_none _ _ _ _ _ _ _

pub higher_scored-requires : goal.higher_scored-requires
higher_scored-requires c =
    let a = c.requires in
    let p = a.0 in
    record {
      line = p.line;
      tabled = p.tabled;
      planned = p.planned;
      real =
          clash-on p.line p.tabled.within p.tabled.raisable.arrays c.args.day.now _ p.tabled.raisable.directions _ _ _ p.on _ _ a.1 a.2 _
          c.in_conflict.ensures (ap not c.if-not-in_conflict.false);
    }

pub returns : goal.returns
returns c =
    let a = c.requires in
    record {
      marks_same = c.higher_scored.ensures.marks_same;
      real = λ l w a₁ d on old.
          higher_real l _ _ _ _ _ _ c.higher_scored.ensures old
          (clash-on l w a₁ c.args.day.now _ d _ _ _ on _ _ a.1 a.2 _ c.in_conflict.ensures (ap not c.if-not-in_conflict.false));
    }
