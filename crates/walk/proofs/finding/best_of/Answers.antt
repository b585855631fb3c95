-- `walk::finding::best_of` meets its contract: the walk from the first plan is the whole walk, or no minutes of that plan are in time.
use mathlib.Core.Path.{refl, sym, subst}
use Rattle.std.specs.Prelude.{None}
use native.Mathlib.Omega.{arith}
use borrow.Author.Tests.{not-true, not-false}
use lib.ListN.{replicate}
use Rattle.line.specs.RunnableLaws.{within_runnable}
use Rattle.orders.specs.Plan.Marks.{free}
use Rattle.walk.specs.ScanningLaws.{clear_none}
use Rattle.plans.proofs.Clauses.FirstLaws.{first_given}
use Rattle.walk.specs.Finding.{FindsWalked}
use Rattle.walk.specs.FindingLaws.{finds_walked, finds_nothing}
use Rattle.walk.proofs.finding.best_of.Goals as goal

pub first_minutes-first-requires : goal.first_minutes-first-requires
first_minutes-first-requires c = within_runnable c.args.line c.requires.0

pub returns-then-not-first : goal.returns-then-not-first
returns-then-not-first c =
    finds_nothing c.args.line c.requires.0 c.requires.1 (c.first_minutes-first.ensures.late (not-true _ c.if-not-first.true)) _ refl refl

pub take_up-tally-requires : goal.take_up-tally-requires
unfolding free
take_up-tally-requires c =
    let timely = c.first_minutes-first.ensures.timely (not-false _ c.if-not-first.false) in
    let carried = c.first_minutes-first.ensures.carried timely.0 in
    let day = c.of-day.ensures in
    let given = first_given c.args.line c.requires.0 c.requires.1 _ _ carried timely.1 _ _ _ _ day.0 day.1 day.2 day.3
    (record { delay = None; steps = 1 }) refl (omega arith) in
    record { line = c.args.line; given = given; former_size = given.planned.carried.least.fit.size; known = clear_none _ _ _ }

pub returns : goal.returns
unfolding free
returns c =
    let timely = c.first_minutes-first.ensures.timely (not-false _ c.if-not-first.false) in
    let carried = c.first_minutes-first.ensures.carried timely.0 in
    let day = c.of-day.ensures in
    let given = first_given c.args.line c.requires.0 c.requires.1 _ _ carried timely.1 _ _ _ _ day.0 day.1 day.2 day.3
    (record { delay = None; steps = 1 }) refl (omega arith) in
    subst (FindsWalked c.args.line) (sym c.found_of.ensures)
    (finds_walked c.args.line c.requires.0 c.requires.1 c.first_minutes-first.result.minutes carried.least (replicate 352 0) refl refl
    (c.take_up-tally.ensures c.args.line given).0)
