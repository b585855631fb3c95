-- `solver::finding::best_timetable` meets its contract: a search of the first plan to its end is one of everything, or no minutes of that plan are in time.
-- Assumes nothing.
use mathlib.Core.Path.{refl, sym, subst}
use native.Mathlib.Omega.{arith}
use Rattle.std.specs.Prelude.{None}
use Rattle.line.specs.RunnableLaws.{within_runnable}
use Rattle.plans.proofs.Clauses.FirstLaws.{first_given, first_under}
use Rattle.plans.specs.declared.found.Found.{Found}
use Rattle.solver.specs.Search.Finding.{FindsBest}
use Rattle.solver.specs.Search.FindingLaws.{finds_searched, finds_nothing}
use Rattle.solver.proofs.finding.best_timetable.Goals as goal

pub first_minutes-first-requires : goal.first_minutes-first-requires
first_minutes-first-requires c = within_runnable c.args.line c.requires.0

pub returns-then-not-first : goal.returns-then-not-first
returns-then-not-first c = finds_nothing c.args.line c.requires.0 c.requires.1 (c.first_minutes-first.ensures.late c.if-not-first.true) _ refl

pub search_whole-whole-requires : goal.search_whole-whole-requires
search_whole-whole-requires c =
    let timely = c.first_minutes-first.ensures.timely c.if-not-first.false in
    let carried = c.first_minutes-first.ensures.carried timely.0 in
    let day = c.of-day.ensures in
    let given = first_given c.args.line c.requires.0 c.requires.1 _ _ carried timely.1 _ _ _ _ day.0 day.1 day.2 day.3 (record { delay = None; steps = 0 }) refl
    (omega arith) in
    let under = first_under c.args.line c.requires.0 c.requires.1 _ _ carried in
    record { line = c.args.line; first = record { given = given; under = under } }

pub returns : goal.returns
returns c =
    let timely = c.first_minutes-first.ensures.timely c.if-not-first.false in
    let carried = c.first_minutes-first.ensures.carried timely.0 in
    let day = c.of-day.ensures in
    let given = first_given c.args.line c.requires.0 c.requires.1 _ _ carried timely.1 _ _ _ _ day.0 day.1 day.2 day.3 (record { delay = None; steps = 0 }) refl
    (omega arith) in
    let under = first_under c.args.line c.requires.0 c.requires.1 _ _ carried in
    let best = finds_searched c.args.line c.requires.0 c.requires.1 _ _ _ _ refl (c.search_whole-whole.ensures c.args.line (record { given = given; under = under })) in
    subst (λ (r : Found). FindsBest c.args.line r.best) (sym c.found_of.ensures) best
