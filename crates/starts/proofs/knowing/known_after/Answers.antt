-- `starts::knowing::known_after` meets its contract: nothing was lawful, or the minutes judged are of least delay still, or the line is solved. Assumes nothing.
use native.Mathlib.Omega.{arith}
use Rattle.line.specs.RunnableLaws.{within_runnable}
use Rattle.rules.specs.StatementLaws.PathsLaws.{routed}
use Rattle.starts.specs.KnowingLaws.{next_within, next_arrays, next_here, none_knows, carried_knows, found_knows}
use Rattle.starts.proofs.knowing.known_after.Goals as goal

pub returns : goal.returns
returns c =
    let f = c.requires.0 in
    found_knows _ (next_within _ _ _ f) (next_arrays _ _ _ f) _ c.best_timetable.ensures

pub best_timetable-requires : goal.best_timetable-requires
best_timetable-requires c = let f = c.requires.0 in (next_within _ _ _ f, next_arrays _ _ _ f)

pub moved_on-minutes-requires : goal.moved_on-minutes-requires
moved_on-minutes-requires c =
    let f = c.requires.0 in
    (routed c.args.next c.args.i (within_runnable _ (next_within _ _ _ f)) (next_arrays _ _ _ f).trains (next_here _ _ _ f), omega (arith, f.here, f.limits.trains.1))

pub carries-requires : goal.carries-requires
carries-requires c = let f = c.requires.0 in (f.limits, next_within _ _ _ f)

pub returns-in_err-best : goal.returns-in_err-best
returns-in_err-best c = rw c.from_residual.ensures (none_knows _ _ _ c.requires.0 (rw c.in_err-best.was at c.requires.1))

pub weighted_delay-requires : goal.weighted_delay-requires
weighted_delay-requires c = within_runnable _ (next_within _ _ _ c.requires.0)

pub returns-then-carries : goal.returns-then-carries
returns-then-carries c =
    carried_knows _ _ _ c.requires.0 _ (rw c.in_ok-best.was at c.requires.1) _ (c.carries.ensures c.if-carries.true) _ c.weighted_delay.ensures
