-- `solver::solving::solve` meets its contract: a file that is refused, or a line without a timetable, with no byte written; or the best timetable's text,
-- which writing lends.
use Rattle.line.specs.RoundTripLaws.{accepted_read}
use Rattle.solver.specs.Promise.SolvingLaws.{line_none, line_written, solving_line}
use Rattle.solver.proofs.solving.solve.Goals as goal

pub best_timetable-requires : goal.best_timetable-requires
best_timetable-requires c = let r = accepted_read _ c.in_ok-line.ensures in (r.limits, r.arrays)

pub returns-in_default : goal.returns-in_default
returns-in_default c = solving_line _ c.in_ok-line.ensures (line_none _ (c.best_timetable.ensures.none c.in_default.is))

pub returns : goal.returns
returns c =
    let r = accepted_read _ c.in_ok-line.ensures in
    solving_line _ c.in_ok-line.ensures
    (line_written c.in_ok-line.line r.limits r.arrays c.in-Some.best.minutes (c.best_timetable.ensures.best _ c.in-Some.is) c.write.ensures)
