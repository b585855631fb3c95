-- The answers; the idea of the proof is at the head of the invariants.
use Rattle.std.proofs.Common.{sym, ◌∙◌, arith}
use Rattle.timetable.specs.WritingLaws.{late_at, late_none}
use Rattle.timetable.proofs.writing.minutes_fault.Goals as goal

pub returns-then-not-times_right : goal.returns-then-not-times_right
returns-then-not-times_right c =
    let late = sym c.times_right.ensures ∙ c.if-not-times_right.true in
    late_at c.args.line c.args.m.now c.loop-i.i (omega arith) late c.loop-i.invariant

pub returns : goal.returns
returns c = late_none c.args.line c.args.m.now (λ j h. c.loop-i.invariant j (omega arith))
