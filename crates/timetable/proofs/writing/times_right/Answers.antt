-- The answers; the idea of the proof is at the head of the invariants.
use Rattle.std.proofs.Common.{sym, arith, le-leb}
use Rattle.finite.specs.DecideLaws.{is_true, is_false}
use Rattle.timetable.specs.WritingLaws.{decides_times}
use Rattle.timetable.proofs.writing.times_right.Goals as goal
use Rattle.timetable.proofs.writing.times_right.Goals.{then-not-is_time-via-then-not-is_time, then-not-is_time-via-else-not-is_time+then-not-is_time-2}

pub returns-then-not-is_time : goal.returns-then-not-is_time
returns-then-not-is_time c =
    sym (is_false (decides_times c.args.train c.args.m.now c.args.i) (λ h.
    let right = h c.loop-k.k (omega (arith, c.loop-k-test.true, c.legs_between-k-end.ensures)) in
    elim c.then-not-is_time.branch [
      | then-not-is_time-via-then-not-is_time w ↦ (
          let t = le-leb c.departure_of.result 2879 (rw c.departure_of.ensures right.0) in cc (t, c.is_time.ensures, w.if-not-is_time.true))
      | then-not-is_time-via-else-not-is_time+then-not-is_time-2 w ↦ (
          let t = le-leb w.arrival_of.result 2879 (rw w.arrival_of.ensures right.1) in cc (t, w.is_time-else-not-is_time.ensures, w.if-not-is_time-2.true))
    ]))

pub returns : goal.returns
returns c =
    sym (is_true (decides_times c.args.train c.args.m.now c.args.i)
    (λ j h. c.loop-k.invariant j (omega (arith, h, c.loop-k-test.false, c.legs_between-k-end.ensures))))
