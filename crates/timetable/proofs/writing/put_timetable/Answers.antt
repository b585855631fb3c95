-- `timetable::writing::put_timetable` meets its contract: the four parts of the text are written one after the other, and each fits where all of them do.
-- Assumes nothing.
use Rattle.std.proofs.Common.{ℕ, arith, ap, length, length-append, append_assoc}
use Rattle.line.specs.RunnableLaws.{within_runnable}
use Rattle.timetable.specs.FitsLaws.{total_small, timetable_fits}
use Rattle.timetable.specs.WritingLaws.{timetable_parts, timetable_size}
use Rattle.timetable.proofs.writing.put_timetable.Goals as goal

pub put_minutes-requires : goal.put_minutes-requires
put_minutes-requires c =
    let whole = timetable_fits c.args.line c.args.m.now c.requires.0 c.requires.1 in
    let size = timetable_size c.args.line c.args.m.now in
    (c.requires.0, rw c.requires.2 (omega arith))

pub field-requires : goal.field-requires
field-requires c =
    let whole = timetable_fits c.args.line c.args.m.now c.requires.0 c.requires.1 in
    let size = timetable_size c.args.line c.args.m.now in
    let first = ap length (rw c.requires.2 at c.put_minutes.ensures) in
    rw (c.from.ensures, c.list_count.ensures.0) (omega arith, (omega (arith, length-append {A = ℕ}), omega (arith, c.list_count.ensures)))

pub put_lists-requires : goal.put_lists-requires
put_lists-requires c =
    let whole = timetable_fits c.args.line c.args.m.now c.requires.0 c.requires.1 in
    let size = timetable_size c.args.line c.args.m.now in
    let first = ap length (rw c.requires.2 at c.put_minutes.ensures) in
    let number = ap length (rw (c.from.ensures, c.list_count.ensures.0) at c.field.ensures) in
    rw c.order_lists-lists.ensures.0 (omega (arith, length-append {A = ℕ}))

pub weighted_delay-requires : goal.weighted_delay-requires
weighted_delay-requires c = within_runnable c.args.line c.requires.0

pub field-requires-2 : goal.field-requires-2
field-requires-2 c =
    let whole = timetable_fits c.args.line c.args.m.now c.requires.0 c.requires.1 in
    let size = timetable_size c.args.line c.args.m.now in
    let first = ap length (rw c.requires.2 at c.put_minutes.ensures) in
    let number = ap length (rw (c.from.ensures, c.list_count.ensures.0) at c.field.ensures) in
    let lists = ap length (rw c.order_lists-lists.ensures.0 at c.put_lists.ensures) in
    rw c.weighted_delay.ensures (omega arith, (omega (arith, length-append {A = ℕ}), omega (arith, total_small c.args.line c.args.m.now c.requires.0 c.requires.1)))

pub returns : goal.returns
returns c =
    rw (c.field-2.ensures, c.put_lists.ensures, c.field.ensures, c.put_minutes.ensures, c.requires.2, c.weighted_delay.ensures, c.order_lists-lists.ensures.0, c.from.ensures, c.list_count.ensures.0)
    (rw (timetable_parts c.args.line c.args.m.now) (simp append_assoc))
