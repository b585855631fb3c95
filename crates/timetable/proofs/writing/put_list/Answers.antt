-- The answers; the idea of the proof is at the head of the invariants.
use Rattle.std.proofs.Common.{◌∙◌, length, arith, length-append, [], append_assoc, ap, rules, get_or}
use Rattle.text.specs.Writing.Digits.{field_text}
use mir.Syntax.{w16}
use mir.Val.{Fits}
use Rattle.rules.specs.Lists.Orders.{listed}
use Rattle.timetable.specs.Spell.{names_text, numbers}
use Rattle.line.specs.File.{after_field}
use Rattle.text.specs.Writing.SpliceLaws.{part_put, all_put}
use Rattle.timetable.specs.WritingLaws.{next_name, no_name, name_fits, list-parts, list_size}
use Rattle.timetable.proofs.writing.put_list.Goals as goal

pub field-requires : goal.field-requires
field-requires c =
    let count = c.size_of-count in
    rw c.after_field.ensures (omega arith, (omega (arith, list_size c.args.list count.result count.ensures.0, c.requires), omega (arith, count.ensures.1)))

pub field-requires-in-loop-k : goal.field-requires-in-loop-k
field-requires-in-loop-k c =
    let w = c.loop-k in
    let count = c.size_of-count in
    let size = list_size c.args.list count.result count.ensures.0 in
    let short : Fits w16 (get_or c.args.list.trains w.k 0) = search rules in
    let room = name_fits c.args.list count.result count.ensures.0 w.k w.out w.invariant (omega arith) in
    let names = length-append c.field.new.self (names_text (numbers (listed c.args.list)) []) in
    let first = ap length (rw c.after_field.ensures at c.field.ensures) ∙ length-append c.args.out.now (field_text count.result (after_field count.result)) in
    rw (c.from-number.ensures, c.after_field-in-loop-k.ensures) (omega arith, (omega (arith, c.requires), omega (arith, short.fits)))

pub loop-k-preserved : goal.loop-k-preserved
loop-k-preserved c =
    let w = c.loop-k in
    let count = c.size_of-count in
    rw (c.field-in-loop-k.ensures, c.from-number.ensures, c.after_field-in-loop-k.ensures)
    (part_put w.out _ _ (rw (next_name c.args.list count.result count.ensures.0 w.k (omega arith)) at w.invariant))

pub returns : goal.returns
returns c =
    let w = c.loop-k in
    let count = c.size_of-count in
    let trains = all_put w.out w.invariant (no_name c.args.list count.result count.ensures.0 w.k (omega arith)) in
    let first = field_text count.result (after_field count.result) in
    rw (trains, c.field.ensures, c.after_field.ensures, list-parts c.args.list count.result count.ensures.0)
    (append_assoc c.args.out.now first (names_text (numbers (listed c.args.list)) []))
