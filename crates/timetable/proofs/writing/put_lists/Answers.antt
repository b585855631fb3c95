-- The answers; the idea of the proof is at the head of the invariants.
use Rattle.std.proofs.Common.{arith, length-append, [], refl}
use Rattle.text.specs.Elements.EachThen.{each_then}
use Rattle.line.specs.SpellLaws.{each_next, each_fits, each_end}
use Rattle.timetable.specs.WritingLaws.{order_text, order_then, lists_text}
use Rattle.timetable.proofs.writing.put_lists.Goals as goal

pub put_list-requires : goal.put_list-requires
put_list-requires c =
    let w = c.loop-list in
    let fits = rw (lists_text c.args.lists.now []) at c.requires in
    let size = length-append c.args.out.now (each_then order_text c.args.lists.now []) in
    let room = each_fits order_text order_then c.args.lists.now w.list-index w.out _ w.invariant _ (record { count = 0; trains = [] }) refl c.loop-list-test.true in
    omega arith

pub loop-list-preserved : goal.loop-list-preserved
loop-list-preserved c =
    let w = c.loop-list in
    rw c.put_list.ensures
    (each_next order_text order_then c.args.lists.now w.list-index w.out _ w.invariant _ (record { count = 0; trains = [] }) refl c.loop-list-test.true)

pub returns : goal.returns
returns c =
    let w = c.loop-list in
    rw (lists_text c.args.lists.now []) (each_end order_text order_then c.args.lists.now w.list-index w.out _ w.invariant c.loop-list-test.false)
