-- The answers; the idea of the proof is at the head of the invariants.
use Rattle.std.proofs.Common.{arith, length-append, [], ◌≡◌, length, rules}
use Rattle.line.specs.RunnableLaws.{within_runnable}
use Rattle.rules.specs.StatementLaws.PathsLaws.{routed}
use Rattle.timetable.specs.Spell.{trains_text}
use Rattle.text.specs.Writing.SpliceLaws.{part_put, all_put}
use Rattle.timetable.specs.WritingLaws.{next-train, no_train_lem, train_fits}
use Rattle.timetable.proofs.writing.put_trains.Goals as goal

pub put_train-requires : goal.put_train-requires
put_train-requires c =
    let w = c.loop-i in
    let n = c.args.line.traffic.train_count in
    let size : length c.args.line.traffic.trains ≡ 12 = search rules in
    let whole = length-append c.args.out.now (trains_text n c.args.line c.args.m.now 0 []) in
    let room = train_fits c.args.line c.args.m.now n w.i w.out w.invariant (omega arith) in
    (routed c.args.line w.i (within_runnable c.args.line c.requires.0) size (omega arith), omega (arith, c.requires.0.trains), omega arith)

pub loop-i-preserved : goal.loop-i-preserved
loop-i-preserved c =
    let w = c.loop-i in
    rw c.put_train.ensures
    (part_put w.out _ _ (rw (next-train c.args.line c.args.m.now c.args.line.traffic.train_count w.i (omega arith)) at w.invariant))

pub returns : goal.returns
returns c =
    all_put c.loop-i.out c.loop-i.invariant (no_train_lem c.args.line c.args.m.now c.args.line.traffic.train_count c.loop-i.i (omega arith))
