-- The answers; the idea of the proof is at the head of the invariants.
use Rattle.std.proofs.Common.{sym, length-append, arith, []}
use Rattle.finite.specs.EachLaws.{each_get}
use Rattle.text.specs.Elements.EachThen.{each_then}
use Rattle.line.specs.SpellLaws.{each_next, each_fits, each_end}
use Rattle.line.proofs.writing.put_each.Goals as goal

pub put-requires : goal.put-requires
put-requires g c =
    let w = c.loop-x in
    let lines = each_then g.T.Entry.text c.args.entries.now [] in
    let fits = each_fits g.T.Entry.text g.met.T.Entry.text_then c.args.entries.now w.x-index w.out _ w.invariant c.x-item.result c.x-item.result c.x-item.is c.loop-x-test.true in (
      rw (sym c.x-item.is) at (each_get g.T.Entry.ready c.args.entries.now w.x-index c.x-item.result c.loop-x-test.true c.requires.0),
      omega (arith, fits, length-append c.args.out.now lines),
    )

pub loop-x-preserved : goal.loop-x-preserved
loop-x-preserved g c =
    rw c.put.ensures
    (each_next g.T.Entry.text g.met.T.Entry.text_then c.args.entries.now c.loop-x.x-index c.loop-x.out _ c.loop-x.invariant c.x-item.result c.x-item.result c.x-item.is
    c.loop-x-test.true)

pub returns : goal.returns
returns g c = each_end g.T.Entry.text g.met.T.Entry.text_then c.args.entries.now c.loop-x.x-index c.loop-x.out _ c.loop-x.invariant c.loop-x-test.false
