-- The answers; the idea of the proof is at the head of the invariants.
use Rattle.std.proofs.Common.{ℕ, ◌++◌, sym, arith, length-append, append_assoc, [], ◌-◌, ◌+◌, rules}
use mir.Syntax.{w16}
use mir.Val.{Fits}
use Rattle.text.specs.Writing.Digits.{field_text}
use Rattle.rules.specs.Check.Tests.{departure_of, arrival_of}
use Rattle.line.specs.File.{after_field}
use Rattle.timetable.specs.Spell.{legs_text}
use Rattle.text.specs.Writing.SpliceLaws.{part_put, all_put}
use Rattle.timetable.specs.WritingLaws.{next-leg, no_leg, leg_fits}
use Rattle.timetable.proofs.writing.put_train.Goals as goal

pub field-requires : goal.field-requires
field-requires c =
    let w = c.loop-j in
    let legs = c.legs_between-legs in
    let short : Fits w16 c.departure_of.result = search rules in
    let fits = rw (sym legs.ensures) at c.requires.2 in
    let size = length-append c.args.out.now (legs_text legs.result c.args.train c.args.m.now c.args.i 0 []) in
    let room = leg_fits c.args.train c.args.m.now c.args.i legs.result w.j w.out w.invariant (omega arith) in
    rw c.from.ensures (omega arith, (rw c.departure_of.ensures (omega arith), omega (arith, short.fits)))

pub field-requires-in-loop-j : goal.field-requires-in-loop-j
field-requires-in-loop-j c =
    let w = c.loop-j in
    let legs = c.legs_between-legs in
    let short : Fits w16 c.arrival_of.result = search rules in
    let fits = rw (sym legs.ensures) at c.requires.2 in
    let size = length-append c.args.out.now (legs_text legs.result c.args.train c.args.m.now c.args.i 0 []) in
    let room = leg_fits c.args.train c.args.m.now c.args.i legs.result w.j w.out w.invariant (omega arith) in
    rw c.from-in-loop-j.ensures (
      omega arith,
      (
        rw (c.field.ensures, c.from.ensures, c.departure_of.ensures, c.arrival_of.ensures, c.after_field-after_arrival.ensures)
            (omega (arith, length-append {A = ℕ})),
        omega (arith, short.fits),
      ),
    )

pub loop-j-preserved : goal.loop-j-preserved
loop-j-preserved c =
    let w = c.loop-j in
    let t = c.args.train in
    let legs = c.legs_between-legs.result in
    let departs = field_text (departure_of t c.args.m.now c.args.i w.j) 32 in
    let arrives = field_text (arrival_of t c.args.m.now c.args.i w.j) (after_field (legs - (w.j + 1))) in
    rw (c.field-in-loop-j.ensures, c.field.ensures, c.from.ensures, c.departure_of.ensures, c.from-in-loop-j.ensures, c.arrival_of.ensures)
    (rw (c.after_field-after_arrival.ensures, append_assoc w.out departs arrives)
    (part_put w.out (departs ++ arrives) _ (rw (next-leg t c.args.m.now c.args.i legs w.j (omega arith)) at w.invariant)))

pub returns : goal.returns
returns c =
    let w = c.loop-j in
    rw (sym c.legs_between-legs.ensures) (all_put w.out w.invariant (no_leg c.args.train c.args.m.now c.args.i c.legs_between-legs.result w.j (omega arith)))
