-- The answers; the idea of the proof is at the head of the invariants.
use Rattle.std.proofs.Common.{ℕ, ◌≡◌, length-append, arith, [], ap, length}
use Rattle.text.specs.Writing.Digits.{field_text}
use Rattle.line.specs.Spell.{journey_text}
use Rattle.line.specs.SpellLaws.{leg_fits, last_fits}
use Rattle.line.proofs.writing.put_journey.Goals as goal

pub field-requires : goal.field-requires
field-requires c =
    let w = c.loop-k in
    let fits = leg_fits c.args.runs.now c.args.stops.now w.k w.out _ w.invariant c.loop-k-test.true in
    let size = length-append c.args.out.now (journey_text c.args.stops.now c.args.runs.now []) in
    (omega arith, (rw c.from.ensures (omega arith), rw c.from.ensures (omega (arith, (c.type_inv.runs w.k).fits))))

pub field-requires-in-loop-k : goal.field-requires-in-loop-k
field-requires-in-loop-k c =
    let w = c.loop-k in
    let fits = leg_fits c.args.runs.now c.args.stops.now w.k w.out _ w.invariant c.loop-k-test.true in
    let size = length-append c.args.out.now (journey_text c.args.stops.now c.args.runs.now []) in
    let run = length-append w.out (field_text c.from.result 32) in
    let same = ap (λ (n : ℕ). length (field_text n 32)) c.from.ensures in
    (omega arith, (rw (c.from-in-loop-k.ensures, c.field.ensures) (omega arith), rw c.from-in-loop-k.ensures (omega (arith, (c.type_inv.stops w.k).fits))))

pub field-requires-2 : goal.field-requires-2
field-requires-2 c =
    let w = c.loop-k in
    let fits = last_fits c.args.runs.now c.args.stops.now w.k w.out _ w.invariant c.loop-k-test.false in
    let size = length-append c.args.out.now (journey_text c.args.stops.now c.args.runs.now []) in
    let last : length c.args.stops.now ≡ w.k = omega arith in
    (omega arith, (rw (c.from-2.ensures, last) (omega arith), rw c.from-2.ensures (omega (arith, (c.type_inv.runs (length c.args.stops.now)).fits))))
