-- The answers; the idea of the proof is at the head of the invariants.
use Prim.Native.Nat.{◌-◌, ◌+◌, ◌<◌}
use native.Mathlib.Omega.{arith}
use mathlib.Core.Path.{◌≡◌, ◌∙◌, sym, refl}
use Rattle.text.specs.Reading.Bytes.{ahead}
use Rattle.text.specs.Reading.Numbers.{more}
use Rattle.text.specs.Reading.BytesLaws.{digit_is, digit_small}
use Rattle.text.specs.Reading.NumbersLaws.{number_more, more_none, more_step, room_first, room_step, room_below}
use Rattle.text.proofs.Cursor.number_to.Goals as goal

pub loop-init : goal.loop-init
loop-init c =
    let a = c.args in
    let e = digit_is _ _ _ _ c.byte.ensures c.digit_of.ensures c.in_ok-value.was in
    (refl, room_first a.most _ (omega arith) (omega arith) (digit_small a.s.now a.self _ e))

pub overflow_mul-value : goal.overflow_mul-value
overflow_mul-value c =
    let w = c.loop in
    omega (arith, room_below _ _ (room_step (c.args.most - w.counter) w.value 0 (omega arith) (omega arith) w.invariant.1))

pub overflow_add-value : goal.overflow_add-value
overflow_add-value c =
    let w = c.loop in
    let e = digit_is _ _ _ _ c.byte-in-loop.ensures c.digit_of-in-loop.ensures c.in-Some.is in
    omega (arith, room_below _ _ (room_step (c.args.most - w.counter) w.value _ (omega arith) (digit_small c.args.s.now w.next _ e) w.invariant.1))

pub loop-preserved : goal.loop-preserved
loop-preserved c =
    let w = c.loop in
    let s = c.args.s.now in
    let left = c.args.most - w.counter in
    let some : 0 < left = omega arith in
    let fewer : left - 1 ≡ c.args.most - (w.counter + 1) = omega arith in
    let e = digit_is _ _ _ _ c.byte-in-loop.ensures c.digit_of-in-loop.ensures c.in-Some.is in
    rw (← fewer) (
      sym (more_step s w.next left w.value _ e some) ∙ w.invariant.0,
      room_step left w.value _ some (digit_small s w.next _ e) w.invariant.1,
    )

pub returns-after-loop : goal.returns-after-loop
unfolding more
returns-after-loop c =
    let w = c.loop in
    let a = c.args in
    let none : a.most - w.counter ≡ 0 = omega arith in
    let e = digit_is _ _ _ _ c.byte.ensures c.digit_of.ensures c.in_ok-value.was in
    let rest : more 0 a.s.now w.next w.value ≡ more (a.most - 1) a.s.now (ahead a.self) c.in_ok-value.value = rw none at w.invariant.0 in
    rest ∙ sym (number_more a.s.now a.self a.most _ e (λ z. omega arith))

pub returns-in_default : goal.returns-in_default
returns-in_default c =
    let w = c.loop in
    let a = c.args in
    let none = digit_is _ _ _ _ c.byte-in-loop.ensures c.digit_of-in-loop.ensures c.in_default.is in
    let e = digit_is _ _ _ _ c.byte.ensures c.digit_of.ensures c.in_ok-value.was in
    sym (more_none a.s.now w.next (a.most - w.counter) w.value none) ∙ w.invariant.0
    ∙ sym (number_more a.s.now a.self a.most _ e (λ z. omega arith))
