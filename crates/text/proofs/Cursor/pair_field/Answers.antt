-- `text::Cursor::pair_field` meets its contract: both digits are below 10. Assumes nothing.
use native.Mathlib.Omega.{arith}
use Rattle.text.specs.Reading.Bytes.{ahead}
use Rattle.text.specs.Reading.BytesLaws.{digit_is, digit_small}
use Rattle.text.proofs.Cursor.pair_field.Goals as goal

pub overflow_add-result : goal.overflow_add-result
overflow_add-result c =
    let a = c.args in
    let tens = digit_is _ _ _ _ c.byte.ensures c.digit_of.ensures c.in_ok-tens.was in
    let units = digit_is _ _ _ _ c.byte-2.ensures c.digit_of-2.ensures c.in_ok-units.was in
    omega (arith, digit_small a.s.now a.self _ tens, digit_small a.s.now (ahead a.self) _ units)
