-- `text::lend_text` meets its contract: refused where the text is longer than the lent bytes, and else put at their front. Assumes nothing.
use native.Mathlib.Omega.{arith}
use Rattle.text.specs.Writing.LendLaws.{lent_short, lent-whole}
use Rattle.text.proofs.lend_text.Goals as goal

pub returns-then-out-text : goal.returns-then-out-text
returns-then-out-text c =
    let a = c.args in
    lent_short a.text.now a.out.now c.if-out-text.true

pub returns : goal.returns
returns c =
    let a = c.args in
    lent-whole a.text.now a.out.now _ c.put_text.result (omega (arith, c.put_text.ensures.next)) (omega arith) c.put_text.ensures.bytes
