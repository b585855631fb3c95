-- The answers; the idea of the proof is at the head of the invariants.
use native.Mathlib.Omega.{arith}
use Rattle.starts.specs.AskingLaws.{tells_yes, tells_no, rising_more, rising_not}
use Rattle.starts.proofs.asking.rises.Goals as goal

pub loop-k-init : goal.loop-k-init
loop-k-init c = λ j b. absurd (omega arith)

pub returns-then-minutes-k : goal.returns-then-minutes-k
returns-then-minutes-k c = tells_no (rising_not c.args.minutes.now c.loop-k.k (omega arith) (omega arith) c.if-minutes-k.true)

pub loop-k-preserved : goal.loop-k-preserved
loop-k-preserved c = rising_more c.args.minutes.now c.loop-k.k (omega arith) c.loop-k.invariant (omega (arith, c.if-minutes-k.false))

pub returns : goal.returns
returns c = tells_yes (λ j b. c.loop-k.invariant j (omega arith))
