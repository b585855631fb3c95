-- The answers; the idea of the proof is at the head of the invariants.
use native.Mathlib.Omega.{arith}
use Rattle.starts.specs.AskingLaws.{tells_yes}
use Rattle.starts.proofs.asking.all_times.Goals as goal

pub returns : goal.returns
returns c = tells_yes (λ j b. c.loop-minute.invariant j (omega arith))
