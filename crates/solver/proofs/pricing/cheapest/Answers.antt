-- The answers; the idea of the proof is at the head of the invariants.
use native.Mathlib.Omega.{arith}
use Rattle.solver.specs.Selection.PricingLaws.{picked_cheapest}
use Rattle.solver.proofs.pricing.cheapest.Goals as goal

pub returns : goal.returns
returns c = picked_cheapest _ _ _ _ (omega arith) c.loop-k.invariant
