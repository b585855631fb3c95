-- `solver::drawing::drawn` meets its contract: of the two factors one is below 65,536 and the other at most 1,100, so the product fits. Assumes nothing.
use Prim.Native.Nat.{ℕ, ◌+◌, ◌*◌, ◌/◌, ◌%◌, ◌≤◌, ◌<◌}
use native.Mathlib.Omega.{arith}
use native.Mathlib.Nat.{mul-le-mul}
use Rattle.solver.proofs.drawing.drawn.Goals as goal

product : (y : ℕ) → y < 65536 → y * (y / 64 + 77) ≤ 65535 * 1100
product y b = mul-le-mul {n₂ = 65535} {m₂ = 1100} (omega arith) (omega arith)

pub overflow_mul-result : goal.overflow_mul-result
overflow_mul-result c = omega (arith, product ((c.args.x % 65536 * 1103 + 12345) % 65536) (omega arith))
