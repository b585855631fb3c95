-- `solver::drawing::varied` meets its contract: a number of at most 100,000,000, 23 times, fits and stays below the greatest number. Assumes nothing.
use Prim.Native.Nat.{◌+◌, ◌*◌, ◌/◌, ◌%◌, ◌≤◌}
use native.Mathlib.Omega.{arith}
use native.Mathlib.Nat.{mul-le-mul}
use Rattle.solver.proofs.drawing.varied.Goals as goal

pub overflow_mul-result : goal.overflow_mul-result
overflow_mul-result c =
    let product : c.args.x * (8 + c.drawn.result / 16 % 16) ≤ 100000000 * 23 = mul-le-mul {n₂ = 100000000} {m₂ = 23} (omega (arith, c.if-x-gt100000000.false)) (omega arith) in
    omega (arith, product)

pub returns : goal.returns
returns c =
    let product : c.args.x * (8 + c.drawn.result / 16 % 16) ≤ 100000000 * 23 = mul-le-mul {n₂ = 100000000} {m₂ = 23} (omega (arith, c.if-x-gt100000000.false)) (omega arith) in
    omega (arith, product)
