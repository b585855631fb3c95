-- `solver::scoring::score` meets its contract: two factors of at most 60,000 have a product that fits, and a share of it is no more. Assumes nothing.
use Prim.Native.Nat.{◌*◌, ◌-◌}
use native.Mathlib.Omega.{arith}
use native.Mathlib.Nat.{mul-le-mul, div-le_self}
use Rattle.solver.proofs.scoring.score.Goals as goal

pub overflow_mul-product : goal.overflow_mul-product
overflow_mul-product c = omega (arith, mul-le-mul {n₂ = 60000} {m₂ = 60000} c.rise.ensures.1 c.rise-2.ensures.1)

pub overflow_add-result : goal.overflow_add-result
overflow_add-result c =
    let a = c.rise in
    let b = c.rise-2 in
    let product = mul-le-mul {n₂ = 60000} {m₂ = 60000} a.ensures.1 b.ensures.1 in
    omega (arith, product, div-le_self (a.result * b.result) (c.args.alive.ways - 1))
