-- `solver::ahead::worth_looking` promises nothing; its products fit, as the delay is at most 4,000,000 and the least room below 1000. Assumes nothing.
use Prim.Native.Nat.{◌-◌, ◌*◌, ◌≤◌}
use native.Mathlib.Omega.{arith}
use native.Mathlib.Nat.{mul-le-mul}
use Rattle.solver.proofs.ahead.worth_looking.Goals as goal

pub overflow_mul-result-2 : goal.overflow_mul-result-2
overflow_mul-result-2 c =
    let a = c.args in
    let delay = c.in-Some.delay in
    let few : delay - a.hint.first ≤ 4000000 = omega (arith, c.if-delay-gt4000000.false) in
    let fits : c.least_room.result * (delay - a.hint.first) ≤ 1000 * 4000000 =
    mul-le-mul {n₂ = 1000} {m₂ = 4000000} (omega (arith, c.least_room.ensures)) few in
    omega arith
