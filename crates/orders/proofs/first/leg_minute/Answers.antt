-- `orders::first::leg_minute` meets its contract: a run is no longer than the free arrival after it (`run-free`). Assumes nothing.
use Prim.Native.Nat.{◌%◌}
use native.Mathlib.Omega.{arith}
use Rattle.rules.proofs.StatementLaws.FreeArrivalLaws.{run-free}
use Rattle.orders.specs.LeastMinutes.FirstPlanLaws.{minute_departs, minute_arrives}
use Rattle.orders.proofs.first.leg_minute.Goals as goal

pub overflow_sub-result : goal.overflow_sub-result
overflow_sub-result c =
    omega (arith, c.free_after-arrival.ensures, run-free c.args.line (c.args.x % 176 % 16) c.leg_on-k.result)

pub returns-then-x-lt176 : goal.returns-then-x-lt176
returns-then-x-lt176 c =
    minute_departs c.args.line c.args.x c.requires.3 c.leg_on-k.ensures.0 c.free_after-arrival.ensures c.if-x-lt176.true

pub returns-else-x-lt176 : goal.returns-else-x-lt176
returns-else-x-lt176 c =
    minute_arrives c.args.line c.args.x c.requires.3 c.leg_on-k.ensures.0 c.free_after-arrival.ensures c.if-x-lt176.false
