-- `orders::first::first_minutes` meets its contract, by the laws of the minutes of the trains alone on the line. Assumes nothing.
use mathlib.Core.Path.{◌≡◌}
use native.Mathlib.Omega.{arith}
use lib.ListN.{length}
use Rattle.orders.specs.LeastMinutes.FirstPlanLaws.{first_plan}
use Rattle.orders.proofs.first.first_minutes.Goals as goal

pub returns : goal.returns
returns c =
    let size : length c.args.line.traffic.trains ≡ 12 = omega arith in
    first_plan c.args.line c.requires size _ c.free_minutes-minutes.ensures c.free_in_time-in_time.ensures
    c.weighted_delay-cost.ensures
