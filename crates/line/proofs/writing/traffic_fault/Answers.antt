-- `line::writing::traffic_fault` meets its contract: a count in its limits is one of the array's sizes. Assumes nothing.
use Rattle.std.proofs.Common.{arith}
use Rattle.line.specs.Ranges.{train_count}
use Rattle.line.specs.FaultLaws.{number_fits}
use Rattle.line.proofs.writing.traffic_fault.Goals as goal

pub shared_ref_as_front-trains : goal.shared_ref_as_front-trains
shared_ref_as_front-trains c = omega (arith, number_fits train_count _ _ c.number_fault.ensures c.in_ok-number_fault.was)
