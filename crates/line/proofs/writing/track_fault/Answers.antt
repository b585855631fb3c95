-- `line::writing::track_fault` meets its contract: a count in its limits is one of the arrays' sizes. Assumes nothing.
use Rattle.std.proofs.Common.{arith}
use Rattle.line.specs.Ranges.{station_count}
use Rattle.line.specs.FaultLaws.{number_fits}
use Rattle.line.proofs.writing.track_fault.Goals as goal

pub shared_ref_as_front-lines_fault : goal.shared_ref_as_front-lines_fault
shared_ref_as_front-lines_fault c = omega (arith, number_fits station_count _ _ c.number_fault.ensures c.in_ok-number_fault.was)

pub slice_bounds-lines_fault-count : goal.slice_bounds-lines_fault-count
slice_bounds-lines_fault-count c = omega (arith, number_fits station_count _ _ c.number_fault.ensures c.in_ok-number_fault.was)
