-- `line::writing::train_fault` meets its contract: a path between two stations has legs, and at most 11 of them. Assumes nothing.
use Rattle.std.proofs.Common.{arith}
use Rattle.line.specs.FaultLaws.{legs_fit}
use Rattle.line.proofs.writing.train_fault.Goals as goal

pub shared_ref_as_front-time_faults : goal.shared_ref_as_front-time_faults
shared_ref_as_front-time_faults c = omega (arith, legs_fit _ _ _ c.head_fault.ensures c.in_ok-head_fault.was c.requires c.legs_between-legs.ensures)

pub slice_bounds-time_faults-count : goal.slice_bounds-time_faults-count
slice_bounds-time_faults-count c = omega (arith, legs_fit _ _ _ c.head_fault.ensures c.in_ok-head_fault.was c.requires c.legs_between-legs.ensures)
