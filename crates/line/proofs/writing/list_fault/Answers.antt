-- `line::writing::list_fault` meets its contract: a count in its limits is one of the array's sizes. Assumes nothing.
use Rattle.std.proofs.Common.{arith}
use Rattle.line.specs.Ranges.{list_count}
use Rattle.line.specs.FaultLaws.{number_fits, limits_by}
use Rattle.line.proofs.writing.list_fault.Goals as goal

pub shared_ref_as_front-listed : goal.shared_ref_as_front-listed
shared_ref_as_front-listed c = omega (arith, number_fits (list_count c.args.trains) _ _ (limits_by _ _ _ c.number_fault.ensures c.counts.ensures) c.in_ok-number_fault.was)
