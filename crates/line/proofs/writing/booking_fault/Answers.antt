-- `line::writing::booking_fault` meets its contract: the number of a train that was not refused is that of one of the trains. Assumes nothing.
use Rattle.std.proofs.Common.{length, arith}
use Rattle.line.specs.Ranges.{train_number}
use Rattle.line.specs.FaultLaws.{number_fits, fault_by}
use Rattle.line.proofs.writing.booking_fault.Goals as goal

pub overflow_sub-booked : goal.overflow_sub-booked
overflow_sub-booked c =
    let t = train_number (length c.args.trains.now) in
    let n = number_fits t _ _ (fault_by t _ _ c.value_fault.ensures c.value.ensures) c.in_ok-value_fault.was in
    omega arith

pub bounds-trains-from : goal.bounds-trains-from
bounds-trains-from c =
    let t = train_number (length c.args.trains.now) in
    let n = number_fits t _ _ (fault_by t _ _ c.value_fault.ensures c.value.ensures) c.in_ok-value_fault.was in
    omega arith
