-- `line::writing::fault_of` meets its contract: counts in their limits are what the later checks ask. Assumes nothing.
use Rattle.std.proofs.Common.{arith}
use Rattle.line.specs.FaultLaws.{stations_fit, trains_fit, bookings_fit}
use Rattle.line.proofs.writing.fault_of.Goals as goal

pub traffic_fault-requires : goal.traffic_fault-requires
traffic_fault-requires c = (stations_fit _ c.track_fault.ensures c.in_ok-track_fault.was).1

pub booked_fault-requires : goal.booked_fault-requires
booked_fault-requires c =
    let few = stations_fit _ c.track_fault.ensures c.in_ok-track_fault.was in
    let some = trains_fit _ _ c.traffic_fault.ensures c.in_ok-traffic_fault.was in
    (some.1, omega arith)

pub list_fault-requires : goal.list_fault-requires
list_fault-requires c =
    let few = stations_fit _ c.track_fault.ensures c.in_ok-track_fault.was in
    let some = trains_fit _ _ c.traffic_fault.ensures c.in_ok-traffic_fault.was in
    let most = bookings_fit _ _ _ _ c.booked_fault.ensures c.in_ok-booked_fault.was in
    (some.1, omega arith)
