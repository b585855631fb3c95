-- `rules::directions::direction_between` meets its contract: at each way out the tests so far tell whether segment p is between the two stations.
use Rattle.std.proofs.Common.{arith}
use Rattle.rules.specs.Conflict.DirectionsLaws.{between_off, between_out, between_in}
use Rattle.rules.proofs.directions.direction_between.Goals as goal

pub returns-then-station-destination : goal.returns-then-station-destination
returns-then-station-destination c = between_out _ _ _ (omega arith, omega arith) (omega arith)

pub returns-then-station-origin : goal.returns-then-station-origin
returns-then-station-origin c = between_in _ _ _ (omega arith, omega arith) (omega arith)

pub returns-else-destination-station : goal.returns-else-destination-station
returns-else-destination-station c = between_off _ _ _ (λ h. omega (arith, h, c.else-origin-station.either, c.else-destination-station.either))
