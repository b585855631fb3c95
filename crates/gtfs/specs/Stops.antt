-- The stops of a train, and the times at each: document 02, K4, "trip_id, arrival_time, departure_time, stop_id, stop_sequence".
use Rattle.std.specs.Prelude.{ℕ, ◌+◌, ◌-◌, Bool, cond, ◌||◌, List, ltb, eqb}
use Rattle.line.specs.declared.Train.{Train}
use Rattle.line.specs.Record.{legs_of}
use Rattle.rules.specs.Check.Tests.{departure_of, arrival_of}
use Rattle.gtfs.specs.declared.stops.Stop.{Stop}
use Rattle.gtfs.specs.declared.stops.StopTime.{StopTime}

-- "stops by station number": that of station k of the path from o to d, in travel order from 0
unfoldable pub station_between : ℕ → ℕ → ℕ → ℕ
station_between o d k = cond (ltb o d) (o + k) (o - k)

-- the path begins or ends at its station k
abbrev pub is_end : Train → ℕ → Bool
is_end t k = eqb k 0 || eqb k (legs_of t)

-- stop k of a train, which is train i: "trips T1 on, stops by station number, sequence from 1"
unfoldable pub stop_on : Train → ℕ → ℕ → Stop
stop_on t i k = record { trip = i + 1; station = station_between t.origin t.destination k; sequence = k + 1; end = is_end t k }

-- a stop with its arrival and departure
abbrev pub timed : Stop → ℕ → ℕ → StopTime
timed x a d = record { trip = x.trip; arrival = a; departure = d; station = x.station; sequence = x.sequence }

-- ---- "an origin's arrival and a destination's departure repeat the other minute"

-- at the origin
abbrev pub origin_time : Train → List ℕ → ℕ → StopTime
origin_time t m i = timed (stop_on t i 0) (departure_of t m i 0) (departure_of t m i 0)

-- the departure from the stop to which leg j leads: that of the next leg, and where there is none the arrival again
unfoldable pub leaves_after : Train → List ℕ → ℕ → ℕ → ℕ
leaves_after t m i j = cond (ltb (j + 1) (legs_of t)) (departure_of t m i (j + 1)) (arrival_of t m i j)

abbrev pub time_after : Train → List ℕ → ℕ → ℕ → StopTime
time_after t m i j = timed (stop_on t i (j + 1)) (arrival_of t m i j) (leaves_after t m i j)
