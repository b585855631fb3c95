-- The text of stop_times.txt for the minutes of a line. Each part is written with what follows it.
use Rattle.std.specs.Prelude.{ℕ, zero, suc, ◌+◌, ◌/◌, ◌%◌, List, [], ◌∷◌, ◌++◌}
use Rattle.text.specs.Writing.Digits.{pair_text}
use Rattle.line.specs.declared.Train.{Train}
use Rattle.line.specs.declared.Line.{Line}
use Rattle.line.specs.Spell.{field}
use Rattle.rules.specs.Statement.Paths.{train, legs}
use Rattle.gtfs.specs.declared.stops.StopTime.{StopTime}
use Rattle.gtfs.specs.Stops.{origin_time, time_after}

-- `trip_id,arrival_time,departure_time,stop_id,stop_sequence` and a line feed
abbrev pub header : List ℕ
header = 116 ∷ 114 ∷ 105 ∷ 112 ∷ 95 ∷ 105 ∷ 100 ∷ 44
    ∷ 97 ∷ 114 ∷ 114 ∷ 105 ∷ 118 ∷ 97 ∷ 108 ∷ 95 ∷ 116 ∷ 105 ∷ 109 ∷ 101 ∷ 44
    ∷ 100 ∷ 101 ∷ 112 ∷ 97 ∷ 114 ∷ 116 ∷ 117 ∷ 114 ∷ 101 ∷ 95 ∷ 116 ∷ 105 ∷ 109 ∷ 101 ∷ 44
    ∷ 115 ∷ 116 ∷ 111 ∷ 112 ∷ 95 ∷ 105 ∷ 100 ∷ 44
    ∷ 115 ∷ 116 ∷ 111 ∷ 112 ∷ 95 ∷ 115 ∷ 101 ∷ 113 ∷ 117 ∷ 101 ∷ 110 ∷ 99 ∷ 101 ∷ 10 ∷ []

-- `00,`: "seconds always 00", and the comma after a time
abbrev pub seconds : List ℕ
seconds = 48 ∷ 48 ∷ 44 ∷ []

-- "Times are HH:MM:SS .. with hours running past 23"; a comma after it
abbrev pub clock_text : ℕ → List ℕ → List ℕ
clock_text n rest = pair_text (n / 60) ++ (58 ∷ (pair_text (n % 60) ++ (58 ∷ (seconds ++ rest))))

-- a line: "T" before the trip's number, "Fields are separated by one comma", "numbers formed as in the line file, lines ended by a line feed"
unfoldable pub stop_time_text : StopTime → List ℕ → List ℕ
stop_time_text x rest =
    84 ∷ field x.trip 44 (clock_text x.arrival (clock_text x.departure (field x.station 44 (field x.sequence 10 rest))))

-- the stops to which k more legs lead, the next of them leg j, of a train, which is train i
unfoldable pub stops_text : ℕ → Train → List ℕ → ℕ → ℕ → List ℕ → List ℕ
stops_text zero t m i j rest = rest
stops_text (suc k) t m i j rest = stop_time_text (time_after t m i j) (stops_text k t m i (j + 1) rest)

-- a trip: the origin of train i, and then the stop to which each of its n legs leads
unfoldable pub trip_text : ℕ → Train → List ℕ → ℕ → List ℕ → List ℕ
trip_text n t m i rest = stop_time_text (origin_time t m i) (stops_text n t m i 0 rest)

-- k more trips, the next of them train i's
unfoldable pub trips_text : ℕ → Line → List ℕ → ℕ → List ℕ → List ℕ
trips_text zero l m i rest = rest
trips_text (suc k) l m i rest = trip_text (legs l i) (train l i) m i (trips_text k l m (i + 1) rest)

-- the whole text
unfoldable pub stop_times_text : Line → List ℕ → List ℕ
stop_times_text l m = header ++ trips_text l.traffic.train_count l m 0 []
