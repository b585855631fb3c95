-- The ranges of the line file's fields (document 01, "The line file"), each from the least to the greatest value.
use Rattle.std.specs.Prelude.{ℕ, ◌≤◌}
use Rattle.text.specs.declared.Limits.{Limits}

-- n is in its range
abbrev pub In : Limits → ℕ → Type 0
In r n = (r.min ≤ n) × (n ≤ r.max)

-- "Stations: count 2 to 12"
abbrev pub station_count : Limits
station_count = record { min = 2; max = 12 }

-- "tracks, 1 to 12"
abbrev pub tracks : Limits
tracks = record { min = 1; max = 12 }

-- "following gap f, opposing gap o, both 1 to 60"
abbrev pub gap : Limits
gap = record { min = 1; max = 60 }

-- "Trains: count 0 to 12"
abbrev pub train_count : Limits
train_count = record { min = 0; max = 12 }

-- "Trains: .. numbered from 1"; "a train number not from 1 to the line's trains"
abbrev pub train_number : ℕ → Limits
train_number n = record { min = 1; max = n }

-- document 02, K1, of the bookings: "at most 120"
abbrev pub booking_count : Limits
booking_count = record { min = 0; max = 120 }

-- document 02, K2, of the dues and of "later lists of trains": "a count over the trains is 3"; of a line with t trains
abbrev pub list_count : ℕ → Limits
list_count t = record { min = 0; max = t }

-- "a last section with count 0 is 3 at its line": the newest section can only be the last, so in the file its count is from 1
abbrev pub newest : Limits → Limits
newest r = record { min = 1; max = r.max }

-- "Origin and destination are .. stations, each from 1 to the station count"
abbrev pub station : ℕ → Limits
station n = record { min = 1; max = n }

-- "Times are whole minutes from 0 to 2,879"
abbrev pub time : Limits
time = record { min = 0; max = 2879 }

-- "Weight is 0 to 99"
abbrev pub weight : Limits
weight = record { min = 0; max = 99 }

-- "a run 1 to 240"
abbrev pub run : Limits
run = record { min = 1; max = 240 }

-- "a stop 0 to 240"
abbrev pub stop : Limits
stop = record { min = 0; max = 240 }
