-- A line whose trains can be run: what raising and its tables need of it. It is less than the limits of a file. Request K7 adds a hold of up to 240 minutes to
-- an earliest or to a stop, so an earliest is at most 3,119 and a stop at most 480. A latest that is waived is 2,879, the last minute of all. How many
-- tracks a station has does not matter here.
use Rattle.std.specs.Prelude.{ℕ, ◌≡◌, List, length}
use Rattle.text.specs.declared.Limits.{Limits}
use Rattle.finite.specs.Each.{Each}
use Rattle.line.specs.declared.Train.{Train}
use Rattle.line.specs.declared.Booking.{Booking}
use Rattle.line.specs.declared.Line.{Line}
use Rattle.line.specs.Ranges.{In, station_count, train_count, train_number, booking_count, list_count, station, time, weight, run}
use Rattle.line.specs.Record.{segments_of, trains_of, bookings_of, runs_of, stops_of}
use Rattle.line.specs.Bookings.{Between, numbered}
use Rattle.line.specs.Within.{SegmentWithin}

-- an earliest with a hold
abbrev pub held_time : Limits
held_time = record { min = 0; max = 3119 }

-- a stop with a hold
abbrev pub held_stop : Limits
held_stop = record { min = 0; max = 480 }

pub record TrainRunnable (n : ℕ) (t : Train) : Type 0 where
  pub origin : In (station n) t.origin
  pub destination : In (station n) t.destination
  pub apart : t.destination ≡ t.origin → ⊥
  pub earliest : In held_time t.earliest
  pub latest : In time t.latest
  pub weight : In weight t.weight
  pub runs : Each (In run) (runs_of t)
  pub stops : Each (In held_stop) (stops_of t)

pub record BookingRunnable (trains : List Train) (b : Booking) : Type 0 where
  pub train : In (train_number (length trains)) b.train
  pub middle : Between (numbered trains b.train) b.station
  pub minute : In time b.minute

pub record Runnable (l : Line) : Type 0 where
  pub stations : In station_count l.track.station_count
  pub segments : Each SegmentWithin (segments_of l)
  pub trains : In train_count l.traffic.train_count
  pub each_train : Each (TrainRunnable l.track.station_count) (trains_of l)
  pub bookings : In booking_count l.booked.booking_count
  pub each_booking : Each (BookingRunnable (trains_of l)) (bookings_of l)
  pub dues : In (list_count l.traffic.train_count) l.dues.count
