-- A line within the limits: every used entry in its range, no train's destination its origin, each booking in its order, at a middle station of its
-- train, and each due in its order.
use Rattle.std.specs.Prelude.{ℕ, ◌≤◌, ◌<◌, ◌≡◌, List, length}
use Rattle.finite.specs.Each.{Each}
use Rattle.text.specs.declared.Limits.{Limits}
use Rattle.text.specs.Sections.Chained.{EachAfter}
use Rattle.line.specs.declared.Segment.{Segment}
use Rattle.line.specs.declared.Train.{Train}
use Rattle.line.specs.declared.Booking.{Booking}
use Rattle.line.specs.declared.Listed.{Listed}
use Rattle.line.specs.declared.Line.{Line}
use Rattle.line.specs.Ranges.{In, station_count, tracks, gap, train_count, train_number, booking_count, list_count, station, time, weight, run, stop}
use Rattle.line.specs.Record.{no_booking, no_listed, Further, tracks_of, segments_of, trains_of, bookings_of, dues_of, runs_of, stops_of}
use Rattle.line.specs.Bookings.{Rises, Between, numbered}

pub record SegmentWithin (g : Segment) : Type 0 where
  pub following : In gap g.following
  pub opposing : In gap g.opposing

pub record TrainWithin (n : ℕ) (t : Train) : Type 0 where
  pub origin : In (station n) t.origin
  pub destination : In (station n) t.destination
  pub apart : t.destination ≡ t.origin → ⊥
  pub earliest : In time t.earliest
  pub latest : In time t.latest
  pub weight : In weight t.weight
  pub runs : Each (In run) (runs_of t)
  pub stops : Each (In stop) (stops_of t)

-- booking b after the one before it, on a line of n stations with these trains: "in rising order of train then station", at "a middle one of that train"
pub record BookingWithin (n : ℕ) (trains : List Train) (before b : Booking) : Type 0 where
  pub train : In (train_number (length trains)) b.train
  pub station : In (station n) b.station
  pub order : Rises before b.train b.station
  pub middle : Between (numbered trains b.train) b.station
  pub minute : In time b.minute

-- "at most 120", each after the one before it
abbrev pub BookingsWithin : ℕ → List Train → List Booking → Type 0
BookingsWithin n trains bs = (length bs ≤ 120) × EachAfter (λ before b. b) (BookingWithin n trains) no_booking bs

-- a train of a list of trains, after the one before it, on a line with t trains: "rising by train"
pub record ListedWithin (t : ℕ) (r : Limits) (before x : Listed) : Type 0 where
  pub train : In (train_number t) x.train
  pub order : before.train < x.train
  pub minutes : In r x.minutes

-- no more than trains, each after the one before it
abbrev pub ListWithin : ℕ → Limits → List Listed → Type 0
ListWithin t r xs = (length xs ≤ t) × EachAfter (λ before x. x) (ListedWithin t r) no_listed xs

-- what the sections past the third give, on a line of n stations and t trains, which are these
pub record FurtherWithin (n t : ℕ) (trains : List Train) (x : Further) : Type 0 where
  pub bookings : BookingsWithin n trains x.bookings
  pub dues : ListWithin t time x.dues

pub record Within (l : Line) : Type 0 where
  pub stations : In station_count l.track.station_count
  pub tracks : Each (In tracks) (tracks_of l)
  pub segments : Each SegmentWithin (segments_of l)
  pub trains : In train_count l.traffic.train_count
  pub each_train : Each (TrainWithin l.track.station_count) (trains_of l)
  pub bookings : In booking_count l.booked.booking_count
  pub each_booking : EachAfter (λ before b. b) (BookingWithin l.track.station_count (trains_of l)) no_booking (bookings_of l)
  pub dues : In (list_count l.traffic.train_count) l.dues.count
  pub each_due : EachAfter (λ before x. x) (ListedWithin l.traffic.train_count time) no_listed (dues_of l)

-- the arrays of a record have their lengths, as every record of the program has
abbrev pub TrainArrays : Train → Type 0
TrainArrays t = (length t.runs ≡ 11) × (length t.stops ≡ 11)

pub record Arrays (l : Line) : Type 0 where
  pub tracks : length l.track.tracks ≡ 12
  pub segments : length l.track.segments ≡ 11
  pub trains : length l.traffic.trains ≡ 12
  pub each_train : Each TrainArrays l.traffic.trains
  pub bookings : length l.booked.bookings ≡ 120
  pub dues : length l.dues.listed ≡ 12
