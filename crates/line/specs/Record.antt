-- The record of a line: its empty entries, its used entries, and when two records are the same line.
use Rattle.std.specs.Prelude.{ℕ, ◌+◌, ◌-◌, ◌≤◌, ◌≡◌, List, [], ◌∷◌, map, length, replicate, take}
use Rattle.text.specs.Elements.Padded.{padded}
use Rattle.line.specs.declared.Kind.{Kind}
use Rattle.line.specs.declared.Segment.{Segment}
use Rattle.line.specs.declared.Train.{Train}
use Rattle.line.specs.declared.Track.{Track}
use Rattle.line.specs.declared.Traffic.{Traffic}
use Rattle.line.specs.declared.Booking.{Booking}
use Rattle.line.specs.declared.Booked.{Booked}
use Rattle.line.specs.declared.Listed.{Listed}
use Rattle.line.specs.declared.TrainList.{TrainList}
use Rattle.line.specs.declared.Line.{Line}

-- "entries beyond a count are 0 (a kind is S)"
abbrev pub no_segment : Segment
no_segment = record { kind = Kind.S; following = 0; opposing = 0 }

abbrev pub no_train : Train
no_train = record { origin = 0; destination = 0; earliest = 0; latest = 0; weight = 0; runs = replicate 11 0; stops = replicate 11 0 }

abbrev pub no_booking : Booking
no_booking = record { train = 0; station = 0; minute = 0 }

abbrev pub no_listed : Listed
no_listed = record { train = 0; minutes = 0 }

-- the track, the traffic, the bookings and a list of trains of these entries
abbrev pub track_with : ℕ → List ℕ → List Segment → Track
track_with n ts gs = record { station_count = n; tracks = ts; segments = gs }

abbrev pub traffic_with : ℕ → List Train → Traffic
traffic_with t trs = record { train_count = t; trains = trs }

abbrev pub booked_with : List Booking → Booked
booked_with bs = record { booking_count = length bs; bookings = padded 120 no_booking bs }

abbrev pub list_with : List Listed → TrainList
list_with xs = record { count = length xs; listed = padded 12 no_listed xs }

-- what the sections past the third give, each of which may be left off
pub record Further : Type 0 where
  pub bookings : List Booking
  pub dues : List Listed

-- the line of these entries
abbrev pub line_with : ℕ → List ℕ → List Segment → ℕ → List Train → Further → Line
line_with n ts gs t trs x =
    record { track = track_with n ts gs; traffic = traffic_with t trs; booked = booked_with x.bookings; dues = list_with x.dues }

-- the segments of a train's path: as many as its origin and destination are apart
abbrev pub legs_between : ℕ → ℕ → ℕ
legs_between o d = (o - d) + (d - o)

abbrev pub legs_of : Train → ℕ
legs_of t = legs_between t.origin t.destination

-- a path of 1 to 11 segments
abbrev pub HasPath : Train → Type 0
HasPath t = (1 ≤ legs_of t) × (legs_of t ≤ 11)

-- ---- the used entries

abbrev pub tracks_of : Line → List ℕ
tracks_of l = take l.track.station_count l.track.tracks

abbrev pub segments_of : Line → List Segment
segments_of l = take (l.track.station_count - 1) l.track.segments

abbrev pub trains_of : Line → List Train
trains_of l = take l.traffic.train_count l.traffic.trains

abbrev pub bookings_of : Line → List Booking
bookings_of l = take l.booked.booking_count l.booked.bookings

abbrev pub listed_in : TrainList → List Listed
listed_in x = take x.count x.listed

abbrev pub dues_of : Line → List Listed
dues_of l = listed_in l.dues

abbrev pub further_of : Line → Further
further_of l = record { bookings = bookings_of l; dues = dues_of l }

-- a run for each segment of the path, and a stop at each station between two of them
abbrev pub runs_of : Train → List ℕ
runs_of t = take (legs_of t) t.runs

abbrev pub stops_of : Train → List ℕ
stops_of t = take (legs_of t - 1) t.stops

-- ---- "two records are the same line when the used entries agree"

-- a train with its entries beyond the path emptied, and a line with its entries beyond the counts
unfoldable pub tidy_train : Train → Train
tidy_train t =
    record {
      origin = t.origin;
      destination = t.destination;
      earliest = t.earliest;
      latest = t.latest;
      weight = t.weight;
      runs = padded 11 0 (runs_of t);
      stops = padded 11 0 (stops_of t);
    }

unfoldable pub tidy_line : Line → Line
tidy_line l =
    line_with l.track.station_count (padded 12 0 (tracks_of l)) (padded 11 no_segment (segments_of l)) l.traffic.train_count
    (padded 12 no_train (map tidy_train (trains_of l))) (further_of l)

pub record SameTrain (t u : Train) : Type 0 where
  pub origin : t.origin ≡ u.origin
  pub destination : t.destination ≡ u.destination
  pub earliest : t.earliest ≡ u.earliest
  pub latest : t.latest ≡ u.latest
  pub weight : t.weight ≡ u.weight
  pub runs : runs_of t ≡ runs_of u
  pub stops : stops_of t ≡ stops_of u

abbrev pub SameTrains : List Train → List Train → Type 0
SameTrains [] [] = Unit {0}
SameTrains [] (u ∷ us) = ⊥
SameTrains (t ∷ ts) [] = ⊥
SameTrains (t ∷ ts) (u ∷ us) = SameTrain t u × SameTrains ts us

pub record SameLine (l m : Line) : Type 0 where
  pub stations : l.track.station_count ≡ m.track.station_count
  pub tracks : tracks_of l ≡ tracks_of m
  pub segments : segments_of l ≡ segments_of m
  pub trains : l.traffic.train_count ≡ m.traffic.train_count
  pub each_train : SameTrains (trains_of l) (trains_of m)
  pub bookings : bookings_of l ≡ bookings_of m
  pub dues : dues_of l ≡ dues_of m
