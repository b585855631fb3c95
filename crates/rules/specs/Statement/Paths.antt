-- The trains, segments and stations of a line by index, which is the file's number less 1, and the path of a train.
use Rattle.std.specs.Prelude.{◌≡◌, ℕ, ◌+◌, ◌-◌, ◌<◌, ◌≤◌, min, max, Bool, cond, [], nat_lt, slice_index, slice_index_or}
use Rattle.std.specs.Bool.{beq}
use Rattle.finite.specs.Below.{EachBelow}
use Rattle.line.specs.declared.Segment.{Segment}
use Rattle.line.specs.declared.Train.{Train}
use Rattle.line.specs.declared.Booking.{Booking}
use Rattle.line.specs.declared.Line.{Line}
use Rattle.line.specs.Record.{no_segment, no_booking, legs_between, legs_of}

-- what stands past the last entry of the trains
abbrev pub past_train : Train
past_train = record { origin = 0; destination = 0; earliest = 0; latest = 0; weight = 0; runs = []; stops = [] }

abbrev pub train : Line → ℕ → Train
train l i = slice_index_or l.traffic.trains i past_train

-- segment p joins the stations p and p + 1
abbrev pub segment_count : Line → ℕ
segment_count l = l.track.station_count - 1

abbrev pub segment : Line → ℕ → Segment
segment l p = slice_index_or l.track.segments p no_segment

abbrev pub tracks_at : Line → ℕ → ℕ
tracks_at l s = slice_index l.track.tracks s

abbrev pub booking : Line → ℕ → Booking
booking l j = slice_index_or l.booked.bookings j no_booking

-- the run over leg k of train i, and the stop after it, in travel order
abbrev pub run_of : Line → ℕ → ℕ → ℕ
run_of l i k = slice_index (train l i).runs k

abbrev pub stop_of : Line → ℕ → ℕ → ℕ
stop_of l i k = slice_index (train l i).stops k

abbrev pub legs : Line → ℕ → ℕ
legs l i = legs_of (train l i)

-- ---- the path of a train, from its origin to its destination

abbrev pub origin_at : Train → ℕ
origin_at t = t.origin - 1

abbrev pub destination_at : Train → ℕ
destination_at t = t.destination - 1

-- "A train is outbound when its origin number is the smaller, else inbound"
abbrev pub outbound : Train → Bool
outbound t = nat_lt t.origin t.destination

abbrev pub same_way : Line → ℕ → ℕ → Bool
same_way l i j = beq (outbound (train l i)) (outbound (train l j))

-- it goes over segment p
abbrev pub Uses : Train → ℕ → Type 0
Uses t p = (min (origin_at t) (destination_at t) ≤ p) × (p < max (origin_at t) (destination_at t))

-- the segment of its leg k: "An inbound train's first segment is the higher number"
unfoldable pub segment_between : ℕ → ℕ → ℕ → ℕ
segment_between o d k = cond (nat_lt o d) (o - 1 + k) (o - 1 - 1 - k)

abbrev pub segment_of : Train → ℕ → ℕ
segment_of t k = segment_between t.origin t.destination k

-- its leg on a segment of its path
abbrev pub leg_on : Train → ℕ → ℕ
leg_on t p = cond (outbound t) (p - (t.origin - 1)) (t.origin - 1 - 1 - p)

-- the leg that begins at a station of its path, by the station's number
abbrev pub leg_from : Train → ℕ → ℕ
leg_from t s = legs_between t.origin s

-- station s is a middle one of its path
abbrev pub Middle : Train → ℕ → Type 0
Middle t s = (min (origin_at t) (destination_at t) < s) × (s < max (origin_at t) (destination_at t))

-- the segment on which it comes to station s, and that on which it leaves
abbrev pub into : Train → ℕ → ℕ
into t s = cond (outbound t) (s - 1) s

abbrev pub out_of : Train → ℕ → ℕ
out_of t s = cond (outbound t) s (s - 1)

-- both ends are stations of a line of at most 12, and they are apart
pub record Routed (t : Train) : Type 0 where
  pub origin : (1 ≤ t.origin) × (t.origin ≤ 12)
  pub destination : (1 ≤ t.destination) × (t.destination ≤ 12)
  pub apart : t.destination ≡ t.origin → ⊥

-- ---- of every train, and of every leg of train i

abbrev pub EachTrain : Line → (ℕ → Type 0) → Type 0
EachTrain l P = EachBelow l.traffic.train_count P

abbrev pub EachLeg : Line → ℕ → (ℕ → Type 0) → Type 0
EachLeg l i P = EachBelow (legs l i) P
