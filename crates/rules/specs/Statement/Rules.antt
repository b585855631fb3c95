-- Rules 10 to 15 and 18 of a timetable, in the words and the order of documents 01 and 02.
use Rattle.std.specs.Prelude.{◌≡◌, ℕ, ◌+◌, ◌-◌, ◌<◌, ◌≤◌, min, max, Bool, true, false, ◌&&◌, ◌⊎◌, List, nat_le, nat_lt}
use Rattle.finite.specs.Below.{EachBelow, count}
use Rattle.line.specs.declared.Kind.{Kind}
use Rattle.line.specs.declared.Segment.{Segment}
use Rattle.line.specs.declared.Train.{Train}
use Rattle.line.specs.declared.Line.{Line}
use Rattle.rules.specs.Statement.Paths.{train, booking, leg_from, segment_count, segment, tracks_at, run_of, stop_of, legs, origin_at, destination_at, same_way, Uses, Middle, into, out_of, EachTrain, EachLeg}
use Rattle.rules.specs.Statement.Minutes.{departs_on, arrives_on, departure, arrival, last_arrival}

-- "a departure and an arrival, each 0 to 2,879, for each of its segments"
abbrev pub InDays : Line → List ℕ → ℕ → Type 0
InDays l m i = EachLeg l i (λ k. (departure l m i k ≤ 2879) × (arrival l m i k ≤ 2879))

-- a floor under a departure: train i does not depart on its leg k before a minute
abbrev pub NotBefore : Line → List ℕ → ℕ → ℕ → ℕ → Type 0
NotBefore l m i k minute = minute ≤ departure l m i k

-- 10: the first departure is not before earliest
abbrev pub NotEarly : Line → List ℕ → ℕ → Type 0
NotEarly l m i = NotBefore l m i 0 (train l i).earliest

-- 11: arrival less departure equals the run
abbrev pub Runs : Line → List ℕ → ℕ → Type 0
Runs l m i = EachLeg l i (λ k. arrival l m i k ≡ departure l m i k + run_of l i k)

-- 12: at a middle station, departure is at or after arrival plus stop
abbrev pub Stops : Line → List ℕ → ℕ → Type 0
Stops l m i = EachBelow (legs l i - 1) (λ k. arrival l m i k + stop_of l i k ≤ departure l m i (k + 1))

-- 18 (document 02, K1): a departure is not before its booking
abbrev pub KeepsBookings : Line → List ℕ → ℕ → Type 0
KeepsBookings l m i =
    EachBelow l.booked.booking_count
    (λ j. (booking l j).train ≡ i + 1 → NotBefore l m i (leg_from (train l i) (booking l j).station) (booking l j).minute)

-- the rules of train i by itself that the least minutes of a plan keep ("the least minutes that meet them and rules 10 to 12")
pub record TrainRules (l : Line) (m : List ℕ) (i : ℕ) : Type 0 where
  pub rule10 : NotEarly l m i
  pub rule11 : Runs l m i
  pub rule12 : Stops l m i
  pub rule18 : KeepsBookings l m i

-- 13: the last arrival is not after latest
abbrev pub NotLate : Line → List ℕ → ℕ → Type 0
NotLate l m i = last_arrival l m i ≤ (train l i).latest

-- 14: of two trains on a segment, the first departs at d and arrives at a; the other departs at d', arrives at a' and keeps its gap, by the
-- segment's kind and whether the two go in the same direction
abbrev pub GapBy : Kind → Bool → Segment → ℕ → ℕ → ℕ → ℕ → Type 0
GapBy Kind.S true g d a d' a' = a + g.following ≤ d'
GapBy Kind.F true g d a d' a' = (d + g.following ≤ d') × (a + g.following ≤ a')
GapBy Kind.D true g d a d' a' = (d + g.following ≤ d') × (a + g.following ≤ a')
GapBy Kind.S false g d a d' a' = a + g.opposing ≤ d'
GapBy Kind.F false g d a d' a' = a + g.opposing ≤ d'
GapBy Kind.D false g d a d' a' = Unit {0}

-- on segment p train i goes first, and train j keeps its gap
abbrev pub Before : Line → List ℕ → ℕ → ℕ → ℕ → Type 0
Before l m p i j = GapBy (segment l p).kind (same_way l i j) (segment l p) (departs_on m p i) (arrives_on m p i) (departs_on m p j) (arrives_on m p j)

-- each pair of trains sharing segment p has one that goes first there
abbrev pub Apart : Line → List ℕ → ℕ → Type 0
Apart l m p = EachTrain l (λ i. EachTrain l (λ j. i < j → Uses (train l i) p → Uses (train l j) p → Before l m p i j ⊎ Before l m p j i))

-- 15: a train stands at a middle station of its path from arrival to departure, both minutes included
abbrev pub came : Line → List ℕ → ℕ → ℕ → ℕ
came l m s i = arrives_on m (into (train l i) s) i

abbrev pub goes : Line → List ℕ → ℕ → ℕ → ℕ
goes l m s i = departs_on m (out_of (train l i) s) i

unfoldable pub middle : Train → ℕ → Bool
middle t s = nat_lt (min (origin_at t) (destination_at t)) s && nat_lt s (max (origin_at t) (destination_at t))

unfoldable pub stands : Line → List ℕ → ℕ → ℕ → ℕ → Bool
stands l m s t i = middle (train l i) s && (nat_le (came l m s i) t && nat_le t (goes l m s i))

-- the same as a statement
abbrev pub Stands : Line → List ℕ → ℕ → ℕ → ℕ → Type 0
Stands l m s t i = Middle (train l i) s × ((came l m s i ≤ t) × (t ≤ goes l m s i))

unfoldable pub standing : Line → List ℕ → ℕ → ℕ → ℕ
standing l m s t = count (stands l m s t) l.traffic.train_count

-- at no minute do more stand at station s than it has tracks
abbrev pub Room : Line → List ℕ → ℕ → Type 0
Room l m s = EachBelow 2880 (λ t. standing l m s t ≤ tracks_at l s)

-- "A timetable is lawful, or keeps every rule, when all the rules hold of it"
pub record Lawful (l : Line) (m : List ℕ) : Type 0 where
  pub days : EachTrain l (InDays l m)
  pub trains : EachTrain l (TrainRules l m)
  pub rule13 : EachTrain l (NotLate l m)
  pub rule14 : EachBelow (segment_count l) (Apart l m)
  pub rule15 : EachBelow l.track.station_count (Room l m)
