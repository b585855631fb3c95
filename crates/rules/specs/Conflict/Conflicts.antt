-- The lowest conflict of some minutes: rule 14 by the table of directions, segment by segment, then rule 15, station by station.
use Rattle.std.specs.Prelude.{ℕ, zero, suc, ◌+◌, ◌-◌, ◌^◌, Bool, true, false, cond, not, ◌&&◌, ◌||◌, ltb, List, ◌==◌, nat_le, nat_lt, slice_index, slice_index_or, Option, Some, None}
use Rattle.std.proofs.Math.Option.{Option as Maybe, some, none}
use Rattle.finite.specs.Below.{first, count, sum}
use Rattle.line.specs.declared.Kind.{Kind}
use Rattle.line.specs.declared.Segment.{Segment}
use Rattle.line.specs.declared.Line.{Line}
use Rattle.line.specs.Record.{no_segment}
use Rattle.rules.specs.declared.conflicts.Conflict.{Conflict}
use Rattle.rules.specs.declared.conflicts.Layout.{Layout}
use Rattle.rules.specs.declared.passages.Passage.{Passage}
use Rattle.rules.specs.declared.stations.Stay.{Stay}
use Rattle.rules.specs.Statement.Paths.{segment_count}
use Rattle.rules.specs.Statement.Minutes.{departs_on, arrives_on}
use Rattle.rules.specs.Conflict.Directions.{directions_of, way, on}

-- the first of two conflicts, and the first of those at the numbers below n
abbrev pub or_conflict : Option Conflict → Option Conflict → Option Conflict
or_conflict None c = c
or_conflict (Some x) c = Some x

unfoldable pub first_conflict : (ℕ → Option Conflict) → ℕ → Option Conflict
first_conflict f zero = None
first_conflict f (suc n) = or_conflict (first_conflict f n) (f n)

-- ---- rule 14

-- the gap of rule 14 as a test
abbrev pub gap_by : Kind → Bool → Segment → ℕ → ℕ → ℕ → ℕ → Bool
gap_by Kind.S true g d a d' a' = nat_le (a + g.following) d'
gap_by Kind.F true g d a d' a' = nat_le (d + g.following) d' && nat_le (a + g.following) a'
gap_by Kind.D true g d a d' a' = nat_le (d + g.following) d' && nat_le (a + g.following) a'
gap_by Kind.S false g d a d' a' = nat_le (a + g.opposing) d'
gap_by Kind.F false g d a d' a' = nat_le (a + g.opposing) d'
gap_by Kind.D false g d a d' a' = true

-- how train i goes over segment p
abbrev pub passage : List ℕ → List ℕ → ℕ → ℕ → Passage
passage ds m p i = record { way = way ds p i; departs = departs_on m p i; arrives = arrives_on m p i }

-- on a segment y goes after x and keeps its gap
unfoldable pub keeps_after : Segment → Passage → Passage → Bool
keeps_after g x y = gap_by g.kind (x.way == y.way) g x.departs x.arrives y.departs y.arrives

unfoldable pub neither_first : Segment → Passage → Passage → Bool
neither_first g x y = not (keeps_after g x y || keeps_after g y x)

-- i, the lower number, and j share segment p, which is g, and neither goes first there
unfoldable pub clash : Segment → List ℕ → List ℕ → ℕ → ℕ → ℕ → Bool
clash g ds m p i j = nat_lt i j && (on ds p i && (on ds p j && neither_first g (passage ds m p i) (passage ds m p j)))

-- what a search found, as the code answers it
abbrev pub option_of : Maybe ℕ → Option ℕ
option_of none = None
option_of (some i) = Some i

-- the lowest train in conflict with i
unfoldable pub partner_of : Segment → List ℕ → List ℕ → ℕ → ℕ → ℕ → Option ℕ
partner_of g ds m p n i = option_of (first (clash g ds m p i) n)

abbrev pub pair_with : ℕ → ℕ → Option ℕ → Option Conflict
pair_with p i None = None
pair_with p i (Some j) = Some (Conflict.OnSegment (record { segment = p; lower = i; higher = j }))

-- the lowest pair on segment p, and the lowest segment with its lowest pair, of n trains
unfoldable pub pair_on : Segment → List ℕ → List ℕ → ℕ → ℕ → Option Conflict
pair_on g ds m n p = first_conflict (λ i. pair_with p i (partner_of g ds m p n i)) n

unfoldable pub segment_conflict : List Segment → List ℕ → List ℕ → ℕ → ℕ → Option Conflict
segment_conflict gs ds m segments n = first_conflict (λ p. pair_on (slice_index_or gs p no_segment) ds m n p) segments

-- ---- rule 15

-- when train i comes to its middle station s, and when it leaves
abbrev pub came_to : List ℕ → List ℕ → ℕ → ℕ → ℕ
came_to ds m s i = cond (way ds s i == 1) (arrives_on m (s - 1) i) (arrives_on m s i)

abbrev pub leaves_from : List ℕ → List ℕ → ℕ → ℕ → ℕ
leaves_from ds m s i = cond (way ds s i == 1) (departs_on m s i) (departs_on m (s - 1) i)

-- station s is a middle one of its path where it goes over the segments on both sides
abbrev pub passes : List ℕ → ℕ → ℕ → Bool
passes ds s i = on ds s i && on ds (s - 1) i

abbrev pub stay : List ℕ → List ℕ → ℕ → ℕ → Option Stay
stay ds m s i = cond (passes ds s i) (Some (record { came = came_to ds m s i; leaves = leaves_from ds m s i })) None

unfoldable pub stands_in : Option Stay → ℕ → Bool
stands_in None t = false
stands_in (Some x) t = nat_le x.came t && nat_le t x.leaves

abbrev pub stands_at : List ℕ → List ℕ → ℕ → ℕ → ℕ → Bool
stands_at ds m s t i = stands_in (stay ds m s i) t

unfoldable pub standing_at : List ℕ → List ℕ → ℕ → ℕ → ℕ → ℕ
standing_at ds m n s t = count (stands_at ds m s t) n

-- the earliest minute at which more stand at station s than it has tracks
unfoldable pub earliest_crowd : List ℕ → List ℕ → ℕ → ℕ → ℕ → Option ℕ
earliest_crowd ds m n tracks s = option_of (first (λ t. ltb tracks (standing_at ds m n s t)) 2880)

-- one more train than tracks, the lowest that stand there at minute t: as a mask, bit i for train i
unfoldable pub in_crowd : List ℕ → List ℕ → ℕ → ℕ → ℕ → ℕ → Bool
in_crowd ds m tracks s t i = stands_at ds m s t i && nat_le (count (stands_at ds m s t) i) tracks

unfoldable pub crowd_mask : List ℕ → List ℕ → ℕ → ℕ → ℕ → ℕ → ℕ
crowd_mask ds m n tracks s t = sum (λ i. cond (in_crowd ds m tracks s t i) (2 ^ i) 0) n

abbrev pub crowd_at : List ℕ → List ℕ → ℕ → ℕ → ℕ → Option ℕ → Option Conflict
crowd_at ds m n tracks s None = None
crowd_at ds m n tracks s (Some t) = Some (Conflict.AtStation (record { station = s; minute = t; trains = crowd_mask ds m n tracks s t }))

-- at station s; the first and the last station of the line are nobody's middle one
unfoldable pub crowd_on : List ℕ → List ℕ → List ℕ → ℕ → ℕ → ℕ → Option Conflict
crowd_on tracks ds m stations n s =
    cond (nat_lt 0 s && nat_lt (s + 1) stations)
    (crowd_at ds m n (slice_index tracks s) s (earliest_crowd ds m n (slice_index tracks s) s))
    None

unfoldable pub station_conflict : List ℕ → List ℕ → List ℕ → ℕ → ℕ → Option Conflict
station_conflict tracks ds m stations n = first_conflict (crowd_on tracks ds m stations n) stations

-- ---- document 02, K9: "the conflict on the lowest segment with the lowest pair (lower train, then the other) ..; failing that the one at the lowest
-- station and earliest minute among the lowest trains, by leaving train and then arriving train"

unfoldable pub conflict_of : Line → List ℕ → Option Conflict
conflict_of l m =
    or_conflict (segment_conflict l.track.segments (directions_of l) m (segment_count l) l.traffic.train_count)
    (station_conflict l.track.tracks (directions_of l) m l.track.station_count l.traffic.train_count)

-- the same by what the scan looks at, and by a table of directions
abbrev pub layout_of : Line → Layout
layout_of l = record { stations = l.track.station_count; trains = l.traffic.train_count; segments = l.track.segments; tracks = l.track.tracks }

unfoldable pub conflict_in : Layout → List ℕ → List ℕ → Option Conflict
conflict_in y ds m =
    or_conflict (segment_conflict y.segments ds m (y.stations - 1) y.trains)
    (station_conflict y.tracks ds m y.stations y.trains)
