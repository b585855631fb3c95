-- What the scan finds: a pair that the test finds in conflict, or the lowest trains at a minute at which too many stand. So what holds of nothing, of each
-- such pair and of each such crowd holds of the lowest conflict.
use Rattle.std.specs.Prelude.{◌≡◌, ℕ, zero, suc, ◌+◌, ◌<◌, Bool, true, false, cond, ◌&&◌, List, nat_lt, slice_index, Option, Some, None}
use Rattle.std.proofs.Math.Path.{refl}
use Rattle.std.proofs.Math.Option.{Option as Maybe, some, none}
use Rattle.std.proofs.Common.{arith}
use Rattle.finite.specs.DecideLaws.{decides_and, decides_lt}
use Rattle.finite.specs.Below.{EachBelow, IsFirst, first}
use Rattle.finite.specs.LoopLaws.{first_is}
use Rattle.line.specs.declared.Segment.{Segment}
use Rattle.line.specs.declared.Line.{Line}
use Rattle.rules.specs.declared.conflicts.Conflict.{Conflict}
use Rattle.rules.specs.Statement.Paths.{segment_count, segment, tracks_at}
use Rattle.rules.specs.Conflict.Directions.{directions_of}
use Rattle.rules.specs.Conflict.Conflicts.{or_conflict, first_conflict, clash, option_of, partner_of, pair_with, pair_on, segment_conflict}
use Rattle.rules.specs.Conflict.Conflicts.{standing_at, earliest_crowd, crowd_mask, crowd_at, crowd_on, station_conflict, conflict_of}

module _ (Q : Option Conflict → Type 0) (nothing : Q None) where
  -- ---- what holds of each conflict holds of the first

  or_holds : (c d : Option Conflict) → Q c → Q d → Q (or_conflict c d)
  or_holds None d p q = q
  or_holds (Some x) d p q = p

  first_holds : (f : ℕ → Option Conflict) (n : ℕ) → EachBelow n (λ i. Q (f i)) → Q (first_conflict f n)
  unfolding first_conflict
  first_holds f zero h = nothing
  first_holds f (suc n) h = or_holds (first_conflict f n) (f n) (first_holds f n (λ i s. h i (omega arith))) (h n (omega arith))

  -- ---- on a segment

  -- of each pair on it that the test finds in conflict
  abbrev pub EachPair : Segment → List ℕ → List ℕ → ℕ → ℕ → Type 0
  EachPair g ds m n p =
      (i j : ℕ) → i < n → j < n → clash g ds m p i j ≡ true → Q (Some (Conflict.OnSegment (record { segment = p; lower = i; higher = j })))

  module _ (g : Segment) (ds m : List ℕ) (n p : ℕ) (each : EachPair g ds m n p) where
    with_holds : (i : ℕ) → i < n → (o : Maybe ℕ) → IsFirst (clash g ds m p i) n o → Q (pair_with p i (option_of o))
    with_holds i h none r = nothing
    with_holds i h (some j) r = each i j h r.0 r.1

    pub pair_holds : Q (pair_on g ds m n p)
    unfolding pair_on partner_of
    pair_holds = first_holds _ n (λ i h. with_holds i h (first (clash g ds m p i) n) (first_is (clash g ds m p i) n))

  -- ---- at a station

  -- of each crowd there: more stand at the minute than there are tracks
  abbrev pub EachCrowd : List ℕ → List ℕ → ℕ → ℕ → ℕ → Type 0
  EachCrowd ds m n tracks s =
      (t : ℕ) → tracks < standing_at ds m n s t → Q (Some (Conflict.AtStation (record { station = s; minute = t; trains = crowd_mask ds m n tracks s t })))

  module _ (ds m : List ℕ) (n tracks s : ℕ) (each : EachCrowd ds m n tracks s) where
    abbrev crowded : ℕ → Bool
    crowded t = nat_lt tracks (standing_at ds m n s t)

    minute_holds : (o : Maybe ℕ) → IsFirst crowded 2880 o → Q (crowd_at ds m n tracks s (option_of o))
    minute_holds none r = nothing
    minute_holds (some t) r = each t ((decides_lt _ _).yea r.1)

    pub crowd_holds : Q (crowd_at ds m n tracks s (earliest_crowd ds m n tracks s))
    unfolding earliest_crowd
    crowd_holds = minute_holds (first crowded 2880) (first_is crowded 2880)

  module _ (tracks ds m : List ℕ) (stations n : ℕ) (each : (s : ℕ) → 0 < s → s + 1 < stations → EachCrowd ds m n (slice_index tracks s) s) where
    on_holds : (s : ℕ) → Q (crowd_on tracks ds m stations n s)
    unfolding crowd_on
    on_holds s = go (nat_lt 0 s && nat_lt (s + 1) stations) refl
      where
        go : (b : Bool) → nat_lt 0 s && nat_lt (s + 1) stations ≡ b →
            Q (cond b (crowd_at ds m n (slice_index tracks s) s (earliest_crowd ds m n (slice_index tracks s) s)) None)
        go true e =
            let h = (decides_and (decides_lt 0 s) (decides_lt (s + 1) stations)).yea e in
            crowd_holds ds m n (slice_index tracks s) s (each s h.0 h.1)
        go false e = nothing

    pub station_holds : Q (station_conflict tracks ds m stations n)
    unfolding station_conflict
    station_holds = first_holds _ stations (λ s _. on_holds s)

  -- ---- of a line's minutes

  module _ (l : Line) (m : List ℕ)
      (pairs : (p : ℕ) → p < segment_count l → EachPair (segment l p) (directions_of l) m l.traffic.train_count p)
      (crowds : (s : ℕ) → 0 < s → s + 1 < l.track.station_count → EachCrowd (directions_of l) m l.traffic.train_count (tracks_at l s) s) where
    pub conflict_holds : Q (conflict_of l m)
    unfolding conflict_of segment_conflict
    conflict_holds =
        or_holds (segment_conflict l.track.segments (directions_of l) m (segment_count l) l.traffic.train_count)
        (station_conflict l.track.tracks (directions_of l) m l.track.station_count l.traffic.train_count)
        (first_holds _ (segment_count l) (λ p b. pair_holds (segment l p) (directions_of l) m l.traffic.train_count p (pairs p b)))
        (station_holds l.track.tracks (directions_of l) m l.track.station_count l.traffic.train_count crowds)
