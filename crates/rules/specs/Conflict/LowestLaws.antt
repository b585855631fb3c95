-- Below the lowest conflict there is none: it is on the lowest segment that has one, or at a station where no segment has.
use Rattle.std.specs.Prelude.{◌≡◌, ℕ, zero, suc, ◌+◌, ◌-◌, ◌<◌, Bool, true, false, cond, ◌&&◌, List, nat_lt, slice_index, slice_index_or, Option, Some, None}
use Rattle.std.proofs.Math.Path.{refl}
use Rattle.std.proofs.Common.{arith}
use Rattle.line.specs.declared.Segment.{Segment}
use Rattle.line.specs.Record.{no_segment}
use Rattle.rules.specs.declared.conflicts.Conflict.{Conflict}
use Rattle.rules.specs.declared.conflicts.Layout.{Layout}
use Rattle.rules.specs.Conflict.Conflicts.{or_conflict, first_conflict, pair_on, segment_conflict, earliest_crowd, crowd_at, crowd_on, station_conflict, conflict_in}
use Rattle.rules.specs.Conflict.ConflictsLaws.{NoSegment}
use Rattle.rules.specs.Conflict.FoundLaws.{pair_holds, crowd_holds, station_holds}

-- a conflict on segment p, or none
abbrev pub OnlyOn : ℕ → Option Conflict → Type 0
OnlyOn p None = Unit {0}
OnlyOn p (Some (Conflict.OnSegment x)) = x.segment ≡ p
OnlyOn p (Some (Conflict.AtStation x)) = ⊥

pub pair_only : (g : Segment) (ds m : List ℕ) (n p : ℕ) → OnlyOn p (pair_on g ds m n p)
pair_only g ds m n p = pair_holds (OnlyOn p) tt g ds m n p (λ i j _ _ _. refl)

-- a conflict at station s, or none
abbrev pub OnlyAt : ℕ → Option Conflict → Type 0
OnlyAt s None = Unit {0}
OnlyAt s (Some (Conflict.OnSegment x)) = ⊥
OnlyAt s (Some (Conflict.AtStation x)) = x.station ≡ s

pub crowd_only : (tracks ds m : List ℕ) (stations n s : ℕ) → OnlyAt s (crowd_on tracks ds m stations n s)
unfolding crowd_on
crowd_only tracks ds m stations n s = go (nat_lt 0 s && nat_lt (s + 1) stations)
  where
    go : (b : Bool) → OnlyAt s (cond b (crowd_at ds m n (slice_index tracks s) s (earliest_crowd ds m n (slice_index tracks s) s)) None)
    go true = crowd_holds (OnlyAt s) tt ds m n (slice_index tracks s) s (λ t _. refl)
    go false = tt

-- a conflict at a station, or none
abbrev OnlyStation : Option Conflict → Type 0
OnlyStation None = Unit {0}
OnlyStation (Some (Conflict.OnSegment x)) = ⊥
OnlyStation (Some (Conflict.AtStation x)) = Unit {0}

station_only : (tracks ds m : List ℕ) (stations n : ℕ) → OnlyStation (station_conflict tracks ds m stations n)
station_only tracks ds m stations n = station_holds OnlyStation tt tracks ds m stations n (λ s low high t _. tt)

-- the first of those at the numbers below n, each on its own segment, has none before it
module _ (f : ℕ → Option Conflict) where
  abbrev Lowest : ℕ → Option Conflict → Type 0
  Lowest n None = Unit {0}
  Lowest n (Some (Conflict.OnSegment x)) = (x.segment < n) × (first_conflict f x.segment ≡ None)
  Lowest n (Some (Conflict.AtStation x)) = ⊥

  lowest_more : (n : ℕ) (c d : Option Conflict) → first_conflict f n ≡ c → Lowest n c → OnlyOn n d → Lowest (suc n) (or_conflict c d)
  lowest_more n None None e h o = tt
  lowest_more n None (Some (Conflict.OnSegment x)) e h o = (omega arith, rw o e)
  lowest_more n None (Some (Conflict.AtStation x)) e h o = absurd o
  lowest_more n (Some (Conflict.OnSegment x)) d e h o = (omega arith, h.1)
  lowest_more n (Some (Conflict.AtStation x)) d e h o = absurd h

  first_lowest : ((p : ℕ) → OnlyOn p (f p)) → (n : ℕ) → Lowest n (first_conflict f n)
  unfolding first_conflict
  first_lowest each zero = tt
  first_lowest each (suc n) = lowest_more n (first_conflict f n) (f n) refl (first_lowest each n) (each n)

-- no segment below the one that it is on has a conflict; none has one where it is on none
abbrev pub NoneBelow : Layout → List ℕ → List ℕ → Option Conflict → Type 0
NoneBelow y ds m None = NoSegment y.segments ds m y.trains (y.stations - 1)
NoneBelow y ds m (Some (Conflict.OnSegment x)) = (x.segment < y.stations - 1) × NoSegment y.segments ds m y.trains x.segment
NoneBelow y ds m (Some (Conflict.AtStation x)) = NoSegment y.segments ds m y.trains (y.stations - 1)

module _ (y : Layout) (ds m : List ℕ) where
  abbrev on-segment : ℕ → Option Conflict
  on-segment p = pair_on (slice_index_or y.segments p no_segment) ds m y.trains p

  below_either : (c d : Option Conflict) → segment_conflict y.segments ds m (y.stations - 1) y.trains ≡ c → Lowest on-segment (y.stations - 1) c →
      OnlyStation d → NoneBelow y ds m (or_conflict c d)
  unfolding segment_conflict
  below_either None None e h o = e
  below_either None (Some (Conflict.OnSegment x)) e h o = absurd o
  below_either None (Some (Conflict.AtStation x)) e h o = e
  below_either (Some (Conflict.OnSegment x)) d e h o = h
  below_either (Some (Conflict.AtStation x)) d e h o = absurd h

  pub none_below : (c : Option Conflict) → c ≡ conflict_in y ds m → NoneBelow y ds m c
  unfolding conflict_in segment_conflict
  none_below c e =
      rw e
      (below_either (segment_conflict y.segments ds m (y.stations - 1) y.trains) (station_conflict y.tracks ds m y.stations y.trains) refl
      (first_lowest on-segment (λ p. pair_only (slice_index_or y.segments p no_segment) ds m y.trains p) (y.stations - 1))
      (station_only y.tracks ds m y.stations y.trains))
