-- The lowest conflict is a conflict, and so is any pair or crowd that the tests of the scan find.
use Rattle.std.specs.Prelude.{ℕ, ◌+◌, ◌≤◌, ◌<◌, ◌≡◌, Bool, true, false, List}
use Rattle.std.proofs.Common.{sym, ◌∙◌, ap, true≢false, arith}
use Rattle.std.proofs.Math.Decide.{dec_lt}
use Rattle.finite.specs.Below.{EachBelow, count}
use Rattle.finite.specs.BelowLaws.{count_same}
use Rattle.line.specs.declared.Line.{Line}
use Rattle.line.specs.Within.{Within, Arrays}
use Rattle.rules.specs.Statement.Paths.{segment_count, segment, tracks_at}
use Rattle.rules.specs.Conflict.Directions.{directions_of}
use Rattle.rules.specs.Conflict.Conflicts.{clash, stands_at, standing_at, earliest_crowd, in_crowd, crowd_mask, crowd_at, conflict_of}
use Rattle.rules.specs.Check.RulesLaws.{decides_stands}
use Rattle.rules.specs.Scan.StationLaws.{mask_sum, crowd-stands, crowd-many}
use Rattle.rules.proofs.Check.ExactLaws.{decides_conflict, stands_at_lem}
use Rattle.rules.specs.Conflict.FoundLaws.{crowd_holds, conflict_holds}
use Rattle.orders.specs.Plan.Bits.{in_mask}
use Rattle.orders.specs.Plan.BitsLaws.{mask_in, mask_past}
use Rattle.plans.specs.Conflict.RealConflicts.{Clashing, Crowded, Real}

module _ (l : Line) (w : Within l) (a : Arrays l) (m : List ℕ) where
  abbrev ds : List ℕ
  ds = directions_of l

  abbrev n : ℕ
  n = l.traffic.train_count

  -- ---- on a segment

  -- any two trains that the test finds in conflict
  pub clashing : (p : ℕ) → p < segment_count l → (i j : ℕ) → i < n → j < n → clash (segment l p) (directions_of l) m p i j ≡ true →
      Clashing l m (record { segment = p; lower = i; higher = j })
  clashing p b i j h k e =
      let c = (decides_conflict l w.trains.1 m p (omega (arith, w.stations.1)) i j h k).yea e in
      record { place = b; trains = (h, k); order = c.0; shared = (c.1.0, c.1.1.0); neither = c.1.1.1 }

  -- ---- at a station

  module _ (s : ℕ) (low : 0 < s) (high : s + 1 < l.track.station_count) (t : ℕ) where
    -- any trains that the test finds standing there at a minute, if they are more than the tracks
    pub crowded : (f : ℕ → Bool) (mask : ℕ) → ((i : ℕ) → i < n → in_mask mask i ≡ f i) → ((i : ℕ) → n ≤ i → in_mask mask i ≡ false) →
        EachBelow n (λ i. f i ≡ true → stands_at (directions_of l) m s t i ≡ true) → tracks_at l s < count f n →
        Crowded l m (record { station = s; minute = t; trains = mask })
    crowded f mask inside outside standing many =
        record {
          place = omega arith;
          trains = λ i e. elim (dec_lt i n) [
            | yes h ↦ (
              h,
              (decides_stands l m s t i).yea
                  (sym (stands_at_lem l w.trains.1 m s low (omega (arith, w.stations.1)) t i h) ∙ standing i h (sym (inside i h) ∙ e)),
            )
            | no h ↦ absurd (true≢false (sym e ∙ outside i (omega arith)))
          ];
          many = omega (arith, count_same (in_mask mask) f n inside);
        }

    -- so the lowest of those that stand there
    pub lowest_crowded : tracks_at l s < standing_at (directions_of l) m n s t →
        Crowded l m (record { station = s; minute = t; trains = crowd_mask (directions_of l) m n (tracks_at l s) s t })
    lowest_crowded h =
        let inside = in_crowd ds m (tracks_at l s) s t in
        let bits = mask_sum ds m n (tracks_at l s) s t in
        crowded inside _ (λ i b. ap (λ (x : ℕ). in_mask x i) bits ∙ mask_in inside n i b) (λ i b. ap (λ (x : ℕ). in_mask x i) bits ∙ mask_past inside n i b)
        (λ i b. crowd-stands ds m n (tracks_at l s) s t i) (omega (arith, crowd-many ds m n (tracks_at l s) s t h))

  pub crowd_at_real : (s : ℕ) → 0 < s → s + 1 < l.track.station_count →
      Real l m (crowd_at (directions_of l) m l.traffic.train_count (tracks_at l s) s (earliest_crowd (directions_of l) m l.traffic.train_count (tracks_at l s) s))
  crowd_at_real s low high = crowd_holds (Real l m) tt ds m n (tracks_at l s) s (lowest_crowded s low high)

  -- ---- the lowest conflict

  pub conflict_real : Real l m (conflict_of l m)
  conflict_real = conflict_holds (Real l m) tt l m clashing lowest_crowded
