-- Laws of paths: each segment of a line that can be run has its gaps; each train that can be run has one, with bounds of its runs and stops; its legs are the segments that it uses, and a middle
-- station lies between two legs in a row.
use Rattle.std.specs.Prelude.{◌≡◌, ℕ, ◌+◌, ◌-◌, ◌<◌, ◌≤◌, min, max, cond, ◌⊎◌, length, ◌≢◌, nat_lt}
use Rattle.std.proofs.Math.Path.{refl}
use Rattle.std.proofs.Common.{sym, ◌∙◌, ap, ⊎_elim, arith, lt-ltb, le-ltb}
use Rattle.std.proofs.Math.Decide.{dec_lt}
use Rattle.finite.specs.Decide.{Decides}
use Rattle.finite.specs.DecideLaws.{decides_and, decides_lt}
use Rattle.finite.specs.EachLaws.{each_at, each_or}
use Rattle.line.specs.declared.Train.{Train}
use Rattle.line.specs.declared.Line.{Line}
use Rattle.line.specs.Ranges.{In, run}
use Rattle.line.specs.Record.{no_segment, legs_between, legs_of}
use Rattle.line.specs.Within.{SegmentWithin}
use Rattle.line.specs.Runnable.{held_stop, TrainRunnable, Runnable}
use Rattle.rules.specs.Statement.Paths.{segment_count, segment, past_train, train, run_of, stop_of, legs, Uses, segment_between, segment_of, leg_on, Middle, into, out_of, Routed}
use Rattle.rules.specs.Statement.Rules.{middle}

-- ---- the segment and the train of an index

pub segment_within : (l : Line) (p : ℕ) → Runnable l → length l.track.segments ≡ 11 → p < segment_count l → SegmentWithin (segment l p)
segment_within l p w size h = each_at SegmentWithin (segment_count l) l.track.segments p no_segment (omega (arith, w.stations.1)) h w.segments

pub train_runnable : (l : Line) (i : ℕ) → Runnable l → length l.traffic.trains ≡ 12 → i < l.traffic.train_count → TrainRunnable l.track.station_count (train l i)
train_runnable l i w size h =
    each_at (TrainRunnable l.track.station_count) l.traffic.train_count l.traffic.trains i past_train (omega (arith, w.trains)) h w.each_train

pub routed_runnable : (n : ℕ) (t : Train) → TrainRunnable n t → n ≤ 12 → Routed t
routed_runnable n t w h =
    record {
      origin = (omega (arith, w.origin), omega (arith, w.origin));
      destination = (omega (arith, w.destination), omega (arith, w.destination));
      apart = w.apart;
    }

pub routed : (l : Line) (i : ℕ) → Runnable l → length l.traffic.trains ≡ 12 → i < l.traffic.train_count → Routed (train l i)
routed l i w size h = routed_runnable _ _ (train_runnable l i w size h) w.stations.1

pub legs_few : (t : Train) → Routed t → (1 ≤ legs_of t) × (legs_of t ≤ 11)
legs_few t r = (omega (arith, r.apart), omega (arith, r.origin, r.destination))

-- whatever the length of its array of trains, a line that can be run has a train at each index below its count, or the one past the last, which
-- has no leg and no weight
module _ (l : Line) (i : ℕ) (w : Runnable l) (h : i < l.traffic.train_count) where
  pub train_or_past : TrainRunnable l.track.station_count (train l i) ⊎ (train l i ≡ past_train)
  train_or_past = each_or (TrainRunnable l.track.station_count) l.traffic.train_count l.traffic.trains i past_train h w.each_train

  pub routed_leg : 1 ≤ legs l i → Routed (train l i)
  routed_leg some = ⊎_elim (λ t. routed_runnable _ _ t w.stations.1) (λ e. absurd (omega (arith, ap legs_of e))) train_or_past

  pub legs-most : legs l i ≤ 11
  legs-most = ⊎_elim (λ t. (legs_few (train l i) (routed_runnable _ _ t w.stations.1)).1) (λ e. omega (arith, ap legs_of e)) train_or_past

  pub run-most : (k : ℕ) → k < legs l i → run_of l i k ≤ 240
  run-most k b =
      ⊎_elim (λ t. ⊎_elim (λ p. p.1) (λ e. omega (arith, e)) (each_or (In run) (legs l i) (train l i).runs k 0 b t.runs))
      (λ e. absurd (omega (arith, ap legs_of e))) train_or_past

  pub stop-most : (k : ℕ) → k < legs l i - 1 → stop_of l i k ≤ 480
  stop-most k b =
      ⊎_elim (λ t. ⊎_elim (λ p. p.1) (λ e. omega (arith, e)) (each_or (In held_stop) (legs l i - 1) (train l i).stops k 0 b t.stops))
      (λ e. absurd (omega (arith, ap legs_of e))) train_or_past

-- ---- legs and segments

module _ (o d k : ℕ) where
  pub segment_out : o < d → o - 1 + k ≡ segment_between o d k
  unfolding segment_between
  segment_out h = rw (lt-ltb o d h) refl

  pub segment_in : d ≤ o → o - 2 - k ≡ segment_between o d k
  unfolding segment_between
  segment_in h = rw (le-ltb o d h) (omega arith)

-- a segment that a train uses is that of one of its legs
pub uses-leg : (t : Train) (p : ℕ) → Uses t p → (k : ℕ) × (k < legs_of t) × (segment_of t k ≡ p)
uses-leg t p u = elim (dec_lt t.origin t.destination) [
  | yes o ↦ out t.origin t.destination o (omega (arith, u.0)) (omega (arith, u.1))
  | no o ↦ back t.origin t.destination (omega arith) (omega (arith, u.0)) (omega (arith, u.1))
]
  where
    out : (o d : ℕ) → o < d → o - 1 ≤ p → p < d - 1 → (k : ℕ) × (k < legs_between o d) × (segment_between o d k ≡ p)
    out o d l a b = (p - (o - 1), omega arith, sym (segment_out o d (p - (o - 1)) l) ∙ omega arith)

    back : (o d : ℕ) → d ≤ o → d - 1 ≤ p → p < o - 1 → (k : ℕ) × (k < legs_between o d) × (segment_between o d k ≡ p)
    back o d l a b = (o - 2 - p, omega arith, sym (segment_in o d (o - 2 - p) l) ∙ omega arith)

module _ (t : Train) (r : Routed t) where
  -- and the segment of each leg is used
  pub leg-uses : (k : ℕ) → k < legs_of t → Uses t (segment_of t k)
  leg-uses k h = elim (dec_lt t.origin t.destination) [
    | yes o ↦ let e = segment_out t.origin t.destination k o in (omega (arith, e, r.origin), omega (arith, e, r.origin))
    | no o ↦
        let e = segment_in t.origin t.destination k (omega arith) in
        let low = r.destination.0 in
        let far : t.destination + k < t.origin = omega (arith, r.apart) in
        back t.origin t.destination (segment_of t k) low far (omega (arith, e))
  ]
    where
      back : (o d x : ℕ) → 1 ≤ d → d + k < o → x + k + 2 ≡ o → (min (o - 1) (d - 1) ≤ x) × (x < max (o - 1) (d - 1))
      back o d x low far e = (omega arith, omega arith)

  pub uses_few : (p : ℕ) → Uses t p → p < 11
  uses_few p u = omega (arith, u.1, r.origin.1, r.destination.1)

  pub segment_below : (k : ℕ) → k < legs_of t → segment_of t k < 11
  segment_below k h = uses_few (segment_of t k) (leg-uses k h)

  -- no two legs have the same segment
  pub segment_apart : (j k : ℕ) → j < k → k < legs_of t → segment_of t j ≢ segment_of t k
  segment_apart j k l h e = elim (dec_lt t.origin t.destination) [
    | yes o ↦ omega (arith, segment_out t.origin t.destination j o, segment_out t.origin t.destination k o)
    | no o ↦
        let back : t.destination ≤ t.origin = omega arith in
        omega (arith, segment_in t.origin t.destination j back, segment_in t.origin t.destination k back, r.destination)
  ]

inbound_back : (o d k p : ℕ) → d ≤ o → 1 ≤ d → k < legs_between o d → o - 2 - k ≡ p → o - 1 - 1 - p ≡ k
inbound_back o d k p a b h e = let inside : k + 2 ≤ o = omega (arith, a, b, h) in turned inside e
  where
    turned : {o k p : ℕ} → k + 2 ≤ o → o - 2 - k ≡ p → o - 1 - 1 - p ≡ k
    turned a e = omega arith

-- the leg on the segment of leg k is leg k
pub leg_back : (t : Train) → Routed t → (k : ℕ) → k < legs_of t → leg_on t (segment_of t k) ≡ k
leg_back t r k h = elim (dec_lt t.origin t.destination) [
  | yes o ↦ rw (lt-ltb t.origin t.destination o) (omega (arith, segment_out t.origin t.destination k o))
  | no o ↦
      let back : t.destination ≤ t.origin = omega arith in
      rw (le-ltb t.origin t.destination back) (inbound_back _ _ k _ back r.destination.0 h (segment_in t.origin t.destination k back))
]

-- ---- middle stations

pub decides_middle : (t : Train) (s : ℕ) → Decides (Middle t s) (middle t s)
unfolding middle
decides_middle t s = decides_and (decides_lt _ _) (decides_lt _ _)

pub middle_few : (t : Train) → Routed t → (s : ℕ) → Middle t s → (0 < s) × (s < 11)
middle_few t r s h = (omega (arith, h.0), omega (arith, h.1, r.origin.1, r.destination.1))

-- two legs in a row from o to d, to station s and from it
abbrev LegsAt : ℕ → ℕ → ℕ → Type 0
LegsAt s o d =
    (k : ℕ) × (k + 1 < legs_between o d) × (segment_between o d k ≡ cond (nat_lt o d) (s - 1) s) × (segment_between o d (k + 1) ≡ cond (nat_lt o d) s (s - 1))

-- a train comes to a middle station by one leg and leaves it by the next
pub middle-legs : (t : Train) (s : ℕ) → Middle t s → (k : ℕ) × (k + 1 < legs_of t) × (segment_of t k ≡ into t s) × (segment_of t (k + 1) ≡ out_of t s)
middle-legs t s h = elim (dec_lt t.origin t.destination) [
  | yes o ↦ out t.origin t.destination o (omega (arith, h.0)) (omega (arith, h.1))
  | no o ↦ back t.origin t.destination (omega arith) (omega (arith, h.0)) (omega (arith, h.1))
]
  where
    out : (o d : ℕ) → o < d → o - 1 < s → s < d - 1 → LegsAt s o d
    out o d l a b =
        let k = s - 1 - (o - 1) in
        (k, omega arith, rw (lt-ltb o d l) (sym (segment_out o d k l) ∙ omega arith), rw (lt-ltb o d l) (sym (segment_out o d (k + 1) l) ∙ omega arith))

    back : (o d : ℕ) → d ≤ o → d - 1 < s → s < o - 1 → LegsAt s o d
    back o d l a b =
        let k = o - 2 - s in
        (k, omega arith, rw (le-ltb o d l) (sym (segment_in o d k l) ∙ omega arith), rw (le-ltb o d l) (sym (segment_in o d (k + 1) l) ∙ omega arith))
