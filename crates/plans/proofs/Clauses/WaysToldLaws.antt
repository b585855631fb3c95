-- Laws of the ways as the program has them: bits of a mask as it writes them, and one law for each way that it returns.
use Rattle.std.specs.Prelude.{ℕ, zero, suc, ◌+◌, ◌*◌, ◌-◌, ◌/◌, ◌%◌, ◌^◌, ◌≤◌, ◌<◌, ◌≡◌, Bool, true, false, ◌&&◌, List, [], length, Option, Some, None}
use Rattle.std.proofs.Math.Path.{refl}
use Rattle.std.proofs.Common.{sym, ◌∙◌, ap, true≢false, mod-eq_of_lt, arith, eq-eqb, ne_eqb}
use Rattle.std.proofs.Math.Decide.{dec_lt}
use Rattle.std.specs.Int.Bits.{bit_or}
use Rattle.std.proofs.Math.Pow.{pow-lt}
use Rattle.rules.specs.declared.conflicts.Conflict.{Conflict}
use Rattle.rules.specs.declared.conflicts.SegmentConflict.{SegmentConflict}
use Rattle.rules.specs.declared.conflicts.StationConflict.{StationConflict}
use Rattle.rules.specs.Conflict.Directions.{way}
use Rattle.orders.specs.Plan.Bits.{in_mask, NextBit, with_bit}
use Rattle.orders.specs.Plan.BitsLaws.{with_bit_or}
use Rattle.orders.specs.Plan.Choices.{on_segment, at_station}
use Rattle.plans.specs.Conflict.Ways.{two_of, way_of, way_count}
use Rattle.plans.specs.Clauses.WaysTold.{leg_out, Tells, TellsWay, TellsOnSegment, Steps, NextPair}
use Rattle.plans.specs.declared.ways.Way.{Way}

-- ---- a mask, by shifts

pub bit_put : (x j : ℕ) → j < 16 → bit_or x (1 * 2 ^ j % 65536) ≡ with_bit j x
bit_put x j h =
    let e : 1 * 2 ^ j ≡ 2 ^ j = omega arith in
    ap (bit_or x) (ap (λ (n : ℕ). n % 65536) e ∙ mod-eq_of_lt (pow-lt {i = j} {j = 16} h)) ∙ sym (with_bit_or j x)

-- ---- the leg out of a station

module _ (ds : List ℕ) (s a : ℕ) where
  pub leg-outbound : way ds s a ≡ 1 → 16 * s + a ≡ leg_out ds s a
  unfolding leg_out
  leg-outbound e = rw (eq-eqb (way ds s a) 1 e) refl

  pub leg_inbound : (way ds s a ≡ 1 → ⊥) → 16 * (s - 1) + a ≡ leg_out ds s a
  unfolding leg_out
  leg_inbound n = rw (ne_eqb (way ds s a) 1 n) refl

-- ---- the ways

module _ (x : SegmentConflict) (w : ℕ) (r : Way) where
  pub tells_lower : w ≡ 0 → ((ds : List ℕ) → Tells ds (on_segment x.segment x.lower x.higher) r) → TellsOnSegment x w r
  unfolding way_of
  tells_lower e h ds = rw (eq-eqb w 0 e) (h ds)

  pub tells_higher : (w ≡ 0 → ⊥) → ((ds : List ℕ) → Tells ds (on_segment x.segment x.higher x.lower) r) → TellsOnSegment x w r
  unfolding way_of
  tells_higher n h ds = rw (ne_eqb w 0 n) (h ds)

module _ (x : StationConflict) (ds : List ℕ) (w : ℕ) where
  pub tells_pair : (r : Way) → two_of x.trains (w / 12) (w % 12) ≡ true → Tells ds (at_station x.station (w / 12) (w % 12)) r →
      TellsWay ds (way_of (Some (Conflict.AtStation x)) w) (Some r)
  unfolding way_of
  tells_pair r e h = rw e h

  pub tells_none : two_of x.trains (w / 12) (w % 12) ≡ false → TellsWay ds (way_of (Some (Conflict.AtStation x)) w) None
  unfolding way_of
  tells_none e = rw e tt

module _ (ds : List ℕ) (w : ℕ) where
  pub tells_nothing : TellsWay ds (way_of None w) None
  unfolding way_of
  tells_nothing = tt

  pub tells_as : (r : Option Way) (step : ℕ) (c d : Option Conflict) → c ≡ d → TellsWay ds (way_of d w) r × Steps d w step → TellsWay ds (way_of c w) r × Steps c w step
  tells_as r step c d e h = rw e h

-- ---- the next number that may have a way

-- the next number of all
pub steps_one : (c : Option Conflict) (w : ℕ) → w < 144 → Steps c w 1
steps_one c w low = record { on = omega arith; up_to = omega arith; none_between = λ i a b. absurd (omega arith) }

-- no pair has a train that is not in the mask: the one that leaves, or the one that comes
none_leaves : (mask i : ℕ) → in_mask mask (i / 12) ≡ false → two_of mask (i / 12) (i % 12) ≡ false
none_leaves mask i out = rw out refl

none_comes : (mask i : ℕ) → in_mask mask (i % 12) ≡ false → two_of mask (i / 12) (i % 12) ≡ false
none_comes mask i out = rw out (go (in_mask mask (i / 12)))
  where
    go : (b : Bool) → b && false ≡ false
    go true = refl
    go false = refl

-- the lowest train of a mask is not above another of its trains
pub lowest_most : (mask low a : ℕ) → NextBit mask 0 low → in_mask mask a ≡ true → low ≤ a
lowest_most mask low a l in-it = elim (dec_lt a low) [
  | yes h ↦ absurd (true≢false (sym in-it ∙ l.none_between a (omega arith) h))
  | no h ↦ omega arith
]

module _ (mask a b next : ℕ) (n : NextBit mask (b + 1) next) where
  -- the same train leaves, the next one comes
  pub pair_same : a < 12 → next < 12 → NextPair mask (12 * a + b) (next - b)
  pair_same low h = record {
    on = omega arith;
    up_to = omega arith;
    none_between = λ i p q. none_comes mask i (n.none_between (i % 12) (omega arith) (omega arith));
  }

  module _ (row : ℕ) (m : NextBit mask (a + 1) row) (past : 12 ≤ next) where
    -- none of the trains from b + 1 on comes, and none between a and the next row leaves
    none_before_row : (i : ℕ) → 12 * a + b < i → i < 12 * row → two_of mask (i / 12) (i % 12) ≡ false
    none_before_row i p q = elim (dec_lt a (i / 12)) [
      | yes h ↦ none_leaves mask i (m.none_between (i / 12) (omega arith) (omega arith))
      | no h ↦ none_comes mask i (n.none_between (i % 12) (omega arith) (omega arith))
    ]

    -- the next train leaves, the lowest one comes
    pub pair-next-row : (low : ℕ) → NextBit mask 0 low → b < 12 → row < 12 → NextPair mask (12 * a + b) (12 * row + low - (12 * a + b))
    pair-next-row low l lb h =
        let most : low ≤ row = lowest_most mask low row l (m.member (omega arith)) in
        record {
          on = omega arith;
          up_to = omega arith;
          none_between = λ i p q. elim (dec_lt i (12 * row)) [
            | yes k ↦ none_before_row i p k
            | no k ↦ none_comes mask i (l.none_between (i % 12) (omega arith) (omega arith))
          ];
        }

    -- no train leaves any more
    pub pair_last : a < 12 → b < 12 → 12 ≤ row → NextPair mask (12 * a + b) (144 - (12 * a + b))
    pair_last la lb h = record { on = omega arith; up_to = omega arith; none_between = λ i p q. none_before_row i p (omega arith) }

-- a number that is of no pair has no way
no_pair : (x : StationConflict) (i : ℕ) → two_of x.trains (i / 12) (i % 12) ≡ false → way_of (Some (Conflict.AtStation x)) i ≡ []
unfolding way_of
no_pair x i e = rw e refl

-- so the next pair is the next number that may have one
pub steps_pair : (x : StationConflict) (w n : ℕ) → NextPair x.trains (12 * (w / 12) + w % 12) n → Steps (Some (Conflict.AtStation x)) w n
steps_pair x w n h = record {
  on = omega arith;
  up_to = omega arith;
  none_between = λ i p q. no_pair x i (h.none_between i (omega arith) (omega arith));
}

-- it is not beyond the ways: on a segment each number has one
segment-some : (x : SegmentConflict) (w : ℕ) → way_of (Some (Conflict.OnSegment x)) (w + 1) ≡ [] → ⊥
unfolding way_of
segment-some x w e = let none = rw (ne_eqb (w + 1) 0 (λ z. omega arith)) at e in let z : ◌≡◌ {A = ℕ} 1 0 = ap length none in absurd (omega arith)

pub steps_within : (c : Option Conflict) (n w step : ℕ) → n ≡ way_count c → w < n → Steps c w step → w + step ≤ n
steps_within None n w step is low h = absurd (omega arith)
steps_within (Some (Conflict.OnSegment x)) n w step is low h = go step refl
  where
    go : (k : ℕ) → step ≡ k → w + k ≤ n
    go zero e = omega arith
    go (suc zero) e = omega arith
    go (suc (suc k)) e = absurd (segment-some x w (h.none_between (w + 1) (omega arith) (omega arith)))
steps_within (Some (Conflict.AtStation x)) n w step is low h = omega (arith, h.up_to)
