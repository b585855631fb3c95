-- What the scan for conflicts needs of the definitions: searches that stop at the first conflict, and each test of rule 14 by the arms of its code.
use Rattle.std.specs.Prelude.{◌≡◌, ℕ, zero, suc, ◌+◌, ◌<◌, ◌≤◌, Bool, true, false, not, ◌||◌, ◌⊎◌, List, ◌==◌, ◌≢◌, slice_index_or, Option, Some, None}
use Rattle.std.proofs.Math.Path.{refl, sym, ap}
use Rattle.std.proofs.Common.{◌∙◌, ap₂, inl, inr, true≢false, add-one, eqb-true, eq-eqb, ne_eqb}
use Rattle.std.proofs.Math.Decide.{dec_lt}
use native.Mathlib.Omega.{arith}
use Rattle.std.proofs.lemmas.Bool.{eqb-false}
use Rattle.finite.specs.Decide.{Decides}
use Rattle.finite.specs.DecideLaws.{is_true, is_false, decides_and, decides_not, decides_lt, decides_eq, decides_self}
use Rattle.finite.specs.Below.{EachBelow}
use Rattle.finite.specs.LoopLaws.{first_found, first_none}
use Rattle.line.specs.declared.Kind.{Kind}
use Rattle.line.specs.declared.Segment.{Segment}
use Rattle.line.specs.declared.Line.{Line}
use Rattle.line.specs.Record.{no_segment}
use Rattle.rules.specs.declared.conflicts.Conflict.{Conflict}
use Rattle.rules.specs.declared.conflicts.Layout.{Layout}
use Rattle.rules.specs.declared.passages.Passage.{Passage}
use Rattle.rules.specs.Conflict.Directions.{directions_of, way}
use Rattle.rules.specs.Conflict.Conflicts.{or_conflict, first_conflict, gap_by, passage, keeps_after, neither_first, clash, option_of, partner_of, pair_with, pair_on, segment_conflict, conflict_of, layout_of, conflict_in}
use Rattle.rules.specs.Scan.Scanning.{neither_alone, keeps_behind, neither_behind}

-- ---- a search: nothing among the first i, and then at i nothing, or the conflict x

module _ (f : ℕ → Option Conflict) where
  pub conflict_start : first_conflict f 0 ≡ None
  unfolding first_conflict
  conflict_start = refl

  pub conflict_on : (i : ℕ) → first_conflict f i ≡ None → f i ≡ None → first_conflict f (i + 1) ≡ None
  unfolding first_conflict
  conflict_on i e h = rw (add-one, e, h)

  pub conflict_hit : (n i : ℕ) (x : Option Conflict) → i < n → first_conflict f i ≡ None → f i ≡ x → ((c : Option Conflict) → or_conflict x c ≡ x) →
      first_conflict f n ≡ x
  unfolding first_conflict
  conflict_hit zero i x l e h s = absurd (omega arith)
  conflict_hit (suc n) i x l e h s = elim (dec_lt i n) [
    | yes k ↦ rw (conflict_hit n i x k e h s) (s (f n))
    | no k ↦ (let q : i ≡ n = omega arith in rw (← q, e) h)
  ]

-- for the code that tells by the variant's tag that there is a conflict, and returns it
pub conflict_stays : (tag : Option Conflict → ℕ) → tag None ≡ 0 → (x : Option Conflict) → (tag x ≡ 1) ⊎ (tag x ≡ 2) → (c : Option Conflict) → or_conflict x c ≡ x
conflict_stays tag z None (inl h) c = absurd (omega arith)
conflict_stays tag z None (inr h) c = absurd (omega arith)
conflict_stays tag z (Some s) h c = refl

-- the same, told by which conflict it is not
pub conflict_kept : (x : Option Conflict) → (x ≡ None → ⊥) → (c : Option Conflict) → or_conflict x c ≡ x
conflict_kept None some c = absurd (some refl)
conflict_kept (Some s) some c = refl

-- ---- the gap of rule 14

-- the test of two ways, asked the other way around
way_turned : (w : Bool) (a b : ℕ) → (a == b) ≡ w → (b == a) ≡ w
way_turned true a b e = eq-eqb b a (sym (eqb-true a b e))
way_turned false a b e = ne_eqb b a (λ q. eqb-false a b e (sym q))

module _ (g : Segment) (x y : Passage) where
  -- that neither goes first, by the kind and whether the ways are the same
  abbrev neither_by : Kind → Bool → Bool
  neither_by Kind.S true = neither_alone g.following x y
  neither_by Kind.F true = neither_behind g.following x y
  neither_by Kind.D true = neither_behind g.following x y
  neither_by Kind.S false = neither_alone g.opposing x y
  neither_by Kind.F false = neither_alone g.opposing x y
  neither_by Kind.D false = false

  gap_by_lem : (k : Kind) (w : Bool) → neither_by k w ≡
      not (gap_by k w g x.departs x.arrives y.departs y.arrives || gap_by k w g y.departs y.arrives x.departs x.arrives)
  unfolding neither_alone neither_behind keeps_behind
  gap_by_lem Kind.S true = refl
  gap_by_lem Kind.F true = refl
  gap_by_lem Kind.D true = refl
  gap_by_lem Kind.S false = refl
  gap_by_lem Kind.F false = refl
  gap_by_lem Kind.D false = refl

  -- for the code's arms
  pub neither_by_lem : (k : Kind) (w r : Bool) → g.kind ≡ k → (x.way == y.way) ≡ w → r ≡ neither_by k w → r ≡ neither_first g x y
  unfolding neither_first keeps_after
  neither_by_lem k w r e f h = h ∙ gap_by_lem k w ∙ sym (rw (e, f, way_turned w x.way y.way f) refl)

-- and the same for either order of the two
pub neither_turned : (g : Segment) (x y : Passage) → neither_first g x y ≡ neither_first g y x
unfolding neither_first
neither_turned g x y = turned (keeps_after g x y) (keeps_after g y x)
  where
    turned : (a b : Bool) → not (a || b) ≡ not (b || a)
    turned true true = refl
    turned true false = refl
    turned false true = refl
    turned false false = refl

-- ---- a train's partner, a segment's pair, the lowest segment

module _ (g : Segment) (ds m : List ℕ) (p : ℕ) where
  pub decides_clash : (i j : ℕ) →
      Decides ((i < j) × ((way ds p i ≢ 0) × ((way ds p j ≢ 0) × (neither_first g (passage ds m p i) (passage ds m p j) ≡ true)))) (clash g ds m p i j)
  unfolding clash
  decides_clash i j =
      decides_and (decides_lt i j) (decides_and (decides_not (decides_eq _ _)) (decides_and (decides_not (decides_eq _ _)) (decides_self _)))

  -- for the code: what it compares, with both passages
  pub clash_below : (i j : ℕ) → j ≤ i → clash g ds m p i j ≡ false
  clash_below i j l = is_false (decides_clash i j) (λ h. omega (arith, h.0))

  pub clash_off : (i j : ℕ) (x : Passage) → x ≡ passage ds m p i → x.way ≡ 0 → clash g ds m p i j ≡ false
  clash_off i j x e o = is_false (decides_clash i j) (λ h. h.1.0 (sym (ap (λ (z : Passage). z.way) e) ∙ o))

  pub clash_other_off : (i j : ℕ) (y : Passage) → y ≡ passage ds m p j → y.way ≡ 0 → clash g ds m p i j ≡ false
  clash_other_off i j y e o = is_false (decides_clash i j) (λ h. h.1.1.0 (sym (ap (λ (z : Passage). z.way) e) ∙ o))

  module _ (i j : ℕ) (x y : Passage) (b : Bool) (one : x ≡ passage ds m p i) (other : y ≡ passage ds m p j) (tested : b ≡ neither_first g x y) where
    pub clash_here : b ≡ true → i < j → (x.way ≢ 0) → (y.way ≢ 0) → clash g ds m p i j ≡ true
    clash_here t l u v =
        is_true (decides_clash i j) (
          l,
          (
            (λ z. u (ap (λ (q : Passage). q.way) one ∙ z)),
            (
              (λ z. v (ap (λ (q : Passage). q.way) other ∙ z)),
              sym (ap₂ (neither_first g) one other) ∙ sym tested ∙ t,
            ),
          ),
        )

    pub clash-not : b ≡ false → clash g ds m p i j ≡ false
    clash-not t = is_false (decides_clash i j) (λ h. true≢false (sym h.1.1.1 ∙ sym (ap₂ (neither_first g) one other) ∙ sym tested ∙ t))

  pub partner_found : (i j n : ℕ) → j < n → clash g ds m p i j ≡ true → EachBelow j (λ k. clash g ds m p i k ≡ false) →
      Some j ≡ partner_of g ds m p n i
  unfolding partner_of
  partner_found i j n l t h = sym (ap option_of (first_found (clash g ds m p i) n j l t h))

  pub partner_none : (i n : ℕ) → EachBelow n (λ k. clash g ds m p i k ≡ false) → None ≡ partner_of g ds m p n i
  unfolding partner_of
  partner_none i n h = sym (ap option_of (first_none (clash g ds m p i) n h))

  -- no train below i has a partner
  abbrev pub NoPair : ℕ → ℕ → Type 0
  NoPair n i = first_conflict (λ k. pair_with p k (partner_of g ds m p n k)) i ≡ None

  pub pair-on : (n i : ℕ) → NoPair n i → partner_of g ds m p n i ≡ None → NoPair n (i + 1)
  pair-on n i e h = conflict_on (λ k. pair_with p k (partner_of g ds m p n k)) i e (ap (pair_with p i) h)

  pub pair_found : (n i j : ℕ) → i < n → NoPair n i → partner_of g ds m p n i ≡ Some j →
      Some (Conflict.OnSegment (record { segment = p; lower = i; higher = j })) ≡ pair_on g ds m n p
  unfolding pair_on
  pair_found n i j l e h = sym (conflict_hit (λ k. pair_with p k (partner_of g ds m p n k)) n i _ l e (ap (pair_with p i) h) (λ c. refl))

  pub pair_none : (n i : ℕ) → i ≡ n → NoPair n i → None ≡ pair_on g ds m n p
  unfolding pair_on
  pair_none n i q e = sym e ∙ ap (first_conflict (λ k. pair_with p k (partner_of g ds m p n k))) q

module _ (gs : List Segment) (ds m : List ℕ) (n : ℕ) where
  -- no segment below p has a pair
  abbrev pub NoSegment : ℕ → Type 0
  NoSegment p = segment_conflict gs ds m p n ≡ None

  pub segment-start : NoSegment 0
  unfolding segment_conflict
  segment-start = conflict_start (λ k. pair_on (slice_index_or gs k no_segment) ds m n k)

  pub segment-on : (p : ℕ) → NoSegment p → pair_on (slice_index_or gs p no_segment) ds m n p ≡ None → NoSegment (p + 1)
  unfolding segment_conflict
  segment-on p e h = conflict_on (λ k. pair_on (slice_index_or gs k no_segment) ds m n k) p e h

  pub segment_found : (segments p : ℕ) (x : Option Conflict) → p < segments → NoSegment p → pair_on (slice_index_or gs p no_segment) ds m n p ≡ x →
      ((c : Option Conflict) → or_conflict x c ≡ x) → x ≡ segment_conflict gs ds m segments n
  unfolding segment_conflict
  segment_found segments p x l e h s = sym (conflict_hit (λ k. pair_on (slice_index_or gs k no_segment) ds m n k) segments p x l e h s)

  pub segment_none : (segments p : ℕ) → p ≡ segments → NoSegment p → None ≡ segment_conflict gs ds m segments n
  segment_none segments p q e = sym e ∙ ap (λ (k : ℕ). segment_conflict gs ds m k n) q

-- ---- by the layout of a line and its table of directions

pub conflict_in_lem : (l : Line) (m : List ℕ) → conflict_in (layout_of l) (directions_of l) m ≡ conflict_of l m
unfolding conflict_in conflict_of
conflict_in_lem l m = refl

-- for the code, which makes both first
pub conflict_told : (l : Line) (m ds : List ℕ) (y : Layout) (x : Option Conflict) → y ≡ layout_of l → ds ≡ directions_of l → x ≡ conflict_in y ds m → x ≡ conflict_of l m
conflict_told l m ds y x e f h = h ∙ ap₂ (λ (y : Layout) (ds : List ℕ). conflict_in y ds m) e f ∙ conflict_in_lem l m
