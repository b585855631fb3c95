-- Laws of the walk's scan for the lowest conflict: a segment that was clear is clear where no train with other minutes is in conflict, and the segments
-- below a lowest conflict are clear. Assumes nothing.
use Rattle.std.specs.Prelude.{ℕ, ◌+◌, ◌*◌, ◌-◌, ◌≤◌, ◌<◌, ◌≡◌, ◌⊎◌, Bool, true, false, List, get_or, Option, Some, None}
use Rattle.std.proofs.Common.{sym, ◌∙◌, ap, ap₂}
use Rattle.std.proofs.Math.Logic.{inl, ⊎_elim}
use Rattle.std.proofs.Math.Bool.{true≢false}
use native.Mathlib.Omega.{arith}
use borrow.Author.Count.{below_more}
use Rattle.finite.specs.DecideLaws.{is_true, is_false, decides_not, decides_eq}
use Rattle.finite.specs.Below.{EachBelow}
use Rattle.line.specs.declared.Segment.{Segment}
use Rattle.line.specs.Record.{no_segment}
use Rattle.rules.specs.declared.conflicts.Conflict.{Conflict}
use Rattle.rules.specs.declared.conflicts.Layout.{Layout}
use Rattle.rules.specs.declared.passages.Passage.{Passage}
use Rattle.rules.specs.Conflict.Directions.{way, on}
use Rattle.rules.specs.Conflict.Conflicts.{passage, neither_first, pair_on, conflict_in}
use Rattle.rules.specs.Conflict.ConflictsLaws.{neither_turned, decides_clash, NoSegment, segment-start}
use Rattle.rules.specs.Scan.StationLaws.{none_clash, clash_none, segment_each}
use Rattle.rules.specs.Conflict.LowestLaws.{NoneBelow, none_below}
use Rattle.walk.specs.Scanning.{SameRow, SameOn, SameTimes, InNoConflict, ChangedApart, ClearBelow, clear_segments}

-- ---- a segment that had no conflict has none where no train with other minutes is in conflict

pub row_same : (m former : List ℕ) (b i : ℕ) → 16 ≤ i → EachBelow i (λ j. get_or m (b + j) 0 ≡ get_or former (b + j) 0) → SameRow m former b
unfolding SameRow
row_same m former b i l h j k = h j (omega arith)

module _ (g : Segment) (ds m : List ℕ) (p i : ℕ) where
  -- train i is not in conflict with train j
  abbrev pub ApartFrom : ℕ → Type 0
  ApartFrom j = (j ≡ i → ⊥) → on ds p i ≡ true → on ds p j ≡ true → neither_first g (passage ds m p i) (passage ds m p j) ≡ false

  pub apart_each : (n j : ℕ) → n ≤ j → EachBelow j ApartFrom → InNoConflict g ds m p n i
  unfolding InNoConflict
  apart_each n j l h k a = h k (omega arith)

  -- for the code: what it compares, with both passages
  pub apart_off : (n : ℕ) (x : Passage) → x ≡ passage ds m p i → x.way ≡ 0 → InNoConflict g ds m p n i
  unfolding InNoConflict
  apart_off n x e o j l d u v = absurd ((decides_not (decides_eq (way ds p i) 0)).yea u (sym (ap (λ (z : Passage). z.way) e) ∙ o))

  pub apart_other_off : (j : ℕ) (y : Passage) → y ≡ passage ds m p j → y.way ≡ 0 → ApartFrom j
  apart_other_off j y e o d u v = absurd ((decides_not (decides_eq (way ds p j) 0)).yea v (sym (ap (λ (z : Passage). z.way) e) ∙ o))

  pub apart_tested : (j : ℕ) (x y : Passage) (b : Bool) → x ≡ passage ds m p i → y ≡ passage ds m p j → b ≡ neither_first g x y → b ≡ false → ApartFrom j
  apart_tested j x y b one other tested f d u v = sym (ap₂ (neither_first g) one other) ∙ sym tested ∙ f

module _ (g : Segment) (ds m former : List ℕ) (p n : ℕ) where
  pub changed_start : ChangedApart g ds m former p n 0
  unfolding ChangedApart
  changed_start i l = absurd (omega arith)

  pub changed_more : (i : ℕ) → ChangedApart g ds m former p n i → SameTimes m former p i ⊎ InNoConflict g ds m p n i → ChangedApart g ds m former p n (i + 1)
  unfolding ChangedApart
  changed_more i h k = below_more (λ j. SameTimes m former p j ⊎ InNoConflict g ds m p n j) i h k

  pub changed_all : (i : ℕ) → n ≤ i → ChangedApart g ds m former p n i → ChangedApart g ds m former p n n
  unfolding ChangedApart
  changed_all i b h j l = h j (omega arith)

  -- where all minutes are the same, none changed
  pub same_changed : n ≤ 16 → SameOn m former p → ChangedApart g ds m former p n n
  unfolding ChangedApart SameRow
  same_changed b same i l =
      let a : 176 + 16 * p + i ≡ 176 + (16 * p + i) = omega arith in
      inl (same.0 i (omega arith), rw a at (same.1 i (omega arith)))

  -- two trains at their former minutes are in conflict only if they were; one with other minutes is in none
  pub changed_clear : pair_on g ds former n p ≡ None → ChangedApart g ds m former p n n → pair_on g ds m n p ≡ None
  unfolding ChangedApart InNoConflict
  changed_clear e h =
      clash_none g ds m n p (λ i a j b. is_false (decides_clash g ds m p i j) (λ c.
      let u = is_true (decides_not (decides_eq (way ds p i) 0)) c.1.0 in
      let v = is_true (decides_not (decides_eq (way ds p j) 0)) c.1.1.0 in
      ⊎_elim
      (λ s. ⊎_elim
      (λ t. (decides_clash g ds former p i j).nay (none_clash g ds former n p e i a j b)
      (c.0, (c.1.0, (c.1.1.0, rw (← s.0, ← s.1, ← t.0, ← t.1) c.1.1.1))))
      (λ t. true≢false (sym c.1.1.1 ∙ neither_turned g (passage ds m p i) (passage ds m p j) ∙ t i a (λ q. omega (arith, c.0)) v u))
      (h j b))
      (λ s. true≢false (sym c.1.1.1 ∙ s j b (λ q. omega (arith, c.0)) u v))
      (h i a)))

-- what it says that the segments below `clear` have no conflict
module _ (y : Layout) (ds m : List ℕ) (clear : ℕ) (h : ClearBelow y ds m clear) where
  pub clear_within : clear ≤ y.stations - 1
  unfolding ClearBelow
  clear_within = h.0

  pub clear_below : NoSegment y.segments ds m y.trains clear
  unfolding ClearBelow
  clear_below = h.1

  pub clear_at : (p : ℕ) → p < clear → pair_on (get_or y.segments p no_segment) ds m y.trains p ≡ None
  clear_at p l = segment_each y.segments ds m y.trains clear clear_below p l

-- for the code, which comes to segment p among those that had no conflict at the former minutes, and returns its number
pub clear_first : (y : Layout) (ds m former : List ℕ) (clear p r : ℕ) → ClearBelow y ds former clear → r ≡ p → p ≤ clear →
    NoSegment y.segments ds m y.trains p → ClearBelow y ds m r
unfolding ClearBelow
clear_first y ds m former clear p r h q l e = rw q (omega (arith, h.0), e)

-- ---- the segments below the lowest conflict

module _ (y : Layout) (ds m : List ℕ) where
  pub clear_none : ClearBelow y ds m 0
  unfolding ClearBelow
  clear_none = (omega arith, segment-start y.segments ds m y.trains)

  clear_by : (c : Option Conflict) → NoneBelow y ds m c → ClearBelow y ds m (clear_segments y c)
  unfolding ClearBelow
  clear_by None h = (omega arith, h)
  clear_by (Some (Conflict.OnSegment x)) h = (omega arith, h.1)
  clear_by (Some (Conflict.AtStation x)) h = (omega arith, h)

  pub clear_told : (c : Option Conflict) → c ≡ conflict_in y ds m → ClearBelow y ds m (clear_segments y c)
  clear_told c e = clear_by c (none_below y ds m c e)
