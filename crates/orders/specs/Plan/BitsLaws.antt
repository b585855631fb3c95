-- Laws of bits and changed entries, and the bits of a mask that is a sum of powers.
use Rattle.std.specs.Prelude.{ℕ, zero, suc, ◌+◌, ◌-◌, ◌*◌, ◌/◌, ◌%◌, ◌^◌, ◌≤◌, ◌<◌, ◌≡◌, refl, ◌⊎◌, Bool, true, false, cond, List, [], ◌∷◌, length, get_or, set, eqb}
use Rattle.std.proofs.Common.{sym, ◌∙◌, ap, inl, inr, ⊎_elim, arith}
use Rattle.std.proofs.Math.Nat.{div-div-eq-div-mul, pow-succ'}
use Rattle.std.specs.Int.Bits.{bit_or, or_step, or_zero_r}
use Rattle.std.specs.Int.Count.{count_trailing_zeros, under}
use Rattle.finite.specs.Below.{sum}
use Rattle.finite.specs.LoopLaws.{one_most}
use Rattle.finite.specs.DecideLaws.{decides_eq, is_true, is_false}
use Rattle.orders.specs.Plan.Bits.{bit, in_mask, NextBit, with_bit, change}

pub bit_zero : (j : ℕ) → bit j 0 ≡ 0
unfolding bit
bit_zero zero = refl
bit_zero (suc j) = bit_zero j

pub bit_here : (j x : ℕ) → bit j (with_bit j x) ≡ 1
unfolding bit with_bit
bit_here zero x = omega arith
bit_here (suc j) x =
    let e : (with_bit j (x / 2) * 2 + x % 2) / 2 ≡ with_bit j (x / 2) = omega arith in
    rw e (bit_here j (x / 2))

pub bit_other : (j k x : ℕ) → (k ≡ j → ⊥) → bit k (with_bit j x) ≡ bit k x
unfolding bit with_bit
bit_other zero zero x n = absurd (n refl)
bit_other zero (suc k) x n =
    let e : (x / 2 * 2 + 1) / 2 ≡ x / 2 = omega arith in
    rw e
bit_other (suc j) zero x n = omega arith
bit_other (suc j) (suc k) x n =
    let e : (with_bit j (x / 2) * 2 + x % 2) / 2 ≡ with_bit j (x / 2) = omega arith in
    rw e (bit_other j k (x / 2) (λ q. n (ap suc q)))

-- ---- as a program writes them: `(x >> j) % 2`, and `x | (1 << j)`

-- bit j + k of a mask is bit k of the shifted one
bit_past : (j k i x : ℕ) → i ≡ j + k → bit i x ≡ bit k (x / 2 ^ j)
unfolding bit
bit_past zero k i x p =
    let at : i ≡ k = omega arith in
    let same : x ≡ x / 2 ^ 0 = omega arith in
    ap (λ (n : ℕ). bit n x) at ∙ ap (bit k) same
bit_past (suc j) k zero x p = absurd (omega arith)
bit_past (suc j) k (suc i) x p =
    bit_past j k i (x / 2) (omega arith) ∙ ap (bit k) (div-div-eq-div-mul x 2 (2 ^ j) ∙ ap (λ (n : ℕ). x / n) (sym (pow-succ' 2 j)))

bit_shift : (j x : ℕ) → bit j x ≡ x / 2 ^ j % 2
unfolding bit
bit_shift j x = bit_past j 0 j x (omega arith)

pub bit_of : (x j : ℕ) → eqb (x / 2 ^ j % 2) 1 ≡ in_mask x j
bit_of x j = ap (λ (b : ℕ). eqb b 1) (sym (bit_shift j x))

pub with_bit_or : (j x : ℕ) → with_bit j x ≡ bit_or x (2 ^ j)
unfolding with_bit
with_bit_or zero x = omega (arith, or_step x 1, or_zero_r (x / 2))
with_bit_or (suc j) x =
    let e : 2 ^ suc j / 2 ≡ 2 ^ j = omega (arith, pow-succ' 2 j) in
    let f : 2 ^ suc j % 2 ≡ 0 = omega (arith, pow-succ' 2 j) in
    omega (arith, or_step x (2 ^ suc j), ap (bit_or (x / 2)) e, with_bit_or j (x / 2))

-- where the entry is there, a change is a store: what a program does to its array
pub change-set : (f : ℕ → ℕ) (e : ℕ) (p : List ℕ) → e < length p → change f e p ≡ set p e (f (get_or p e 0))
unfolding change
change-set f e [] l = absurd (omega arith)
change-set f zero (x ∷ p) l = refl
change-set f (suc e) (x ∷ p) l = ap (λ (q : List ℕ). x ∷ q) (change-set f e p (omega arith))

mask_off : (x j : ℕ) → bit j x ≡ 0 → in_mask x j ≡ false
mask_off x j p = is_false (decides_eq (bit j x) 1) (λ q. omega arith)

pub mask_none : (x j : ℕ) → x ≡ 0 → in_mask x j ≡ false
mask_none x j p = mask_off x j (ap (bit j) p ∙ bit_zero j)

-- ---- the lowest bit from one on: `mask >> from`, and how many zeros stand below its lowest bit

zeros_below : (d x i : ℕ) → i < count_trailing_zeros d x → bit i x ≡ 0
unfolding bit count_trailing_zeros
zeros_below zero x i l = absurd (omega arith)
zeros_below (suc d) x i l = go (x % 2) refl i l (zeros_below d (x / 2))
  where
    go : (b : ℕ) → x % 2 ≡ b → (k : ℕ) → k < under b (count_trailing_zeros d (x / 2)) → ((j : ℕ) → j < count_trailing_zeros d (x / 2) → bit j (x / 2) ≡ 0) → bit k x ≡ 0
    go zero e zero h ih = e
    go zero e (suc k) h ih = ih k (omega arith)
    go (suc b) e k h ih = absurd (omega arith)

lowest_bit : (d x : ℕ) → count_trailing_zeros d x < d → bit (count_trailing_zeros d x) x ≡ 1
unfolding bit count_trailing_zeros
lowest_bit zero x l = absurd (omega arith)
lowest_bit (suc d) x l = go (x % 2) refl l (lowest_bit d (x / 2))
  where
    go : (b : ℕ) → x % 2 ≡ b → under b (count_trailing_zeros d (x / 2)) < suc d → (count_trailing_zeros d (x / 2) < d → bit (count_trailing_zeros d (x / 2)) (x / 2) ≡ 1) →
        bit (under b (count_trailing_zeros d (x / 2))) x ≡ 1
    go zero e h ih = ih (omega arith)
    go (suc b) e h ih = omega arith

pub next_none : (x from : ℕ) → from < 16 → x / 2 ^ from ≡ 0 → NextBit x from 16
next_none x from l z = record {
  on = omega arith;
  member = λ h. absurd (omega arith);
  none_between = λ i h k. mask_off x i (bit_past from (i - from) i x (omega arith) ∙ ap (bit (i - from)) z ∙ bit_zero (i - from));
}

pub next-some : (x from : ℕ) → NextBit x from (from + count_trailing_zeros 16 (x / 2 ^ from))
next-some x from = record {
  on = omega arith;
  member = λ h.
      let t = count_trailing_zeros 16 (x / 2 ^ from) in
      is_true (decides_eq (bit (from + t) x) 1) (bit_past from t (from + t) x refl ∙ lowest_bit 16 (x / 2 ^ from) (omega arith));
  none_between = λ i h k. mask_off x i (bit_past from (i - from) i x (omega arith) ∙ zeros_below 16 (x / 2 ^ from) (i - from) (omega arith));
}

-- ---- a mask of those below n that pass a test, as a sum

-- its lowest bit, and the others
mask_low : (f : ℕ → Bool) (n : ℕ) → sum (λ i. cond (f i) (2 ^ i) 0) (suc n) ≡ cond (f 0) 1 0 + 2 * sum (λ i. cond (f (suc i)) (2 ^ i) 0) n
unfolding sum
mask_low f zero = omega arith
mask_low f (suc n) = omega (arith, mask_low f n, double (f (suc n)))
  where
    double : (b : Bool) → cond b (2 ^ suc n) 0 ≡ 2 * cond b (2 ^ n) 0
    double true = pow-succ' 2 n
    double false = refl

mask_half : (f : ℕ → Bool) (n : ℕ) → sum (λ i. cond (f i) (2 ^ i) 0) (suc n) / 2 ≡ sum (λ i. cond (f (suc i)) (2 ^ i) 0) n
mask_half f n = omega (arith, mask_low f n, one_most (f 0))

mask_bit : (f : ℕ → Bool) (n j : ℕ) → j < n → bit j (sum (λ i. cond (f i) (2 ^ i) 0) n) ≡ cond (f j) 1 0
unfolding bit
mask_bit f zero j l = absurd (omega arith)
mask_bit f (suc n) zero l = omega (arith, mask_low f n, one_most (f 0))
mask_bit f (suc n) (suc j) l = ap (bit j) (mask_half f n) ∙ mask_bit (λ i. f (suc i)) n j (omega arith)

no_bit : (f : ℕ → Bool) (n j : ℕ) → n ≤ j → bit j (sum (λ i. cond (f i) (2 ^ i) 0) n) ≡ 0
unfolding bit sum
no_bit f zero j l = bit_zero j
no_bit f (suc n) zero l = absurd (omega arith)
no_bit f (suc n) (suc j) l = ap (bit j) (mask_half f n) ∙ no_bit (λ i. f (suc i)) n j (omega arith)

pub mask_in : (f : ℕ → Bool) (n j : ℕ) → j < n → in_mask (sum (λ i. cond (f i) (2 ^ i) 0) n) j ≡ f j
mask_in f n j l = ap (λ (x : ℕ). eqb x 1) (mask_bit f n j l) ∙ told (f j)
  where
    told : (b : Bool) → eqb (cond b 1 0) 1 ≡ b
    told true = refl
    told false = refl

pub mask_past : (f : ℕ → Bool) (n j : ℕ) → n ≤ j → in_mask (sum (λ i. cond (f i) (2 ^ i) 0) n) j ≡ false
mask_past f n j l = ap (λ (x : ℕ). eqb x 1) (no_bit f n j l)

-- ---- an entry after a change

pub change_cases : (f : ℕ → ℕ) (e : ℕ) (p : List ℕ) (d : ℕ) →
    ((d ≡ e → ⊥) × (get_or (change f e p) d 0 ≡ get_or p d 0)) ⊎ ((d ≡ e) × (get_or (change f e p) d 0 ≡ f (get_or p d 0)))
unfolding change
change_cases f zero [] zero = inr (refl, refl)
change_cases f zero [] (suc d) = inl ((λ q. omega arith), refl)
change_cases f zero (x ∷ p) zero = inr (refl, refl)
change_cases f zero (x ∷ p) (suc d) = inl ((λ q. omega arith), refl)
change_cases f (suc e) [] zero = inl ((λ q. omega arith), refl)
change_cases f (suc e) [] (suc d) = ⊎_elim (λ h. inl ((λ q. h.0 (omega arith)), h.1)) (λ h. inr (ap suc h.0, h.1)) (change_cases f e [] d)
change_cases f (suc e) (x ∷ p) zero = inl ((λ q. omega arith), refl)
change_cases f (suc e) (x ∷ p) (suc d) = ⊎_elim (λ h. inl ((λ q. h.0 (omega arith)), h.1)) (λ h. inr (ap suc h.0, h.1)) (change_cases f e p d)
