-- Laws of counts, sums, tables and lists over the numbers below n.
use Prim.Native.Nat.{ℕ, zero, suc, ◌+◌, ◌*◌, ◌≤◌, ◌<◌, min}
use Rattle.std.specs.Prelude.{◌≡◌, refl, Bool, true, false, cond, ◌&&◌, leb, ltb, length, get_or}
use Rattle.std.proofs.Common.{sym, ap, ◌∙◌, subst, suc-mul, length-append, leb-true, leb-false, lt-ltb, le-ltb}
use Rattle.std.proofs.Math.Logic.{⊎_elim}
use mathlib.Core.List.Memᴰ
use mathlib.Core.List.{List, Memᴰ}
use Rattle.std.proofs.Math.Decide.{dec_lt, ℕ_discrete}
use native.Mathlib.Omega.{arith}
use Rattle.finite.specs.Below.{EachBelow, first, gather, table, all, count, sum, most}
use Rattle.finite.specs.LoopLaws.{each_more}
use Rattle.finite.specs.Each.{Each}
use Rattle.finite.specs.EachLaws.{each_append, each_parts}

-- ---- counts and sums

-- the one with k before it, where more than k pass the test; with k = 0, where any does
pub count_nth : (f : ℕ → Bool) (n k : ℕ) → k < count f n → (i : ℕ) × (i < n) × (f i ≡ true) × (count f i ≡ k)
unfolding count
count_nth f zero k h = absurd (omega arith)
count_nth f (suc n) k h = elim (dec_lt k (count f n)) [
  | yes l ↦ let r = count_nth f n k l in (r.0, omega arith, r.2, r.3)
  | no l ↦ last (f n) refl h (omega arith)
]
  where
    last : (b : Bool) → f n ≡ b → k < count f n + cond b 1 0 → count f n ≤ k → (i : ℕ) × (i < suc n) × (f i ≡ true) × (count f i ≡ k)
    last true e h l = (n, omega arith, e, omega arith)
    last false e h l = absurd (omega arith)

-- of those that pass the test, the lowest k + 1 are k + 1, or all
pub count_lowest : (f : ℕ → Bool) (n k : ℕ) → count (λ i. f i && leb (count f i) k) n ≡ min (count f n) (k + 1)
unfolding count
count_lowest f zero k = omega arith
count_lowest f (suc n) k = more (f n) (leb (count f n) k) refl (count_lowest f n k)
  where
    more : (x y : Bool) → leb (count f n) k ≡ y → count (λ i. f i && leb (count f i) k) n ≡ min (count f n) (k + 1) →
        count (λ i. f i && leb (count f i) k) n + cond (x && y) 1 0 ≡ min (count f n + cond x 1 0) (k + 1)
    more true true e h = omega (arith, leb-true (count f n) k e)
    more true false e h = omega (arith, leb-false (count f n) k e)
    more false y e h = omega arith

pub count_same : (f g : ℕ → Bool) (n : ℕ) → EachBelow n (λ i. f i ≡ g i) → count f n ≡ count g n
unfolding count
count_same f g zero h = refl
count_same f g (suc n) h = rw (count_same f g n (λ i a. h i (omega arith)), h n (omega arith)) refl

pub all_same : (f g : ℕ → Bool) (n : ℕ) → EachBelow n (λ i. f i ≡ g i) → all f n ≡ all g n
unfolding all
all_same f g zero h = refl
all_same f g (suc n) h = rw (all_same f g n (λ i a. h i (omega arith)), h n (omega arith)) refl

pub first-same : (f g : ℕ → Bool) (n : ℕ) → EachBelow n (λ i. f i ≡ g i) → first f n ≡ first g n
unfolding first
first-same f g zero h = refl
first-same f g (suc n) h = rw (first-same f g n (λ i a. h i (omega arith)), h n (omega arith)) refl

pub count_never : (f : ℕ → Bool) (n : ℕ) → EachBelow n (λ i. f i ≡ false) → count f n ≡ 0
unfolding count
count_never f zero h = refl
count_never f (suc n) h = rw (count_never f n (λ i a. h i (omega arith)), h n (omega arith)) refl

-- a count of those below n alone
pub count_within : (f : ℕ → Bool) (n k : ℕ) → n ≤ k → count (λ i. ltb i n && f i) k ≡ count f n
unfolding count
count_within f n zero l = let e : n ≡ 0 = omega arith in rw e refl
count_within f n (suc k) l = elim (ℕ_discrete n (suc k)) [
  | yes e ↦ count_same _ _ (suc k) (λ i o. rw (lt-ltb i n (omega arith)) refl) ∙ ap (count f) (sym e)
  | no e ↦ rw (le-ltb k n (omega arith)) (omega (arith, count_within f n k (omega arith)))
]

pub sum_same : (f g : ℕ → ℕ) (n : ℕ) → EachBelow n (λ i. f i ≡ g i) → sum f n ≡ sum g n
unfolding sum
sum_same f g zero h = refl
sum_same f g (suc n) h = rw (sum_same f g n (λ i a. h i (omega arith)), h n (omega arith)) refl

pub sum_grows : (f g : ℕ → ℕ) (n : ℕ) → EachBelow n (λ i. f i ≤ g i) → sum f n ≤ sum g n
unfolding sum
sum_grows f g zero h = omega arith
sum_grows f g (suc n) h = omega (arith, sum_grows f g n (λ i l. h i (omega arith)), h n (omega arith))

pub sum-most : (f : ℕ → ℕ) (k n : ℕ) → EachBelow n (λ i. f i ≤ k) → sum f n ≤ n * k
unfolding sum
sum-most f k zero h = omega arith
sum-most f k (suc n) h = omega (arith, suc-mul n k, sum-most f k n (λ i l. h i (omega arith)), h n (omega arith))

-- ---- what the numbers below n give

pub gather-same : {A : Type 0} (f g : ℕ → List A) (n : ℕ) → EachBelow n (λ i. f i ≡ g i) → gather f n ≡ gather g n
unfolding gather
gather-same f g zero h = refl
gather-same f g (suc n) h = rw (gather-same f g n (λ i a. h i (omega arith)), h n (omega arith)) refl

pub gather-length : {A : Type 0} (f : ℕ → List A) (n : ℕ) → length (gather f n) ≡ sum (λ i. length (f i)) n
unfolding gather sum
gather-length f zero = refl
gather-length f (suc n) = length-append (gather f n) (f n) ∙ ap (λ (k : ℕ). k + length (f n)) (gather-length f n)

pub gather_each : {A : Type 0} (P : A → Type 0) (f : ℕ → List A) (n : ℕ) → EachBelow n (λ i. Each P (f i)) → Each P (gather f n)
unfolding gather
gather_each P f zero h = tt
gather_each P f (suc n) h = each_append P (gather f n) (f n) (gather_each P f n (λ i l. h i (omega arith))) (h n (omega arith))

pub gather-parts : {A : Type 0} (P : A → Type 0) (f : ℕ → List A) (n : ℕ) → Each P (gather f n) → EachBelow n (λ i. Each P (f i))
unfolding gather
gather-parts P f zero h = λ i l. absurd (omega arith)
gather-parts P f (suc n) h =
    let r = each_parts P (gather f n) (f n) h in
    each_more (λ i. Each P (f i)) n (gather-parts P f n r.0) r.1

-- its members are those of each

module _ {A : Type 0} {x : A} where
  pub gather_in : (f : ℕ → List A) (n i : ℕ) → i < n → Memᴰ x (f i) → Memᴰ x (gather f n)
  unfolding gather
  gather_in f zero i l k = absurd (omega arith)
  gather_in f (suc n) i l k = elim (dec_lt i n) [
    | yes h ↦ Memᴰ.append_left (f n) (gather_in f n i h k)
    | no h ↦ Memᴰ.append_right (gather f n) (subst (λ j. Memᴰ x (f j)) (let e : i ≡ n = omega arith in e) k)
  ]

  pub gather-from : (f : ℕ → List A) (n : ℕ) → Memᴰ x (gather f n) → (i : ℕ) × (i < n) × Memᴰ x (f i)
  unfolding gather
  gather-from f zero k = absurd (Memᴰ.not-nil k)
  gather-from f (suc n) k =
      ⊎_elim
      (λ h. let r = gather-from f n h in (r.0, omega arith, r.2))
      (λ h. (n, omega arith, h))
      (Memᴰ.append_cases (gather f n) k)

-- ---- tables

pub table_at : (f : ℕ → ℕ) (n e : ℕ) → e < n → get_or (table f n) e 0 ≡ f e
unfolding table
table_at f zero e l = absurd (omega arith)
table_at f (suc n) zero l = refl
table_at f (suc n) (suc e) l = table_at (λ i. f (suc i)) n e (omega arith)

pub table_past : (f : ℕ → ℕ) (n e : ℕ) → n ≤ e → get_or (table f n) e 0 ≡ 0
unfolding table
table_past f zero e l = refl
table_past f (suc n) zero l = absurd (omega arith)
table_past f (suc n) (suc e) l = table_past (λ i. f (suc i)) n e (omega arith)

pub table_grows : (f g : ℕ → ℕ) (n e : ℕ) → EachBelow n (λ i. f i ≤ g i) → get_or (table f n) e 0 ≤ get_or (table g n) e 0
table_grows f g n e h = elim (dec_lt e n) [
  | yes l ↦ omega (arith, table_at f n e l, table_at g n e l, h e l)
  | no l ↦ omega (arith, table_past f n e (omega arith))
]

pub table_size_lem : (f : ℕ → ℕ) (n : ℕ) → length (table f n) ≡ n
unfolding table
table_size_lem f zero = refl
table_size_lem f (suc n) = ap suc (table_size_lem (λ e. f (suc e)) n)

-- ---- the greatest

-- none below n is over it
pub most_over : (f : ℕ → ℕ) (n j : ℕ) → j < n → f j ≤ most f n
unfolding most
most_over f zero j b = absurd (omega arith)
most_over f (suc n) j b = elim (dec_lt j n) [
  | yes h ↦ omega (arith, most_over f n j h)
  | no h ↦ (let same : j ≡ n = omega arith in rw same (omega arith))
]

-- it is at most what all of them are at most
pub most-least : (f : ℕ → ℕ) (n x : ℕ) → EachBelow n (λ j. f j ≤ x) → most f n ≤ x
unfolding most
most-least f zero x h = omega arith
most-least f (suc n) x h = omega (arith, most-least f n x (λ j b. h j (omega arith)), h n (omega arith))
