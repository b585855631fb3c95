-- Laws of sums: of parts, of one term, and of rows and columns.
use Rattle.std.specs.Prelude.{ℕ, zero, suc, ◌+◌, ◌*◌, ◌<◌, ◌≡◌, refl}
use Rattle.std.proofs.Common.{sym, ◌∙◌, ap, mul-zero, mul-suc, arith}
use Rattle.std.proofs.Math.Decide.{dec_lt}
use Rattle.finite.specs.Below.{EachBelow, sum}
use Rattle.finite.specs.BelowLaws.{sum_same}

pub sum_none : (f : ℕ → ℕ) (n : ℕ) → EachBelow n (λ i. f i ≡ 0) → sum f n ≡ 0
unfolding sum
sum_none f zero h = refl
sum_none f (suc n) h = omega (arith, sum_none f n (λ i b. h i (omega arith)), h n (omega arith))

sum_both : (f g : ℕ → ℕ) (n : ℕ) → sum (λ i. f i + g i) n ≡ sum f n + sum g n
unfolding sum
sum_both f g zero = refl
sum_both f g (suc n) = omega (arith, sum_both f g n)

-- one term is more by d, and every other is the same
pub sum_one : (f g : ℕ → ℕ) (e d n : ℕ) → e < n → f e ≡ g e + d → EachBelow n (λ i. (i ≡ e → ⊥) → f i ≡ g i) → sum f n ≡ sum g n + d
unfolding sum
sum_one f g e d zero l p o = absurd (omega arith)
sum_one f g e d (suc n) l p o = elim (dec_lt e n) [
  | yes s ↦ omega (arith, sum_one f g e d n s p (λ i k. o i (omega arith)), o n (omega arith) (λ z. omega arith))
  | no s ↦
      let last : n ≡ e = omega arith in
      omega (arith, sum_same f g n (λ i k. o i (omega arith) (λ z. omega arith)), ap f last, ap g last)
]

-- one term is all there is
pub sum_only : (f : ℕ → ℕ) (n x : ℕ) → x < n → EachBelow n (λ i. (i ≡ x → ⊥) → f i ≡ 0) → sum f n ≡ f x
sum_only f n x b h =
    let alone : f x ≡ 0 + f x = omega arith in
    omega (arith, sum_one f (λ i. 0) x (f x) n b alone h, sum_none (λ i. 0) n (λ i c. refl))

-- the first a terms and the b after them
pub sum-parts : (f : ℕ → ℕ) (a b : ℕ) → sum f (a + b) ≡ sum f a + sum (λ i. f (a + i)) b
unfolding sum
sum-parts f a zero =
    let same : a + 0 ≡ a = omega arith in
    omega (arith, ap (sum f) same)
sum-parts f a (suc b) =
    let next : a + suc b ≡ suc (a + b) = omega arith in
    omega (arith, ap (sum f) next, sum-parts f a b)

-- n rows of k terms, by columns
pub sum_columns : (f : ℕ → ℕ) (k n : ℕ) → sum f (k * n) ≡ sum (λ i. sum (λ p. f (k * p + i)) n) k
unfolding sum
sum_columns f k zero =
    let same : k * 0 ≡ 0 = mul-zero k in
    ap (sum f) same ∙ sym (sum_none (λ i. 0) k (λ i b. refl))
sum_columns f k (suc n) =
    let next : k * suc n ≡ k * n + k = mul-suc k n in
    ap (sum f) next ∙ sum-parts f (k * n) k ∙ ap (λ (x : ℕ). x + sum (λ i. f (k * n + i)) k) (sum_columns f k n) ∙
    sym (sum_both (λ i. sum (λ p. f (k * p + i)) n) (λ i. f (k * n + i)) k)
