-- Laws for loops over the numbers below n: a step and the end of each kind of loop, and what its answer says.
use Prim.Native.Nat.{ℕ, zero, suc, ◌+◌, ◌≤◌, ◌<◌, max}
use Rattle.std.specs.Prelude.{◌≡◌, Bool, true, false, cond, List, [], ◌++◌}
use Rattle.std.proofs.Math.Path.{refl}
use Rattle.std.proofs.Common.{sym, ◌∙◌, ap, subst, true≢false}
use Rattle.std.proofs.lemmas.Bool.{false≢true}
use Rattle.std.proofs.Math.Option.{Option, some, none}
use Rattle.std.proofs.Math.Decide.{dec_lt}
use Rattle.std.proofs.Math.Numerals.{add-one}
use native.Mathlib.Omega.{arith}
use Rattle.finite.specs.Decide.{Decides}
use Rattle.finite.specs.DecideLaws.{decides_and}
use Rattle.finite.specs.Below.{EachBelow, EachFrom, or_else, first, gather, all, count, sum, most, IsFirst}

pub each_more : (P : ℕ → Type 0) (n : ℕ) → EachBelow n P → P n → EachBelow (suc n) P
each_more P n h p i l = elim (dec_lt i n) [ yes k ↦ h i k | no k ↦ subst P (let e : n ≡ i = omega arith in e) p ]

pub each_first : (P : ℕ → Type 0) (k j : ℕ) → P j → EachFrom k (j + 1) P → EachFrom (suc k) j P
each_first P k j p h i low high =
    elim (dec_lt j i) [ yes l ↦ h i (omega arith) (omega arith) | no l ↦ subst P (let e : j ≡ i = omega arith in e) p ]

-- what one number adds to a count
pub one_most : (b : Bool) → cond b 1 0 ≤ 1
one_most true = omega arith
one_most false = omega arith

module _ (f : ℕ → Bool) where
  first_more : (n : ℕ) (o : Option ℕ) → IsFirst f n o → (b : Bool) → f n ≡ b → IsFirst f (suc n) (or_else o (cond b (some n) none))
  first_more n none h true e = (omega arith, e, h)
  first_more n none h false e = each_more (λ j. f j ≡ false) n h e
  first_more n (some i) h b e = (omega arith, h.1, h.2)

  pub first_is : (n : ℕ) → IsFirst f n (first f n)
  unfolding first
  first_is zero = λ j l. absurd (omega arith)
  first_is (suc n) = first_more n (first f n) (first_is n) (f n) refl

  -- two first numbers are the same: neither is below the other
  same_first : (i j : ℕ) → f i ≡ true → f j ≡ true → EachBelow i (λ k. f k ≡ false) → EachBelow j (λ k. f k ≡ false) → i ≡ j
  same_first i j p q h k =
      let l : ¬ (i < j) = λ n. true≢false (sym p ∙ k i n) in
      let g : ¬ (j < i) = λ n. true≢false (sym q ∙ h j n) in
      omega arith

  -- the answer is the only one of which that holds
  pub first_only : (n : ℕ) (o p : Option ℕ) → IsFirst f n o → IsFirst f n p → o ≡ p
  first_only n none none h k = refl
  first_only n none (some i) h k = absurd (true≢false (sym k.1 ∙ h i k.0))
  first_only n (some i) none h k = absurd (true≢false (sym h.1 ∙ k i h.0))
  first_only n (some i) (some j) h k = ap some (same_first i j h.1 k.1 h.2 k.2)

  -- for a loop's return with i, and for its end
  pub first_found : (n i : ℕ) → i < n → f i ≡ true → EachBelow i (λ j. f j ≡ false) → first f n ≡ some i
  first_found n i l t h = first_only n (first f n) (some i) (first_is n) (l, t, h)

  pub first_none : (n : ℕ) → EachBelow n (λ j. f j ≡ false) → first f n ≡ none
  first_none n h = first_only n (first f n) none (first_is n) h

  -- what the answer says
  pub none_first : (n : ℕ) → first f n ≡ none → EachBelow n (λ j. f j ≡ false)
  none_first n e = subst (IsFirst f n) e (first_is n)

  -- a loop's step and its end, for `count` and `sum`; the loop's number is i + 1, a clause's suc i
  pub count-more : (i : ℕ) → count f (i + 1) ≡ count f i + cond (f i) 1 0
  unfolding count
  count-more i = rw add-one

  pub count_none : 0 ≡ count f 0
  unfolding count
  count_none = refl

  pub count_in : (i k : ℕ) → f i ≡ true → k ≡ count f i → k + 1 ≡ count f (i + 1)
  count_in i k t e = rw (count-more, t) (omega arith)

  pub count_out : (i k : ℕ) → f i ≡ false → k ≡ count f i → k ≡ count f (i + 1)
  count_out i k t e = rw (count-more, t) (omega arith)

  pub count_most : (n : ℕ) → count f n ≤ n
  unfolding count
  count_most zero = omega arith
  count_most (suc n) = omega (arith, count_most n, one_most (f n))

pub sum_more : (f : ℕ → ℕ) (i : ℕ) → sum f (i + 1) ≡ sum f i + f i
unfolding sum
sum_more f i = rw add-one

pub most_none : (f : ℕ → ℕ) → most f 0 ≡ 0
unfolding most
most_none f = refl

pub most-more : (f : ℕ → ℕ) (i : ℕ) → most f (i + 1) ≡ max (most f i) (f i)
unfolding most
most-more f i = rw add-one

pub gather-more : {A : Type 0} (f : ℕ → List A) (i : ℕ) → gather f (i + 1) ≡ gather f i ++ f i
unfolding gather
gather-more f i = rw add-one

pub gather_none : {A : Type 0} (f : ℕ → List A) → [] ≡ gather f 0
unfolding gather
gather_none f = refl

-- the test of every number decides the statement of every number
pub decides_all : (P : ℕ → Type 0) (f : ℕ → Bool) (n : ℕ) → ((i : ℕ) → i < n → Decides (P i) (f i)) → Decides (EachBelow n P) (all f n)
unfolding all
decides_all P f zero d = record { yea = λ e i l. absurd (omega arith); nay = λ e h. true≢false e }
decides_all P f (suc n) d =
    let p = decides_and (decides_all P f n (λ i l. d i (omega arith))) (d n (omega arith)) in
    record { yea = λ e. each_more P n (p.yea e).0 (p.yea e).1; nay = λ e h. p.nay e ((λ i l. h i (omega arith)), h n (omega arith)) }

-- where one test implies another, it holds at no more numbers
pub count_grows : (f g : ℕ → Bool) (n : ℕ) → EachBelow n (λ i. f i ≡ true → g i ≡ true) → count f n ≤ count g n
unfolding count
count_grows f g zero h = omega arith
count_grows f g (suc n) h = omega (arith, count_grows f g n (λ i l. h i (omega arith)), here (f n) (g n) (h n (omega arith)))
  where
    here : (a b : Bool) → (a ≡ true → b ≡ true) → cond a 1 0 ≤ cond b 1 0
    here true true k = omega arith
    here true false k = absurd (false≢true (k refl))
    here false b k = omega arith
