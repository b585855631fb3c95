-- Trains that stand from a minute to a minute, both included: the crowd at a minute stands together at an arrival.
use Rattle.std.specs.Prelude.{◌≡◌, ℕ, zero, suc, ◌<◌, ◌≤◌, Bool, true, false, ◌⊎◌, refl}
use Rattle.std.proofs.Common.{sym, ◌∙◌, inl, inr, ⊎_elim, true≢false, arith}
use Rattle.std.proofs.Math.Decide.{dec_le}
use Rattle.finite.specs.Decide.{Decides}
use Rattle.finite.specs.DecideLaws.{is_true}
use Rattle.finite.specs.Below.{EachBelow, count}
use Rattle.finite.specs.LoopLaws.{each_more, count_grows}
use Rattle.finite.specs.BelowLaws.{count_nth}

-- one of those below n that pass the test, with the largest `a` among them
pub record Largest (a : ℕ → ℕ) (f : ℕ → Bool) (n : ℕ) : Type 0 where
  pub who : ℕ
  pub below : who < n
  pub passes : f who ≡ true
  pub most : EachBelow n (λ j. f j ≡ true → a j ≤ a who)

module _ (a : ℕ → ℕ) (f : ℕ → Bool) where
  largest_more : (n : ℕ) → EachBelow n (λ j. f j ≡ false) ⊎ Largest a f n → (b : Bool) → f n ≡ b → EachBelow (suc n) (λ j. f j ≡ false) ⊎ Largest a f (suc n)
  largest_more n (inl h) false e = inl (each_more (λ j. f j ≡ false) n h e)
  largest_more n (inl h) true e =
      inr record {
        who = n;
        below = omega arith;
        passes = e;
        most = each_more (λ j. f j ≡ true → a j ≤ a n) n (λ j l t. absurd (true≢false (sym t ∙ h j l))) (λ t. omega arith);
      }
  largest_more n (inr r) false e =
      inr record {
        who = r.who;
        below = omega arith;
        passes = r.passes;
        most = each_more (λ j. f j ≡ true → a j ≤ a r.who) n r.most (λ t. absurd (true≢false (sym t ∙ e)));
      }
  largest_more n (inr r) true e = inr (elim (dec_le (a n) (a r.who)) [
    | yes l ↦ record {
      who = r.who;
      below = omega arith;
      passes = r.passes;
      most = each_more (λ j. f j ≡ true → a j ≤ a r.who) n r.most (λ t. l);
    }
    | no l ↦ record {
      who = n;
      below = omega arith;
      passes = e;
      most = each_more (λ j. f j ≡ true → a j ≤ a n) n (λ j k t. omega (arith, r.most j k t)) (λ t. omega arith);
    }
  ])

  none_or_largest : (n : ℕ) → EachBelow n (λ j. f j ≡ false) ⊎ Largest a f n
  none_or_largest zero = inl (λ j l. absurd (omega arith))
  none_or_largest (suc n) = largest_more n (none_or_largest n) (f n) refl

  pub largest : (n i : ℕ) → i < n → f i ≡ true → Largest a f n
  largest n i l t = ⊎_elim (λ h. absurd (true≢false (sym t ∙ h i l))) (λ r. r) (none_or_largest n)

-- train i of those that pass `P` stands from `came i` to `gone i`
module _ (P : ℕ → Type 0) (came gone : ℕ → ℕ) (stands : ℕ → ℕ → Bool) (d : (t i : ℕ) → Decides (P i × (came i ≤ t) × (t ≤ gone i)) (stands t i)) where
  -- whoever stands at t stands when the last of them came
  pub crowd-arrives : (n t k : ℕ) → k < count (stands t) n → (i : ℕ) × (i < n) × P i × (came i ≤ t) × (k < count (stands (came i)) n)
  crowd-arrives n t k h =
      let s = count_nth (stands t) n 0 (omega arith) in
      let r = largest came (stands t) n s.0 s.1 s.2 in
      let w = (d t r.who).yea r.passes in
      let g = count_grows (stands t) (stands (came r.who)) n (λ j l u.
      let v = (d t j).yea u in
      is_true (d (came r.who) j) (v.0, r.most j l u, omega arith)) in
      (r.who, r.below, w.0, w.1, omega arith)
