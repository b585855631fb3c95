-- What the code needs that tests each number of a range by the library's `all`.
use Rattle.std.specs.Prelude.{◌≡◌, ℕ, ◌<◌, Bool, true, false, length, get_or}
use Rattle.std.specs.List.{range_with_len, AllWithin, HoldsAt}
use Rattle.std.specs.Bool.{MatchBool}
use Rattle.std.proofs.Common.{sym, subst, arith}
use Rattle.std.proofs.lemmas.List.FromFn.{length-range_with_len, get_or-range_with_len}
use Rattle.finite.specs.Decide.{Decides}
use Rattle.finite.specs.DecideLaws.{is_true, is_false}
use Rattle.finite.specs.Below.{all}
use Rattle.finite.specs.LoopLaws.{decides_all}

-- whether every number below n passes
module _ (P : ℕ → Type 0) (test : ℕ → Bool) (n : ℕ) (decides : (k : ℕ) → Decides (P k) (test k)) where
  pub all_told : (r : Bool) →
      MatchBool r (AllWithin P (range_with_len 0 n) 0 (length (range_with_len 0 n)))
      ((k : ℕ) × (k < length (range_with_len 0 n)) × HoldsAt (λ x. P x → ⊥) (range_with_len 0 n) k) → r ≡ all test n
  all_told true h =
      sym (is_true (decides_all P test n (λ k _. decides k))
      (λ k b.
      let at : get_or (range_with_len 0 n) k 0 ≡ k = omega (arith, get_or-range_with_len 0 n k 0 b) in
      subst P at (h k 0 (omega arith) (omega (arith, b, length-range_with_len 0 n)))))
  all_told false (k, b, h) =
      let low : k < n = omega (arith, b, length-range_with_len 0 n) in
      let at : get_or (range_with_len 0 n) k 0 ≡ k = omega (arith, get_or-range_with_len 0 n k 0 low) in
      sym (is_false (decides_all P test n (λ k _. decides k)) (λ g. subst (λ x. P x → ⊥) at (h 0) (g k low)))
