-- The first n elements of a list, of which i are done: what is left begins with element i, or is nothing.
use Rattle.std.specs.Prelude.{ℕ, suc, ◌+◌, ◌<◌, ◌≡◌, List, [], ◌∷◌, length, get_or, take, drop}
use Rattle.std.proofs.Common.{sym, ap, ◌∙◌, arith, add-one, drop-cons, get_or-take}
use Rattle.std.proofs.Math.Seq.{drop-length}

module _ {A : Type 0} (n : ℕ) (xs : List A) (i : ℕ) (full : length (take n xs) ≡ n) where
  pub left_cons : (d : A) → i < n → drop i (take n xs) ≡ get_or xs i d ∷ drop (i + 1) (take n xs)
  left_cons d h =
      rw (add-one i) (
      drop-cons (take n xs) i d (omega arith)
      ∙ ap (λ (x : A). x ∷ drop (suc i) (take n xs)) (get_or-take n xs i d h)
      )

  pub left_none : i ≡ n → drop i (take n xs) ≡ []
  left_none e = ap (λ (k : ℕ). drop k (take n xs)) (e ∙ sym full) ∙ drop-length (take n xs)
