-- Laws of a list in which one element is altered: its length, its elements, its first ones, and what holds of each.
use Rattle.std.specs.Prelude.{ℕ, zero, suc, ◌<◌, ◌≡◌, refl, List, [], ◌∷◌, ◌++◌, map, length, get_or, set, take}
use Rattle.std.proofs.Common.{ap, arith}
use Rattle.finite.specs.Each.{Each}
use Rattle.finite.specs.Alter.{altered}

module _ {A : Type 0} (f : A → A) where
  pub altered-length : (i : ℕ) (xs : List A) → length (altered f i xs) ≡ length xs
  altered-length i [] = refl
  altered-length zero (x ∷ xs) = refl
  altered-length (suc i) (x ∷ xs) = ap suc (altered-length i xs)

  -- as a store into an array does it, whatever stands past the last
  pub altered-set : (i : ℕ) (xs : List A) (d : A) → i < length xs → set xs i (f (get_or xs i d)) ≡ altered f i xs
  altered-set i [] d h = absurd (omega arith)
  altered-set zero (x ∷ xs) d h = refl
  altered-set (suc i) (x ∷ xs) d h = ap (λ (ys : List A). x ∷ ys) (altered-set i xs d (omega arith))

  pub altered_at : (i : ℕ) (xs : List A) (d : A) → i < length xs → get_or (altered f i xs) i d ≡ f (get_or xs i d)
  altered_at i [] d h = absurd (omega arith)
  altered_at zero (x ∷ xs) d h = refl
  altered_at (suc i) (x ∷ xs) d h = altered_at i xs d (omega arith)

  pub altered_other : (i : ℕ) (xs : List A) (j : ℕ) (d : A) → (j ≡ i → ⊥) → get_or (altered f i xs) j d ≡ get_or xs j d
  altered_other i [] j d h = refl
  altered_other zero (x ∷ xs) zero d h = absurd (h refl)
  altered_other zero (x ∷ xs) (suc j) d h = refl
  altered_other (suc i) (x ∷ xs) zero d h = refl
  altered_other (suc i) (x ∷ xs) (suc j) d h = altered_other i xs j d (λ e. h (ap suc e))

  -- altered a second time, where the second alteration takes no heed of the first
  pub altered_again : (g : A → A) → ((x : A) → f (g x) ≡ f x) → (i : ℕ) (xs : List A) → altered f i (altered g i xs) ≡ altered f i xs
  altered_again g same i [] = refl
  altered_again g same zero (x ∷ xs) = ap (λ (y : A). y ∷ xs) (same x)
  altered_again g same (suc i) (x ∷ xs) = ap (λ (ys : List A). x ∷ ys) (altered_again g same i xs)

  -- what the alteration leaves as it was is as it was in every element
  pub altered_keeps : {B : Type 0} (g : A → B) → ((x : A) → g (f x) ≡ g x) → (i : ℕ) (xs : List A) (j : ℕ) (d : A) →
      g (get_or (altered f i xs) j d) ≡ g (get_or xs j d)
  altered_keeps g same i [] j d = refl
  altered_keeps g same zero (x ∷ xs) zero d = same x
  altered_keeps g same zero (x ∷ xs) (suc j) d = refl
  altered_keeps g same (suc i) (x ∷ xs) zero d = refl
  altered_keeps g same (suc i) (x ∷ xs) (suc j) d = altered_keeps g same i xs j d

  pub altered-take : (n i : ℕ) (xs : List A) → take n (altered f i xs) ≡ altered f i (take n xs)
  altered-take zero i xs = refl
  altered-take (suc n) i [] = refl
  altered-take (suc n) zero (x ∷ xs) = refl
  altered-take (suc n) (suc i) (x ∷ xs) = ap (λ (ys : List A). x ∷ ys) (altered-take n i xs)

  pub altered_front : (i : ℕ) (xs ys : List A) → i < length xs → altered f i (xs ++ ys) ≡ altered f i xs ++ ys
  altered_front i [] ys h = absurd (omega arith)
  altered_front zero (x ∷ xs) ys h = refl
  altered_front (suc i) (x ∷ xs) ys h = ap (λ (zs : List A). x ∷ zs) (altered_front i xs ys (omega arith))

  -- before or after what g makes of each
  pub altered-map : (g : A → A) → ((x : A) → g (f x) ≡ f (g x)) → (i : ℕ) (xs : List A) → map g (altered f i xs) ≡ altered f i (map g xs)
  altered-map g same i [] = refl
  altered-map g same zero (x ∷ xs) = ap (λ (y : A). y ∷ map g xs) (same x)
  altered-map g same (suc i) (x ∷ xs) = ap (λ (ys : List A). g x ∷ ys) (altered-map g same i xs)

  pub each_altered : (P : A → Type 0) → ((x : A) → P x → P (f x)) → (i : ℕ) (xs : List A) → Each P xs → Each P (altered f i xs)
  each_altered P holds i [] v = tt
  each_altered P holds zero (x ∷ xs) v = (holds x v.0, v.1)
  each_altered P holds (suc i) (x ∷ xs) v = (v.0, each_altered P holds i xs v.1)
