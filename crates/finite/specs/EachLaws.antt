-- Laws of what holds of each element of a list, and of the list of what a function makes of each.
use Rattle.std.specs.Prelude.{ℕ, zero, suc, ◌<◌, ◌≤◌, ◌≡◌, refl, ◌⊎◌, length, get_or, take}
use Rattle.std.proofs.Common.{sym, ap, subst, inl, inr, ⊎_elim, arith}
use mathlib.Core.List.Memᴰ
use mathlib.Core.List.{List, [], ◌∷◌, ◌++◌, map, Memᴰ}
use Rattle.finite.specs.Each.{Each}

-- what holds of each holds of the first n
pub each_take : {A : Type 0} (P : A → Type 0) (n : ℕ) (xs : List A) → Each P xs → Each P (take n xs)
each_take P zero xs v = tt
each_take P (suc n) [] v = tt
each_take P (suc n) (x ∷ xs) v = (v.0, each_take P n xs v.1)

-- two properties together
pub each_both : {A : Type 0} (P Q R : A → Type 0) → ((x : A) → P x → Q x → R x) → (xs : List A) → Each P xs → Each Q xs → Each R xs
each_both P Q R f [] v w = tt
each_both P Q R f (x ∷ xs) v w = (f x v.0 w.0, each_both P Q R f xs v.1 w.1)

-- what follows from a property, of each
pub each_map : {A : Type 0} (P Q : A → Type 0) → ((x : A) → P x → Q x) → (xs : List A) → Each P xs → Each Q xs
each_map P Q f [] v = tt
each_map P Q f (x ∷ xs) v = (f x v.0, each_map P Q f xs v.1)

-- of what f makes of each
pub each_image : {A B : Type 0} (P : B → Type 0) (f : A → B) (xs : List A) → Each (λ x. P (f x)) xs → Each P (map f xs)
each_image P f [] v = tt
each_image P f (x ∷ xs) v = (v.0, each_image P f xs v.1)

-- its element i, if there is one, whatever stands past the last
pub map_at : {A B : Type 0} (f : A → B) (xs : List A) (i : ℕ) (d : A) (e : B) → i < length xs → get_or (map f xs) i e ≡ f (get_or xs i d)
map_at f [] i d e h = absurd (omega arith)
map_at f (x ∷ xs) zero d e h = refl
map_at f (x ∷ xs) (suc i) d e h = map_at f xs i d e (omega arith)

pub take-map : {A B : Type 0} (f : A → B) (n : ℕ) (xs : List A) → take n (map f xs) ≡ map f (take n xs)
take-map f zero xs = refl
take-map f (suc n) [] = refl
take-map {B = B} f (suc n) (x ∷ xs) = ap (λ (ys : List B). f x ∷ ys) (take-map f n xs)

pub each_append : {A : Type 0} (P : A → Type 0) (xs ys : List A) → Each P xs → Each P ys → Each P (xs ++ ys)
each_append P [] ys v w = w
each_append P (x ∷ xs) ys v w = (v.0, each_append P xs ys v.1 w)

pub each_parts : {A : Type 0} (P : A → Type 0) (xs ys : List A) → Each P (xs ++ ys) → Each P xs × Each P ys
each_parts P [] ys v = (tt, v)
each_parts P (x ∷ xs) ys v = let w = each_parts P xs ys v.1 in ((v.0, w.0), w.1)

pub each_mem : {A : Type 0} (P : A → Type 0) (z : A) (xs : List A) → Each P xs → Memᴰ z xs → P z
each_mem P z [] v m = absurd (Memᴰ.not-nil m)
each_mem P z (x ∷ xs) v m = ⊎_elim (λ e. subst P (sym e) v.0) (each_mem P z xs v.1) (Memᴰ.cases_cons m)

-- what holds of anything
pub each_any : {A : Type 0} (xs : List A) → Each (λ x. Unit {0}) xs
each_any [] = tt
each_any (x ∷ xs) = (tt, each_any xs)

-- what holds of each holds of element i
pub each_get : {A : Type 0} (P : A → Type 0) (xs : List A) (i : ℕ) (d : A) → i < length xs → Each P xs → P (get_or xs i d)
each_get P [] i d h e = absurd (omega arith)
each_get P (x ∷ xs) zero d h e = e.0
each_get P (x ∷ xs) (suc i) d h e = each_get P xs i d (omega arith) e.1

-- what holds of each of the first n holds of element i
pub each_at : {A : Type 0} (P : A → Type 0) (n : ℕ) (xs : List A) (i : ℕ) (d : A) → n ≤ length xs → i < n → Each P (take n xs) → P (get_or xs i d)
each_at P zero xs i d full h e = absurd (omega arith)
each_at P (suc n) [] i d full h e = absurd (omega arith)
each_at P (suc n) (x ∷ xs) zero d full h e = e.0
each_at P (suc n) (x ∷ xs) (suc i) d full h e = each_at P n xs i d (omega arith) (omega arith) e.1

-- the same where there may be fewer than n: else element i is what stands past the last
pub each_or : {A : Type 0} (P : A → Type 0) (n : ℕ) (xs : List A) (i : ℕ) (d : A) → i < n → Each P (take n xs) → P (get_or xs i d) ⊎ (get_or xs i d ≡ d)
each_or P zero xs i d h e = absurd (omega arith)
each_or P (suc n) [] i d h e = inr refl
each_or P (suc n) (x ∷ xs) zero d h e = inl e.0
each_or P (suc n) (x ∷ xs) (suc i) d h e = each_or P n xs i d (omega arith) e.1
