-- A list in which one element is altered.
use Rattle.std.specs.Prelude.{ℕ, zero, suc, List, [], ◌∷◌}

-- the list with what f makes of its element i, where it has one, and every other element as it was
abbrev pub altered : {A : Type 0} → (A → A) → ℕ → List A → List A
altered f i [] = []
altered f zero (x ∷ xs) = f x ∷ xs
altered f (suc i) (x ∷ xs) = x ∷ altered f i xs
