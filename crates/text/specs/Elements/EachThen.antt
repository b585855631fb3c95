-- A part of a text for each element of a list.
use Rattle.std.specs.Prelude.{ℕ, List, [], ◌∷◌}

-- the text of each element, and then rest
abbrev pub each_then : {A : Type 0} → (A → List ℕ → List ℕ) → List A → List ℕ → List ℕ
each_then text [] rest = rest
each_then text (x ∷ xs) rest = text x (each_then text xs rest)
