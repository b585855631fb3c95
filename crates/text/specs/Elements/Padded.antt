-- An array that begins with the elements of a list.
use Rattle.std.specs.Prelude.{ℕ, List, replicate}
use Rattle.std.proofs.lemmas.List.Edits.{sets}

-- an array of n entries that begins with ys; the entries beyond are z
unfoldable pub padded : {A : Type 0} → ℕ → A → List A → List A
padded n z ys = sets (replicate n z) 0 ys
