-- Raising minutes round after round until a round changes nothing.
use Rattle.std.specs.Prelude.{ℕ, zero, suc, Bool, true, false, ◌&&◌, List, [], ◌∷◌, leb, eqb}
use Rattle.orders.specs.LeastMinutes.Least.{Least, minutes, none}

-- are all minutes within the two days?
unfoldable pub within_days : List ℕ → Bool
within_days [] = true
within_days (x ∷ xs) = leb x 2879 && within_days xs

-- are these the same minutes?
unfoldable pub same : List ℕ → List ℕ → Bool
same [] [] = true
same [] (y ∷ ys) = false
same (x ∷ xs) [] = false
same (x ∷ xs) (y ∷ ys) = eqb x y && same xs ys

-- After a round from `m` to `r`, by the two tests: it changed nothing; it left the two days; or `go` does the next.
unfoldable pub next : (List ℕ → Least) → List ℕ → List ℕ → Bool → Bool → Least
next go m r true d = minutes m
next go m r false true = go r
next go m r false false = none

-- rounds of `raise`, as many as the fuel allows
unfoldable pub settle : (List ℕ → List ℕ) → ℕ → List ℕ → Least
settle raise zero m = none
settle raise (suc fuel) m = next (λ r. settle raise fuel r) m (raise m) (same m (raise m)) (within_days (raise m))
