-- Bits of a mask, and the change of one entry of a list.
use Rattle.std.specs.Prelude.{ℕ, zero, suc, ◌+◌, ◌*◌, ◌/◌, ◌%◌, ◌≤◌, ◌<◌, ◌≡◌, Bool, true, false, List, [], ◌∷◌, eqb}

-- bit j of a mask
unfoldable pub bit : ℕ → ℕ → ℕ
bit zero x = x % 2
bit (suc j) x = bit j (x / 2)

-- the set that a mask stands for has j
abbrev pub in_mask : ℕ → ℕ → Bool
in_mask x j = eqb (bit j x) 1

-- r is the lowest member of a set of numbers below 16 from this one on; 16 or more where there is none
pub record NextBit (mask from r : ℕ) : Type 0 where
  pub on : from ≤ r
  pub member : r < 16 → in_mask mask r ≡ true
  pub none_between : (i : ℕ) → from ≤ i → i < r → in_mask mask i ≡ false

-- the mask with bit j
unfoldable pub with_bit : ℕ → ℕ → ℕ
with_bit zero x = x / 2 * 2 + 1
with_bit (suc j) x = with_bit j (x / 2) * 2 + x % 2

-- a list with entry e changed by f; a missing entry counts as 0
unfoldable pub change : (ℕ → ℕ) → ℕ → List ℕ → List ℕ
change f zero [] = f 0 ∷ []
change f zero (x ∷ p) = f x ∷ p
change f (suc e) [] = 0 ∷ change f e []
change f (suc e) (x ∷ p) = x ∷ change f e p
