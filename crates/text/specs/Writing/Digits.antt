-- The decimal digits of a number below 10,000,000, as bytes, the text of a field, and the two digits of a number below 100.
use Rattle.std.specs.Prelude.{ℕ, zero, suc, ◌+◌, ◌/◌, ◌%◌, List, [], ◌∷◌, ◌++◌, ltb}
use Rattle.text.specs.Reading.Choice.{pick}

-- the digits of a number that has at most k + 1 of them
unfoldable pub digits_up_to : ℕ → ℕ → List ℕ
digits_up_to zero n = (n % 10 + 48) ∷ []
digits_up_to (suc k) n = pick (ltb n 10) ((n % 10 + 48) ∷ []) (digits_up_to k (n / 10) ++ ((n % 10 + 48) ∷ []))

-- seven digits at most
unfoldable pub digits : ℕ → List ℕ
digits n = digits_up_to 6 n

-- the number n and the byte b after it
abbrev pub field_text : ℕ → ℕ → List ℕ
field_text n b = digits n ++ (b ∷ [])

-- tens and units, both written
abbrev pub pair_text : ℕ → List ℕ
pair_text n = (n / 10 % 10 + 48) ∷ ((n % 10 + 48) ∷ [])
