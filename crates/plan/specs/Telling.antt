-- What the program prints.
use Rattle.std.specs.Prelude.{ℕ, List, [], ◌∷◌, ◌++◌, Option, Result, Ok, Err, ◌≡◌, length, take, codes}
use Rattle.std.specs.Fmt.{decimal}
use Rattle.std.specs.Io.KnownBytes.{Appends}
use Rattle.text.specs.declared.Refusal.{Refusal}
use Rattle.solver.specs.Promise.Solving.{Solving}

-- `refused n p` and a line feed.
abbrev pub refusal_text : ℕ → ℕ → List ℕ
refusal_text number place = codes "refused " ++ decimal number ++ 32 ∷ decimal place ++ 10 ∷ []

-- The text that was written to the front of the lent bytes, or the refusal's.
abbrev pub answer_text : Result ℕ Refusal → List ℕ → List ℕ
answer_text (Ok n) out = take n out
answer_text (Err r) out = refusal_text r.number r.place

-- What a writer holds grows by what solving the file with 4,096 lent bytes answers.
abbrev pub Told : List ℕ → Option (List ℕ) → Option (List ℕ) → Type 0
Told file old new = (room : List ℕ) × (out : List ℕ) × (written : Result ℕ Refusal) × (length room ≡ 4096) × Solving file room out written × Appends old new (answer_text written out)
