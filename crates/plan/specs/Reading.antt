-- What reading standard input gives: so many bytes, no more than there is room for; or a reading failed.
use Rattle.std.specs.Prelude.{ℕ, ◌≤◌, ◌<◌, List, Option, Result, length, take}
use Rattle.std.specs.Result.{IfOk}
use Rattle.std.specs.Io.KnownBytes.{Consumes, IsAtEnd}

abbrev pub Fits : {E : Type 0} → ℕ → Result ℕ E → Type 0
Fits size result = IfOk result (λ n. n ≤ size)

-- Where the reader's bytes are known, its next n stand at the front of the buffer; where fewer than there is room for, no others are left.
abbrev pub FrontRead : {E : Type 0} → Option (List ℕ) → Option (List ℕ) → List ℕ → Result ℕ E → Type 0
FrontRead old new file result = IfOk result (λ n. Consumes old new (take n file) × (n < length file → IsAtEnd new))
