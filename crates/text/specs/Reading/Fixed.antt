-- Parts of a fixed form: a given text, byte by byte, and a number of exactly two digits.
use Rattle.std.specs.Prelude.{ℕ, ◌+◌, ◌*◌, List, [], ◌∷◌, Option, Some, None}
use Rattle.text.specs.declared.Cursor.{Cursor}
use Rattle.text.specs.Reading.Choice.{on_some}
use Rattle.text.specs.Reading.Bytes.{byte_at, ahead, digit_of, past_of}
use Rattle.text.specs.Reading.Parsed.{Parsed, limited}

-- past each byte of a text
unfoldable pub past_all : List ℕ → List ℕ → Cursor → Option Cursor
past_all [] s c = Some c
past_all (b ∷ t) s c = on_some (past_of s c b) (λ next. past_all t s next) None

-- the text t, or the number `form` at the line on which it should begin
unfoldable pub text_at : (form : ℕ) → List ℕ → List ℕ → Cursor → Parsed (Unit {0})
text_at form t s c = on_some (past_all t s c) (λ next. Parsed.got tt next) (Parsed.bad form c.line)

-- exactly two digits: `00` to `99`
unfoldable pub pair_at : List ℕ → Cursor → Option (ℕ × Cursor)
pair_at s c =
    on_some (digit_of (byte_at s c))
    (λ t. on_some (digit_of (byte_at s (ahead c))) (λ u. Some (t * 10 + u, ahead (ahead c))) None)
    None

-- two digits, then the byte b
unfoldable pub pair_field_at : List ℕ → Cursor → ℕ → Option (ℕ × Cursor)
pair_field_at s c b =
    on_some (pair_at s c)
    (λ (n, after). on_some (past_of s after b) (λ next. Some (n, next)) None)
    None

-- a number of exactly two digits from lo to hi with the byte b after it
unfoldable pub paired_at : (form range lo hi b : ℕ) → List ℕ → Cursor → Parsed ℕ
paired_at form range lo hi b s c = limited form range lo hi c.line (pair_field_at s c b)
