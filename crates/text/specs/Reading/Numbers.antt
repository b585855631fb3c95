-- A number at a cursor: decimal digits with no leading zero (0 is `0`), and the byte after it.
use Rattle.std.specs.Prelude.{ℕ, zero, suc, ◌+◌, ◌-◌, ◌*◌, List, Option, Some, None, eqb}
use Rattle.text.specs.declared.Cursor.{Cursor}
use Rattle.text.specs.Reading.Choice.{pick, on_some}
use Rattle.text.specs.Reading.Bytes.{byte_at, ahead, digit_of, past_of}

-- at most k more digits after the value v
unfoldable pub more : ℕ → List ℕ → Cursor → ℕ → Option (ℕ × Cursor)
more zero s c v = Some (v, c)
more (suc k) s c v = on_some (digit_of (byte_at s c)) (λ d. more k s (ahead c) (v * 10 + d)) (Some (v, c))

-- one to `most` digits, a zero alone
unfoldable pub number_at : ℕ → List ℕ → Cursor → Option (ℕ × Cursor)
number_at most s c =
    on_some (digit_of (byte_at s c))
    (λ d. pick (eqb d 0) (Some (0, ahead c)) (more (most - 1) s (ahead c) d))
    None

-- a number, then the byte b
unfoldable pub field_at : ℕ → List ℕ → Cursor → ℕ → Option (ℕ × Cursor)
field_at most s c b =
    on_some (number_at most s c)
    (λ (n, after). on_some (past_of s after b) (λ next. Some (n, next)) None)
    None
