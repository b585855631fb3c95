-- The byte at a cursor, and what it is worth as a digit.
use Rattle.std.specs.Prelude.{ℕ, ◌+◌, ◌-◌, List, Option, Some, None, get_or, drop, ltb, eqb}
use Rattle.text.specs.declared.Cursor.{Cursor}
use Rattle.text.specs.Reading.Choice.{pick}

-- the byte at a cursor; past the end stands 256, which is no byte
abbrev pub byte_at : List ℕ → Cursor → ℕ
byte_at s c = get_or s c.at 256

-- the text from a cursor on
abbrev pub from : List ℕ → Cursor → List ℕ
from s c = drop c.at s

-- the cursor past a byte that is no line feed
abbrev pub ahead : Cursor → Cursor
ahead c = record { at = c.at + 1; line = c.line }

-- the cursor past the byte b: "past a line feed it is the next line"
abbrev pub passing : ℕ → Cursor → Cursor
passing b c = record { at = c.at + 1; line = pick (eqb b 10) (c.line + 1) c.line }

-- what a byte is worth as a decimal digit
unfoldable pub digit_of : ℕ → Option ℕ
digit_of b = pick (ltb b 48) None (pick (ltb 57 b) None (Some (b - 48)))

-- past the byte b
unfoldable pub past_of : List ℕ → Cursor → ℕ → Option Cursor
past_of s c b = pick (eqb (byte_at s c) b) (Some (passing b c)) None
