-- The lines of a text, from 1: the line at a cursor is one more than the line feeds before it.
use Rattle.std.specs.Prelude.{ℕ, ◌+◌, ◌≤◌, ◌≡◌, List, [], ◌∷◌, take, eqb}
use Rattle.text.specs.declared.Cursor.{Cursor}
use Rattle.text.specs.Reading.Choice.{pick}
use Rattle.text.specs.Reading.Parsed.{Parsed}

-- how many line feeds (byte 10) a list of bytes has
abbrev pub feeds : List ℕ → ℕ
feeds [] = 0
feeds (b ∷ bs) = pick (eqb b 10) (1 + feeds bs) (feeds bs)

-- "line .., from 1": the line on which a cursor stands is one more than the line feeds before it
abbrev pub LineAt : List ℕ → Cursor → Type 0
LineAt s c = c.line ≡ 1 + feeds (take c.at s)

-- there is at most a line more than the bytes before a cursor: so the next line's number fits wherever the next position does
pub record Counted (c : Cursor) : Type 0 where
  pub fits : c.line ≤ c.at + 1

-- ---- what holds of the cursors of a reading

-- a refusal's place is the line of a cursor, that at which its field began; P holds there, and Q of the refusal's number
pub record Stood (P : Cursor → Type 0) (Q : ℕ → Type 0) (n p : ℕ) : Type 0 where
  pub cursor : Cursor
  pub keeps : P cursor
  pub line : p ≡ cursor.line
  pub number : Q n

-- P holds of the cursor after what was read, or of that at which the field that is refused began, and then Q of the refusal's number
abbrev pub HoldsOn : {A : Type 0} → (Cursor → Type 0) → (ℕ → Type 0) → Parsed A → Type 0
HoldsOn P Q (Parsed.got x c) = P c
HoldsOn P Q (Parsed.bad n p) = Stood P Q n p

-- where nothing is asked of the number
abbrev pub AnyNumber : ℕ → Type 0
AnyNumber n = Unit {0}

-- the place p is the line on which position k of the text stands
pub record OnLine (s : List ℕ) (p : ℕ) : Type 0 where
  pub k : ℕ
  pub line : p ≡ 1 + feeds (take k s)

-- ---- the lines that a part covers

-- a part that begins on line n and is read to line m, or refused on a line from n to m
abbrev pub Spans : {A : Type 0} → ℕ → ℕ → Parsed A → Type 0
Spans n m (Parsed.got x c) = c.line ≡ m
Spans n m (Parsed.bad q p) = (n ≤ p) × (p ≤ m)
