-- What reading a part of a file gives: its value and the cursor after it, or document 01's number and place; and how parts follow one another.
use Rattle.std.specs.Prelude.{ℕ, zero, suc, List, [], ◌∷◌, Option}
use Rattle.text.specs.declared.Cursor.{Cursor}
use Rattle.text.specs.Reading.Choice.{on_some}
use Rattle.text.specs.Reading.Numbers.{field_at}
use Rattle.text.specs.Reading.Limits.{bounded_of}

pub data Parsed (A : Type 0) : Type 0 where
  got : A → Cursor → Parsed A
  bad : ℕ → ℕ → Parsed A

-- one part and then the next; a refusal ends the reading
abbrev pub then_read : {A B : Type 0} → Parsed A → (A → Cursor → Parsed B) → Parsed B
then_read (Parsed.got a c) f = f a c
then_read (Parsed.bad n p) f = Parsed.bad n p

-- the same reading with its value turned into another
abbrev pub map_parsed : {A B : Type 0} → (A → B) → Parsed A → Parsed B
map_parsed f r = then_read r (λ a c. Parsed.got (f a) c)

-- k parts in a row, each told how many are to follow it
unfoldable pub many : {A : Type 0} → ℕ → (ℕ → List ℕ → Cursor → Parsed A) → List ℕ → Cursor → Parsed (List A)
many zero part s c = Parsed.got [] c
many (suc k) part s c =
    then_read (part k s c) (λ x next. then_read (many k part s next) (λ xs end. Parsed.got (x ∷ xs) end))

-- k lines in a row, each read in the same way
abbrev pub lines : {A : Type 0} → ℕ → (List ℕ → Cursor → Parsed A) → List ℕ → Cursor → Parsed (List A)
lines k line s c = many k (λ left. line) s c

-- a field, form and byte after it first (number `form`), then its range from lo to hi (number `range`); the place of a fault is the line on which the
-- field began
abbrev pub limited : (form range lo hi line : ℕ) → Option (ℕ × Cursor) → Parsed ℕ
limited form range lo hi line f =
    on_some f
    (λ (n, next). on_some (bounded_of lo hi n) (λ v. Parsed.got v next) (Parsed.bad range line))
    (Parsed.bad form line)

-- a number of one to four digits from lo to hi with the byte b after it
unfoldable pub ranged_at : (form range lo hi b : ℕ) → List ℕ → Cursor → Parsed ℕ
ranged_at form range lo hi b s c = limited form range lo hi c.line (field_at 4 s c b)
