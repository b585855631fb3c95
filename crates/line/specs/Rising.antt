-- What reading a section in rising order asks of the function that reads one of its lines, and what the function tells.
use Rattle.std.specs.Prelude.{ℕ, ◌≡◌, List, length, Result, Ok}
use Rattle.text.specs.declared.Cursor.{Cursor}
use Rattle.text.specs.declared.Refusal.{Refusal}
use Rattle.text.specs.Elements.Padded.{padded}
use Rattle.text.specs.Places.Lines.{Counted}
use Rattle.text.specs.Reading.Parsed.{Parsed}
use Rattle.text.specs.Reading.Told.{told}
use Rattle.line.specs.declared.reading.Section.{Section}

module _ {T : Type 0} where
  -- it may be called at any cursor with no more lines than bytes, and leaves such a cursor
  abbrev pub ReadsOn : (Cursor → T → Type 0) → (Cursor → T → Result (T × Cursor) Refusal → Type 0) → Type 0
  ReadsOn pre post = (c : Cursor) (before : T) → Counted c → pre c before × ((x : T) (next : Cursor) → post c before (Ok (x, next)) → Counted next)

  -- what it answers tells the part of the text s
  abbrev pub TellsPart : (Cursor → T → Result (T × Cursor) Refusal → Type 0) → (T → List ℕ → Cursor → Parsed T) → List ℕ → Type 0
  TellsPart post part s = (c : Cursor) (before : T) (r : Result (T × Cursor) Refusal) → post c before r → told r ≡ part before s c

  -- the section of these entries
  abbrev pub section_with : (size : ℕ) → T → List T → Section T size
  section_with size none xs = record { count = length xs; entries = padded size none xs }
