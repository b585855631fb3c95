-- What the answers of a reader's code tell: the byte at a cursor, and the value with the cursor after it, or document 01's number and place.
use Rattle.std.specs.Prelude.{ℕ, Option, Some, None, Result, Ok, Err}
use Rattle.text.specs.declared.Cursor.{Cursor}
use Rattle.text.specs.declared.Refusal.{Refusal}
use Rattle.text.specs.Reading.Parsed.{Parsed}

-- a byte, or 256 where there is none
abbrev pub told_byte : Option ℕ → ℕ
told_byte (Some b) = b
told_byte None = 256

-- what was read, with the cursor after it
abbrev pub told : {A : Type 0} → Result (A × Cursor) Refusal → Parsed A
told (Ok (x, c)) = Parsed.got x c
told (Err r) = Parsed.bad r.number r.place

-- of a part that has no value of its own, x is what it stands for
abbrev pub told_ending : {A : Type 0} → Result Cursor Refusal → A → Parsed A
told_ending (Ok c) x = Parsed.got x c
told_ending (Err r) x = Parsed.bad r.number r.place

-- the refusal by the number n at the place p
abbrev pub refusal : {A : Type 0} → (n p : ℕ) → Result A Refusal
refusal n p = Err (record { number = n; place = p })
