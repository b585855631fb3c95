-- What the totals of many starting minutes promise (document 02, K5): number, place and every lent entry.
use Rattle.std.specs.Prelude.{ℕ, ◌-◌, ◌≤◌, ◌<◌, ◌≡◌, List, length, get_or, take, Result, Ok}
use Rattle.finite.specs.Below.{EachBelow}
use Rattle.text.specs.declared.Refusal.{Refusal}
use Rattle.text.specs.Reading.Parsed.{Parsed}
use Rattle.text.specs.Reading.Told.{refusal}
use Rattle.text.specs.Writing.Digits.{digits}
use Rattle.text.specs.Places.LastLine.{last_line}
use Rattle.line.specs.declared.Line.{Line}
use Rattle.line.specs.File.{line_file}
use Rattle.line.specs.Spell.{text_of}
use Rattle.line.specs.Starting.{starting}
use Rattle.solver.specs.Promise.Solving.{Solving}
use Rattle.starts.specs.Asking.{Asked}

-- "4,294,967,295 for "no timetable""
abbrev pub no_timetable : ℕ
no_timetable = 4294967295

-- the file of a line with the earliest minute of a train, by its number, replaced: the text of the line so altered. It is accepted, as the altered line, and has
-- the bytes of the line's own text but for that field (`altered_accepted` and `altered-field` in `OperationLaws`).
abbrev pub altered_file : Line → ℕ → ℕ → List ℕ
altered_file l train minute = text_of (starting (train - 1) minute l)

-- "Every entry is what solving the file with that one field altered would give": the total on the last line of the text that solving it prints, whatever bytes
-- it is lent ("the total may have seven digits"); or 4,294,967,295 where it says 5
pub record Tells (file : List ℕ) (total : ℕ) : Type 0 where
  pub printed : (entry exit : List ℕ) (n : ℕ) → Solving file entry exit (Ok n) → (total < 10000000) × (last_line (take n exit) ≡ digits total)
  pub none : (entry exit : List ℕ) → Solving file entry exit (refusal 5 0) → total ≡ no_timetable

-- "fill in a total .. for each; entries past the list keep what they held"
pub record Filled (l : Line) (train : ℕ) (minutes entry exit : List ℕ) : Type 0 where
  pub size : length exit ≡ length entry
  pub told : EachBelow (length minutes) (λ k. Tells (altered_file l train (get_or minutes k 0)) (get_or exit k 0))
  pub kept : (k : ℕ) → length minutes ≤ k → get_or exit k 0 ≡ get_or entry k 0

-- of the line of a file: the entries filled in where that may be asked, else 22 with place 0 and every entry as it was
pub record LineStarts (l : Line) (train : ℕ) (minutes entry exit : List ℕ) (r : Result (Unit {0}) Refusal) : Type 0 where
  pub asked : Asked l.traffic.train_count train minutes (length entry) → (r ≡ Ok tt) × Filled l train minutes entry exit
  pub other : (Asked l.traffic.train_count train minutes (length entry) → ⊥) → (r ≡ refusal 22 0) × (exit ≡ entry)

-- "after the file's own numbers": a file that is refused is refused with its number and place, and every entry as it was
abbrev pub StartsAs : Parsed Line → ℕ → List ℕ → List ℕ → List ℕ → Result (Unit {0}) Refusal → Type 0
StartsAs (Parsed.bad n p) train minutes entry exit r = (r ≡ refusal n p) × (exit ≡ entry)
StartsAs (Parsed.got l c) train minutes entry exit r = LineStarts l train minutes entry exit r

abbrev pub Starts : List ℕ → ℕ → List ℕ → List ℕ → List ℕ → Result (Unit {0}) Refusal → Type 0
Starts file train minutes entry exit r = StartsAs (line_file file) train minutes entry exit r
