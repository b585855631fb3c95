-- What solving a file gives: document 01's answer in each case, and what stands in the lent bytes afterwards. That there is exactly one such answer and
-- content, for every file and all lent bytes, is `solution` and `solution_only` in `Demand`.
use Rattle.std.specs.Prelude.{ℕ, ◌≡◌, List, Result}
use Rattle.text.specs.declared.Refusal.{Refusal}
use Rattle.text.specs.Reading.Parsed.{Parsed}
use Rattle.text.specs.Reading.Told.{refusal}
use Rattle.text.specs.Writing.Lend.{Spelling, Lent}
use Rattle.line.specs.declared.Line.{Line}
use Rattle.line.specs.File.{line_file}
use Rattle.rules.specs.Statement.Rules.{Lawful}
use Rattle.rules.specs.Statement.Delay.{Best}
use Rattle.timetable.specs.Spell.{timetable_text}

-- refused, with every lent byte as before
abbrev pub Refuses : ℕ → ℕ → List ℕ → List ℕ → Result ℕ Refusal → Type 0
Refuses n p entry exit r = (r ≡ refusal n p) × (exit ≡ entry)

-- of a line: 5 at 0 where no timetable keeps every rule; else the text of the best timetable and then the former content, or 6 at 0 where the lent bytes
-- are fewer
pub record LineSolved (l : Line) (entry exit : List ℕ) (r : Result ℕ Refusal) : Type 0 where
  pub none : ((m : List ℕ) → Lawful l m → ⊥) → Refuses 5 0 entry exit r
  pub best : (m : List ℕ) → Best l m → Lent (Spelling.text (timetable_text l m)) entry exit r

-- of what reading gives: a file that is refused is refused with its number, 1 to 4 or 19, and its place
abbrev pub SolvedAs : Parsed Line → List ℕ → List ℕ → Result ℕ Refusal → Type 0
SolvedAs (Parsed.bad n p) entry exit r = Refuses n p entry exit r
SolvedAs (Parsed.got l c) entry exit r = LineSolved l entry exit r

abbrev pub Solving : List ℕ → List ℕ → List ℕ → Result ℕ Refusal → Type 0
Solving file entry exit r = SolvedAs (line_file file) entry exit r
