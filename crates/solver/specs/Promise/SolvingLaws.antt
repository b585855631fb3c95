-- Laws of solving, for the answers of its code: a refused file, a line without a timetable, and a line with its best one, of which every best timetable has
-- the text.
use Rattle.std.specs.Prelude.{ℕ, ◌≡◌, refl, List, Result, Ok, Err}
use Rattle.std.proofs.Common.{sym, subst}
use Rattle.text.specs.declared.Refusal.{Refusal}
use Rattle.text.specs.Reading.Parsed.{Parsed}
use Rattle.text.specs.Reading.Told.{refusal}
use Rattle.text.specs.Writing.Lend.{Spelling, Lent}
use Rattle.line.specs.declared.Line.{Line}
use Rattle.line.specs.File.{line_file, answered}
use Rattle.line.specs.Within.{Within, Arrays}
use Rattle.line.specs.WithinLaws.{fault_none}
use Rattle.rules.specs.Statement.Rules.{Lawful}
use Rattle.rules.specs.Statement.Delay.{Best}
use Rattle.rules.specs.StatementLaws.BestLaws.{best_only}
use Rattle.timetable.specs.Spell.{timetable_text}
use Rattle.timetable.specs.Writing.{spelling}
use Rattle.timetable.specs.WritingLaws.{spelling_text, days_clean}
use Rattle.timetable.specs.SameTextLaws.{text_same}
use Rattle.timetable.specs.AnsweredLaws.{answered_got, answered_bad}
use Rattle.solver.specs.Promise.Solving.{LineSolved, SolvedAs, Solving}

-- ---- of a line

pub line_none : {l : Line} (entry : List ℕ) → ((m : List ℕ) → Lawful l m → ⊥) → LineSolved l entry entry (refusal 5 0)
line_none entry h = record { none = λ _. (refl, refl); best = λ m b. absurd (h m b.lawful) }

module _ (l : Line) (w : Within l) (a : Arrays l) (m : List ℕ) (b : Best l m) {entry exit : List ℕ} {r : Result ℕ Refusal} where
  -- the text of a best timetable is that of every best one
  pub line_best : Lent (Spelling.text (timetable_text l m)) entry exit r → LineSolved l entry exit r
  line_best lent =
      record {
        none = λ h. absurd (h m b.lawful);
        best = λ m' b'. rw (text_same m m' l (best_only l m m' b b') w a) at lent;
      }

  -- what writing it gives
  pub line_written : Lent (spelling l m) entry exit r → LineSolved l entry exit r
  line_written lent = line_best (rw (spelling_text l m (fault_none l w) (days_clean l m b.lawful.days)) at lent)

-- ---- of what reading answered

module _ (file : List ℕ) where
  pub solving_refused : (entry : List ℕ) {e : Refusal} → ◌≡◌ {A = Result Line Refusal} (Err e) (answered (line_file file)) →
      Solving file entry entry (Err e)
  solving_refused entry {e} is =
      subst (λ (x : Parsed Line). SolvedAs x entry entry (Err e)) (sym (answered_bad (line_file file) is)) (refl, refl)

  pub solving_line : {l : Line} → ◌≡◌ {A = Result Line Refusal} (Ok l) (answered (line_file file)) → {entry exit : List ℕ} {r : Result ℕ Refusal} →
      LineSolved l entry exit r → Solving file entry exit r
  solving_line is {entry} {exit} {r} h =
      subst (λ (x : Parsed Line). SolvedAs x entry exit r) (sym (answered_got (line_file file) is).got) h
