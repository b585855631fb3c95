-- Laws of the operations for the code: what follows the reading of a line file, by the answer of that reading; a timetable
-- exported, by how its reading ended; and the minutes of an import as train lines.
use Rattle.std.specs.Prelude.{ℕ, ◌≡◌, List, Result, Ok, Err}
use Rattle.std.proofs.Common.{sym, ap, ◌∙◌}
use Rattle.text.specs.declared.Refusal.{Refusal}
use Rattle.text.specs.Reading.Parsed.{Parsed, then_read}
use Rattle.text.specs.Writing.Lend.{Spelling}
use Rattle.line.specs.declared.Line.{Line}
use Rattle.line.specs.Within.{Within}
use Rattle.line.specs.File.{line_file, answered}
use Rattle.rules.specs.Statement.Paths.{train, Routed, EachTrain}
use Rattle.rules.specs.Statement.Rules.{InDays}
use Rattle.timetable.specs.AnsweredLaws.{answered_got, answered_bad}
use Rattle.timetable.specs.Reading.{Timetable, timetable_file}
use Rattle.timetable.specs.SpeltLaws.{timetable_spelt}
use Rattle.timetable.specs.Writing.{lines_spelling}
use Rattle.timetable.specs.WritingLaws.{lines_text}
use Rattle.gtfs.specs.Spell.{stop_times_text}
use Rattle.gtfs.specs.Reading.{stop_times_file}
use Rattle.gtfs.specs.Operations.{spelt, stop_times_of, lines_of}
use Rattle.gtfs.proofs.SpeltLaws.{stop_times_spelt}

-- ---- what is read for the line of a file, by what reading the file answered

module _ {A : Type 0} (file : List ℕ) (f : Line → Parsed A) where
  pub after_refused : {e : Refusal} → Err e ≡ answered (line_file file) → then_read (line_file file) (λ l _. f l) ≡ Parsed.bad e.number e.place
  after_refused told = ap (λ (a : Parsed Line). then_read a (λ l _. f l)) (answered_bad (line_file file) told)

  pub after_accepted : {l : Line} → Ok l ≡ answered (line_file file) → then_read (line_file file) (λ k _. f k) ≡ f l
  after_accepted told = ap (λ (a : Parsed Line). then_read a (λ l _. f l)) (answered_got (line_file file) told).got

-- ---- the timetable of a line, by what reading it answered

module _ (l : Line) (s : List ℕ) where
  pub spelt_refused : {e : Refusal} → ◌≡◌ {A = Result Timetable Refusal} (Err e) (answered (timetable_file l s)) →
      spelt (stop_times_of l (timetable_file l s)) ≡ Spelling.refused e.number e.place
  spelt_refused told = ap (λ (r : Parsed Timetable). spelt (stop_times_of l r)) (answered_bad (timetable_file l s) told)

  module _ {t : Timetable} (told : ◌≡◌ {A = Result Timetable Refusal} (Ok t) (answered (timetable_file l s))) where
    pub spelt_read : spelt (stop_times_of l (timetable_file l s)) ≡ Spelling.text (stop_times_text l t.minutes)
    spelt_read = ap (λ (r : Parsed Timetable). spelt (stop_times_of l r)) (answered_got (timetable_file l s) told).got

    -- minutes that were read are of the two days
    pub read_days : Within l → EachTrain l (InDays l t.minutes)
    read_days w = let read = answered_got (timetable_file l s) told in (timetable_spelt l w s t read.end read.got).days

-- ---- minutes that were imported are written as they are: they are of the two days

module _ (l : Line) (s : List ℕ) where
  pub lines_refused : {e : Refusal} → ◌≡◌ {A = Result (List ℕ) Refusal} (Err e) (answered (stop_times_file l s)) →
      spelt (lines_of l (stop_times_file l s)) ≡ Spelling.refused e.number e.place
  lines_refused told = ap (λ (r : Parsed (List ℕ)). spelt (lines_of l r)) (answered_bad (stop_times_file l s) told)

  pub lines_written : Within l → EachTrain l (λ i. Routed (train l i)) → {m : List ℕ} →
      ◌≡◌ {A = Result (List ℕ) Refusal} (Ok m) (answered (stop_times_file l s)) → spelt (lines_of l (stop_times_file l s)) ≡ lines_spelling l m
  lines_written w routes {m} told =
      let file = answered_got (stop_times_file l s) told in
      let read = stop_times_spelt l w.trains.1 routes s m file.end file.got in
      ap (λ (r : Parsed (List ℕ)). spelt (lines_of l r)) file.got ∙ sym (lines_text l m w read.days)
