-- The theorems of request K4, for an accepted line file: "Importing what was exported returns the minutes, and each text we accept is the export of some set
-- of minutes." So a text is accepted exactly when it is the export of some minutes; and what an import writes as train lines is read as its minutes.
use Rattle.std.specs.Prelude.{ℕ, ◌≤◌, ◌≡◌}
use Rattle.std.proofs.Math.Path.{refl, sym, ap}
use Rattle.std.proofs.Common.{◌∙◌}
use mathlib.Core.List.{List, []}
use Rattle.text.specs.declared.Cursor.{Cursor}
use Rattle.text.specs.Reading.Parsed.{Parsed}
use Rattle.text.specs.Writing.Lend.{Spelling}
use Rattle.line.specs.declared.Line.{Line}
use Rattle.line.specs.File.{line_file, answered}
use Rattle.line.specs.RoundTripLaws.{ReadFrom, accepts_read}
use Rattle.line.specs.RunnableLaws.{within_runnable}
use Rattle.rules.specs.Statement.Paths.{train, Routed, EachTrain}
use Rattle.rules.specs.Statement.Rules.{InDays}
use Rattle.rules.specs.Statement.Delay.{Same}
use Rattle.rules.specs.StatementLaws.PathsLaws.{routed}
use Rattle.timetable.specs.Reading.{Timetable, timetable_file, minutes_at}
use Rattle.timetable.specs.Spell.{minutes_text}
use Rattle.timetable.specs.SpeltLaws.{timetable_spelt, minutes_spelt}
use Rattle.timetable.specs.ReadsLaws.{lines_back}
use Rattle.timetable.specs.StoresLaws.{minutes_only}
use Rattle.gtfs.specs.Spell.{stop_times_text}
use Rattle.gtfs.specs.Reading.{stop_times_file}
use Rattle.gtfs.specs.Operations.{exporting, minutes_of, importing}
use Rattle.gtfs.proofs.SpeltLaws.{StopTimesSpelt, stop_times_spelt}
use Rattle.gtfs.proofs.ReadsLaws.{stop_times_read}

-- x is the text of some minutes of the two days
pub record IsExport (l : Line) (x : List ℕ) : Type 0 where
  pub minutes : List ℕ
  pub days : EachTrain l (InDays l minutes)
  pub text : x ≡ stop_times_text l minutes

-- x is accepted for the file, with minutes that are the same as m
pub record AcceptedAs (file : List ℕ) (l : Line) (x m : List ℕ) : Type 0 where
  pub minutes : List ℕ
  pub end : Cursor
  pub read : minutes_of file x ≡ Parsed.got minutes end
  pub same : Same l minutes m

-- what exporting the timetable s gives is imported as the minutes m
pub record ReturnedAs (file s m : List ℕ) : Type 0 where
  pub text : List ℕ
  pub end : Cursor
  pub exported : exporting file s ≡ Spelling.text text
  pub imported : minutes_of file text ≡ Parsed.got m end

module _ (file : List ℕ) (l : Line) (c : Cursor) (accepted : line_file file ≡ Parsed.got l c) where
  read : ReadFrom file l
  read = accepts_read file l (ap answered accepted)

  few : l.traffic.train_count ≤ 12
  few = read.limits.trains.1

  routes : EachTrain l (λ i. Routed (train l i))
  routes i h = routed l i (within_runnable l read.limits) read.arrays.trains h

  -- a text is read for the file as it is for its line
  for_line : (x : List ℕ) → minutes_of file x ≡ stop_times_file l x
  unfolding minutes_of
  for_line x = rw accepted refl

  -- ---- each text that is accepted is the export of the minutes it gives

  pub accepted_export : (x m : List ℕ) (end : Cursor) → minutes_of file x ≡ Parsed.got m end → StopTimesSpelt l x m
  accepted_export x m end e = stop_times_spelt l few routes x m end (sym (for_line x) ∙ e)

  -- ---- and the export of minutes is accepted, with these minutes

  pub export_accepted : (m : List ℕ) → EachTrain l (InDays l m) → AcceptedAs file l (stop_times_text l m) m
  export_accepted m days =
      let w = stop_times_read l few routes m days in
      record { minutes = w.minutes; end = w.end; read = for_line (stop_times_text l m) ∙ w.reads; same = w.same }

  -- so a text is accepted exactly when it is the export of some minutes
  pub accepted_only : (x m : List ℕ) (end : Cursor) → minutes_of file x ≡ Parsed.got m end → IsExport l x
  accepted_only x m end e = let w = accepted_export x m end e in record { minutes = m; days = w.days; text = w.text }

  pub accepted_then : (x : List ℕ) (w : IsExport l x) → AcceptedAs file l x w.minutes
  accepted_then x w = rw w.text (export_accepted w.minutes w.days)

  -- ---- importing what was exported returns the minutes: the very list that the timetable's text gave

  pub returned : (s : List ℕ) (t : Timetable) (end : Cursor) → timetable_file l s ≡ Parsed.got t end → ReturnedAs file s t.minutes
  unfolding exporting
  returned s t end e =
      let timetable = timetable_spelt l read.limits s t end e in
      let back = export_accepted t.minutes timetable.days in
      let again = accepted_export (stop_times_text l t.minutes) back.minutes back.end back.read in
      let same : back.minutes ≡ t.minutes =
      minutes_only l back.minutes t.minutes (again.many ∙ sym timetable.many_minutes) again.idle timetable.idle back.same in
      record {
        text = stop_times_text l t.minutes;
        end = back.end;
        exported = rw (accepted, e) refl;
        imported = back.read ∙ ap (λ (m : List ℕ). Parsed.got m back.end) same;
      }

  -- ---- the train lines that an import writes are read as its minutes

  pub record LinesRead (x m : List ℕ) : Type 0 where
    pub end : Cursor
    pub written : importing file x ≡ Spelling.text (minutes_text l m [])
    pub reads : minutes_at l (minutes_text l m []) (record { at = 0; line = 1 }) ≡ Parsed.got m end

  pub lines_read : (x m : List ℕ) (end : Cursor) → minutes_of file x ≡ Parsed.got m end → LinesRead x m
  unfolding importing
  lines_read x m end e =
      let w = accepted_export x m end e in
      let back = lines_back l read.limits m w.days in
      let again = minutes_spelt l read.limits (minutes_text l m []) (record { at = 0; line = 1 }) back.minutes back.reads.next back.reads.reads in
      let same : back.minutes ≡ m = minutes_only l back.minutes m (again.many ∙ sym w.many) again.idle w.idle back.same in
      record {
        end = back.reads.next;
        written = rw (accepted, sym (for_line x) ∙ e) refl;
        reads = back.reads.reads ∙ ap (λ (y : List ℕ). Parsed.got y back.reads.next) same;
      }
