-- The theorem of the checking service: a text passes the check of a line file exactly when the file is accepted and the text is that of lawful minutes of
-- its line. What is read is the text again; and the text of lawful minutes is read as minutes that are the same, with its own lists and total.
use Rattle.std.specs.Prelude.{ℕ, ◌≡◌, refl, List, Ok, map}
use Rattle.std.proofs.Common.{◌∙◌, arith}
use Rattle.std.proofs.Math.Path.{ap}
use Rattle.text.specs.declared.Cursor.{Cursor}
use Rattle.text.specs.Reading.Parsed.{Parsed}
use Rattle.line.specs.declared.Line.{Line}
use Rattle.line.specs.File.{line_file, answered}
use Rattle.line.specs.Within.{Within, Arrays}
use Rattle.line.specs.RoundTripLaws.{ReadFrom, accepts_read}
use Rattle.rules.specs.Statement.Rules.{Lawful}
use Rattle.rules.specs.Statement.Delay.{weighted_delay, Same}
use Rattle.rules.proofs.Check.ExactLaws.{lawful_of, of_lawful}
use Rattle.rules.specs.StatementLaws.SameLaws.{same_sym, delay-same, lists_same, lawful_same}
use Rattle.timetable.specs.Reading.{Timetable, timetable_file}
use Rattle.timetable.specs.Spell.{numbers, list_numbers, timetable_text}
use Rattle.timetable.specs.Check.{timetable_breach, judged, checked, check_of}
use Rattle.timetable.specs.CheckLaws.{rest_right, right_rest, timetable_right, right_timetable}
use Rattle.timetable.specs.SpeltLaws.{timetable_spelt}
use Rattle.timetable.specs.ReadsLaws.{timetable_reads}
use Rattle.timetable.specs.FitsLaws.{lists_numbers, numbers-count, total_small, timetable_fits}

-- the file is accepted, and the text is that of minutes that keep every rule of its line
pub record PassedBy (file s : List ℕ) : Type 0 where
  pub line : Line
  pub end : Cursor
  pub accepted : line_file file ≡ Parsed.got line end
  pub minutes : List ℕ
  pub lawful : Lawful line minutes
  pub text : s ≡ timetable_text line minutes

-- ---- what passes is the text of lawful minutes

read_line : (file : List ℕ) (l : Line) (c : Cursor) → line_file file ≡ Parsed.got l c → ReadFrom file l
read_line file l c e = accepts_read file l (ap answered e)

module _ (file s : List ℕ) (l : Line) (c : Cursor) (accepted : line_file file ≡ Parsed.got l c) where
  text_passes : (t : Timetable) (end : Cursor) → timetable_file l s ≡ Parsed.got t end → timetable_breach l t ≡ Ok tt → PassedBy file s
  unfolding timetable_text
  text_passes t end e b =
      let r = read_line file l c accepted in
      let k = timetable_spelt l r.limits s t end e in
      let none = timetable_right l t b in
      let own = rest_right l t.minutes t.rest k.many_lists none.1 in
      record {
        line = l;
        end = c;
        accepted = accepted;
        minutes = t.minutes;
        lawful = lawful_of l r.limits r.arrays t.minutes k.days none.0;
        text = k.text ∙ (rw (own.0, own.1) refl);
      }

  judged_passes : (r : Parsed Timetable) → timetable_file l s ≡ r → judged l r ≡ Ok tt → PassedBy file s
  judged_passes (Parsed.got t end) e v = text_passes t end e v
  judged_passes (Parsed.bad n p) e v = let z : ◌≡◌ {A = ℕ} 0 1 = cc in absurd (omega arith)

checked_passes : (file s : List ℕ) (r : Parsed Line) → line_file file ≡ r → checked r s ≡ Ok tt → PassedBy file s
checked_passes file s (Parsed.got l c) e v = judged_passes file s l c e (timetable_file l s) refl v
checked_passes file s (Parsed.bad n p) e v = let z : ◌≡◌ {A = ℕ} 0 1 = cc in absurd (omega arith)

pub passes : (file s : List ℕ) → check_of file s ≡ Ok tt → PassedBy file s
unfolding check_of
passes file s v = checked_passes file s (line_file file) refl v

-- ---- the text of lawful minutes passes

module _ (l : Line) (w : Within l) (a : Arrays l) (m : List ℕ) (h : Lawful l m) where
  -- with the lists and the total of m, minutes that are the same break nothing
  same_passes : (m' : List ℕ) → Same l m' m →
      timetable_breach l (record { minutes = m'; rest = record { lists = list_numbers l m; total = weighted_delay l m } }) ≡ Ok tt
  same_passes m' s =
      let back = same_sym l m' m s in
      right_timetable l _ (of_lawful l w a m' (lawful_same l m m' back w a h))
      (right_rest l m' _ (ap (map numbers) (lists_same l m m' back w a)) (delay-same l m m' back w a))

  own_text : judged l (timetable_file l (timetable_text l m)) ≡ Ok tt
  unfolding timetable_text
  own_text =
      let total = total_small l m w h.days in
      let fits = timetable_fits l m w h.days in
      let t = timetable_reads l w (list_numbers l m) (weighted_delay l m) (numbers-count l m) (lists_numbers l m) total m h.days fits in
      ap (judged l) t.reads ∙ same_passes t.minutes t.same

pub passed : (file s : List ℕ) → PassedBy file s → check_of file s ≡ Ok tt
unfolding check_of
passed file s p =
    let r = read_line file p.line p.end p.accepted in
    rw (p.accepted, p.text) (own_text p.line r.limits r.arrays p.minutes p.lawful)
