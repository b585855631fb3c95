-- What export and import answer, whatever the bytes: a text of at most 4,096 bytes, or a refusal by a number from 1 to 21 at a place of at most 4,097.
use Rattle.std.specs.Prelude.{ℕ, ◌≤◌, ◌≡◌, refl, List, length}
use Rattle.std.proofs.Common.{ap, arith}
use Rattle.text.specs.Reading.Parsed.{Parsed, then_read}
use Rattle.text.specs.Writing.Lend.{Spelling}
use Rattle.line.specs.declared.Line.{Line}
use Rattle.line.specs.File.{line_file, answered}
use Rattle.line.specs.PlaceLaws.{file_refusal, file_number}
use Rattle.line.specs.RoundTripLaws.{ReadFrom, accepts_read}
use Rattle.line.specs.RunnableLaws.{within_runnable}
use Rattle.rules.specs.StatementLaws.PathsLaws.{routed}
use Rattle.timetable.specs.Reading.{Timetable, timetable_file}
use Rattle.timetable.specs.PlaceLaws.{text_refusal}
use Rattle.timetable.specs.FitsLaws.{lines_fit}
use Rattle.gtfs.specs.Reading.{stop_times_file}
use Rattle.gtfs.specs.Operations.{spelt, stop_times_of, lines_of, exporting, importing}
use Rattle.gtfs.proofs.SpeltLaws.{stop_times_spelt}
use Rattle.gtfs.proofs.PlaceLaws.{import_refusal}
use Rattle.gtfs.specs.FitsLaws.{stop_times_fit}

pub record RefusalBounded (n p : ℕ) : Type 0 where
  pub number : (1 ≤ n) × (n ≤ 21)
  pub place : p ≤ 4097

abbrev pub SpellingBounded : Spelling → Type 0
SpellingBounded (Spelling.text t) = length t ≤ 4096
SpellingBounded (Spelling.refused n p) = RefusalBounded n p

-- a fault of the line file, or what is answered for its line
after_file : (file : List ℕ) (f : Line → Parsed (List ℕ)) → ((l : Line) → ReadFrom file l → SpellingBounded (spelt (f l))) →
    SpellingBounded (spelt (then_read (line_file file) (λ l _. f l)))
after_file file f answer = go (line_file file) refl
  where
    go : (a : Parsed Line) → line_file file ≡ a → SpellingBounded (spelt (then_read a (λ l _. f l)))
    go (Parsed.got l c) e = answer l (accepts_read file l (ap answered e))
    go (Parsed.bad n p) e =
        let x = file_refusal file n p e in
        let number = file_number x.number in
        record { number = (number.0, omega (arith, number.1)); place = x.place }

pub export_bounded : (file s : List ℕ) → SpellingBounded (exporting file s)
unfolding exporting
export_bounded file s = after_file file (λ l. stop_times_of l (timetable_file l s)) (λ l r. go l r (timetable_file l s) refl)
  where
    go : (l : Line) → ReadFrom file l → (a : Parsed Timetable) → timetable_file l s ≡ a → SpellingBounded (spelt (stop_times_of l a))
    go l r (Parsed.got t c) e = stop_times_fit l t.minutes r.limits
    go l r (Parsed.bad n p) e =
        let x = text_refusal l s n p e in
        record { number = (omega (arith, x.number), omega (arith, x.number)); place = x.place }

pub import_bounded : (file s : List ℕ) → SpellingBounded (importing file s)
unfolding importing
import_bounded file s = after_file file (λ l. lines_of l (stop_times_file l s)) (λ l r. go l r (stop_times_file l s) refl)
  where
    go : (l : Line) → ReadFrom file l → (a : Parsed (List ℕ)) → stop_times_file l s ≡ a → SpellingBounded (spelt (lines_of l a))
    go l r (Parsed.got m c) e =
        let read = stop_times_spelt l r.limits.trains.1 (λ i h. routed l i (within_runnable l r.limits) r.arrays.trains h) s m c e in
        lines_fit l m r.limits read.days
    go l r (Parsed.bad n p) e =
        let x = import_refusal l r.limits s n p e in
        record { number = (omega (arith, x.number), omega (arith, x.number)); place = omega (arith, x.place) }
