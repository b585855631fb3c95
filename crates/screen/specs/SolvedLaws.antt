-- Demand 3 for what `gaugeviolet_solve` returns, number and value unpacked: 0 with the length of a text that passes the check with that file and is the best
-- timetable's; 5 exactly when no timetable keeps every rule; 6 exactly where its text is longer than the lent bytes; else the file's own number and place.
use Rattle.std.specs.Prelude.{ℕ, ◌≤◌, ◌<◌, ◌≡◌, List, ◌++◌, Result, Ok, Err, length, take, drop}
use Rattle.std.proofs.Common.{sym, ap, ◌∙◌, ⊎_elim, arith}
use Rattle.text.specs.declared.Cursor.{Cursor}
use Rattle.text.specs.declared.Refusal.{Refusal}
use Rattle.text.specs.Reading.Parsed.{Parsed}
use Rattle.text.specs.Reading.Told.{refusal}
use Rattle.line.specs.declared.Line.{Line}
use Rattle.line.specs.File.{line_file}
use Rattle.rules.specs.Statement.Rules.{Lawful}
use Rattle.rules.specs.Statement.Delay.{Best}
use Rattle.timetable.specs.Spell.{timetable_text}
use Rattle.timetable.specs.Check.{check_of}
use Rattle.timetable.specs.FitsLaws.{timetable_fits}
use Rattle.solver.specs.Promise.Solving.{Refuses, Solving}
use Rattle.solver.specs.Promise.Demand.{Printed, Length, printed_best, printed_passes, refused_so, five_only, five_then, room_then, six_then, room_printed, AnswerBounded, answer_bounded}
use Rattle.service.specs.Packing.{packed, Packs, PacksWritten, number_in, value_in, packed_written}
use Rattle.service.specs.PackingLaws.{Unpacks, packed_tells}
use Rattle.screen.specs.Solved.{Solved}

-- what solving answers can be packed
bounded_packs : (r : Result ℕ Refusal) → AnswerBounded r → PacksWritten r
bounded_packs (Ok n) h = omega arith
bounded_packs (Err e) h = omega (arith, h.1)

pub solving_packs : (file entry exit : List ℕ) (w : Result ℕ Refusal) → Solving file entry exit w → PacksWritten w
solving_packs file entry exit w s = bounded_packs w (answer_bounded file entry exit w s)

-- ---- number and value are those of the answer

written_tells : (w : Result ℕ Refusal) (r n p : ℕ) → r ≡ packed_written w → w ≡ refusal n p → PacksWritten w → Unpacks r n p
written_tells w r n p is e h = packed_tells r n p (is ∙ ap packed_written e) (rw e at h)

-- number 0 is a length
length_told : (w : Result ℕ Refusal) (r : ℕ) → r ≡ packed_written w → AnswerBounded w → number_in r ≡ 0 → w ≡ Ok (value_in r)
length_told (Ok n) r is h zero =
    let told = packed_tells r 0 n is (omega arith) in
    ap Ok (sym told.1)
length_told (Err e) r is h zero =
    let told = packed_tells r e.number e.place is (omega (arith, h.1)) in
    absurd (⊎_elim (λ b. omega (arith, told.0, b.0)) (λ k. omega (arith, told.0, k)) h.0)

-- number 5 is that refusal
five_told : (w : Result ℕ Refusal) (r : ℕ) → r ≡ packed_written w → AnswerBounded w → number_in r ≡ 5 → value_in r ≡ 0 → w ≡ refusal 5 0
five_told (Ok n) r is h five zero =
    let told = packed_tells r 0 n is (omega arith) in
    absurd (omega (arith, told.0))
five_told (Err e) r is h five zero =
    let told = packed_tells r e.number e.place is (omega (arith, h.1)) in
    ap (λ (k : ℕ). refusal {A = ℕ} k e.place) (sym told.0 ∙ five) ∙ ap (λ (k : ℕ). refusal {A = ℕ} 5 k) (sym told.1 ∙ zero)

-- ---- the theorems

module _ (file entry exit : List ℕ) (r : ℕ) (s : Solved file entry exit r) where
  bounded : AnswerBounded s.written
  bounded = answer_bounded file entry exit s.written s.solving

  packs : PacksWritten s.written
  packs = bounded_packs s.written bounded

  -- what is printed passes the check with that file
  pub screen_passes : number_in r ≡ 0 → check_of file (take (value_in r) exit) ≡ Ok tt
  screen_passes e = printed_passes file entry exit s.written s.solving (value_in r) (length_told s.written r s.answer bounded e)

  -- a refused file is told by its number and place, with every lent byte as before
  pub screen_refused : (n p : ℕ) → line_file file ≡ Parsed.bad n p → Unpacks r n p × (exit ≡ entry)
  screen_refused n p e =
      let x = refused_so file entry exit s.written s.solving n p e in
      (written_tells s.written r n p s.answer x.0 packs, x.1)

  module _ (l : Line) (c : Cursor) (accepted : line_file file ≡ Parsed.got l c) where
    -- and is the best timetable
    pub screen_best : number_in r ≡ 0 → Printed l exit (value_in r)
    screen_best e = printed_best file entry exit s.written s.solving l c accepted (value_in r) (length_told s.written r s.answer bounded e)

    -- 5 exactly when no timetable keeps every rule
    pub screen_five_then : ((m : List ℕ) → Lawful l m → ⊥) → Unpacks r 5 0 × (exit ≡ entry)
    screen_five_then h =
        let x = five_then file entry exit s.written s.solving l c accepted h in
        (written_tells s.written r 5 0 s.answer x.0 packs, x.1)

    pub screen_five_only : Unpacks r 5 0 → (m : List ℕ) → Lawful l m → ⊥
    screen_five_only t =
        five_only file entry exit s.written s.solving l c accepted (five_told s.written r s.answer bounded t.0 t.1)

    -- the best timetable is printed exactly where its text is no longer than the lent bytes, and 6 comes otherwise
    pub screen_printed : (m : List ℕ) → Best l m → length (timetable_text l m) ≤ length entry →
        Unpacks r 0 (length (timetable_text l m)) × (exit ≡ timetable_text l m ++ drop (length (timetable_text l m)) entry)
    screen_printed m b h =
        let x = room_then file entry exit s.written s.solving l c accepted m b h in
        (packed_tells r 0 (length (timetable_text l m)) (s.answer ∙ ap packed_written x.0) (rw x.0 at packs), x.1)

    pub screen_six : (m : List ℕ) → Best l m → length entry < length (timetable_text l m) → Unpacks r 6 0 × (exit ≡ entry)
    screen_six m b h =
        let x = six_then file entry exit s.written s.solving l c accepted m b h in
        (written_tells s.written r 6 0 s.answer x.0 packs, x.1)
