-- What was packed comes back: number and value, as both have their bounds. So what the exported functions return says what the reading and the check answer.
use Rattle.std.specs.Prelude.{ℕ, ◌≤◌, ◌≡◌, refl, List, Result, Ok, Err, length}
use Rattle.std.proofs.Common.{ap, ◌∙◌, arith}
use Rattle.std.proofs.Math.Decide.{dec_le}
use Rattle.text.specs.declared.Cursor.{Cursor}
use Rattle.text.specs.declared.Refusal.{Refusal}
use Rattle.text.specs.Writing.Lend.{Spelling, bytes_after, Lent}
use Rattle.text.specs.Writing.LendLaws.{text_written, text_refused, refusal_lent}
use Rattle.text.specs.Reading.Parsed.{Parsed}
use Rattle.text.specs.Reading.Told.{refusal}
use Rattle.line.specs.declared.Line.{Line}
use Rattle.line.specs.File.{line_file, answered}
use Rattle.line.specs.PlaceLaws.{FileNumber, file_number, file_refusal}
use Rattle.timetable.specs.Check.{check_of}
use Rattle.timetable.specs.ExactCheckLaws.{PassedBy, passes, passed}
use Rattle.timetable.specs.RefusalLaws.{check_refusal}
use Rattle.service.specs.Packing.{packed, Packs, PacksAnswer, PacksWritten, number_in, value_in, packed_answer, packed_written, LentPacked}

pub unpacked_number : (n v : ℕ) → Packs v → number_in (packed n v) ≡ n
unpacked_number n v h = omega arith

pub unpacked_value : (n v : ℕ) → Packs v → value_in (packed n v) ≡ v
unpacked_value n v h = omega arith

-- number and value of an answer r are these
abbrev pub Unpacks : ℕ → ℕ → ℕ → Type 0
Unpacks r n p = (number_in r ≡ n) × (value_in r ≡ p)

pub packed_tells : (r n p : ℕ) → r ≡ packed n p → Packs p → Unpacks r n p
packed_tells r n p e h = (ap number_in e ∙ unpacked_number n p h, ap value_in e ∙ unpacked_value n p h)

-- ---- a writing

-- what lending gives, packed
pub lent-packed : {what : Spelling} {entry exit : List ℕ} {r : ℕ} {w : Result ℕ Refusal} → Lent what entry exit w → r ≡ packed_written w → LentPacked what entry exit r
lent-packed {what} {entry} lent p = record {
  answer = p ∙ ap packed_written lent.answer;
  bytes = lent.bytes ∙ ap (λ (y : Result ℕ Refusal). bytes_after y what entry) lent.answer;
}

-- a text of at most 4,096 bytes and a refusal at a place of at most 4,097 can be packed
pub text_packs : {what : Spelling} {t entry exit : List ℕ} {w : Result ℕ Refusal} → what ≡ Spelling.text t → length t ≤ 4096 → Lent what entry exit w → PacksWritten w
text_packs {t = t} {entry = entry} is fits lent =
    let own = rw is at lent in
    elim (dec_le (length t) (length entry)) [
      | yes h ↦ rw (text_written own h).0 (omega arith)
      | no h ↦ rw (text_refused own (omega arith)).0 (omega arith)
    ]

pub refusal_packs : {what : Spelling} {n p : ℕ} {entry exit : List ℕ} {w : Result ℕ Refusal} → what ≡ Spelling.refused n p → p ≤ 4097 → Lent what entry exit w → PacksWritten w
refusal_packs is small lent = rw (refusal_lent (rw is at lent)).0 (omega arith)

-- ---- a reading

-- what reading answers can be packed
pub read_packs : (file : List ℕ) → PacksAnswer (answered (line_file file))
read_packs file = go (line_file file) refl
  where
    go : (a : Parsed Line) → line_file file ≡ a → PacksAnswer (answered a)
    go (Parsed.got l c) e = tt
    go (Parsed.bad n p) e = omega (arith, (file_refusal file n p e).place)

module _ (file : List ℕ) (r : ℕ) (is : r ≡ packed_answer (answered (line_file file))) where
  -- a refused file is told by its number, 1 to 4 or 19, and its place
  pub read_refused : (n p : ℕ) → line_file file ≡ Parsed.bad n p → Unpacks r n p × FileNumber n
  read_refused n p e =
      let x = file_refusal file n p e in
      (packed_tells r n p (is ∙ ap (λ (a : Parsed Line). packed_answer (answered a)) e) (omega (arith, x.place)), x.number)

  -- 0 exactly where the file is accepted
  pub read_accepted : (l : Line) (c : Cursor) → line_file file ≡ Parsed.got l c → r ≡ 0
  read_accepted l c e = is ∙ ap (λ (a : Parsed Line). packed_answer (answered a)) e

  pub record Accepted : Type 0 where
    pub line : Line
    pub end : Cursor
    pub got : line_file file ≡ Parsed.got line end

  pub zero_accepted : number_in r ≡ 0 → Accepted
  zero_accepted h = go (line_file file) refl
    where
      go : (a : Parsed Line) → line_file file ≡ a → Accepted
      go (Parsed.got l c) e = record { line = l; end = c; got = e }
      go (Parsed.bad n p) e = let x = read_refused n p e in absurd (omega (arith, x.0.0, (file_number x.1).0))

-- ---- a check

-- what checking answers can be packed
pub check_packs : (file s : List ℕ) → PacksAnswer (check_of file s)
check_packs file s = go (check_of file s) refl
  where
    go : (v : Result (Unit {0}) Refusal) → check_of file s ≡ v → PacksAnswer v
    go (Ok _) e = tt
    go (Err y) e = omega (arith, (check_refusal file s y.number y.place e).place)

module _ (file s : List ℕ) (r : ℕ) (is : r ≡ packed_answer (check_of file s)) where
  pub check_refused : (n p : ℕ) → check_of file s ≡ refusal n p → Unpacks r n p × (1 ≤ n) × (n ≤ 19)
  check_refused n p e =
      let x = check_refusal file s n p e in
      (packed_tells r n p (is ∙ ap packed_answer e) (omega (arith, x.place)), x.number.0, x.number.1)

  -- 0 exactly where the file is accepted and the text is that of minutes that keep every rule of its line
  pub check_passes : number_in r ≡ 0 → PassedBy file s
  check_passes h = go (check_of file s) refl
    where
      go : (v : Result (Unit {0}) Refusal) → check_of file s ≡ v → PassedBy file s
      go (Ok _) e = passes file s e
      go (Err y) e = let x = check_refused y.number y.place e in absurd (omega (arith, x.0.0, x.1))

  pub check_passed : PassedBy file s → r ≡ 0
  check_passed h = is ∙ ap packed_answer (passed file s h)
