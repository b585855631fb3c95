-- Demand 3 of every file, from what solving promises: what is printed passes the check with that file and is the best timetable; 5 comes exactly when no
-- timetable keeps every rule; every other accepted file's timetable is printed where its text is no longer than the lent bytes, as it is with 4,096 of them;
-- and nothing is left free: there is exactly one answer, with one content of the lent bytes.
use Rattle.std.specs.Prelude.{ℕ, ◌≤◌, ◌<◌, ◌≡◌, refl, ◌⊎◌, List, Result, Ok, Err, ◌++◌, length, take, drop}
use Rattle.std.proofs.Common.{sym, ap, ◌∙◌, subst, inl, inr, ⊎_elim, arith}
use Rattle.std.proofs.Math.Path.{subst⁻¹}
use Rattle.std.proofs.Math.Decide.{dec_le}
use Rattle.std.proofs.Math.Seq.{take-append_seam}
use Rattle.text.specs.declared.Cursor.{Cursor}
use Rattle.text.specs.declared.Refusal.{Refusal}
use Rattle.text.specs.Reading.Parsed.{Parsed}
use Rattle.text.specs.Reading.Told.{refusal}
use Rattle.text.specs.Writing.Lend.{Spelling, Lent}
use Rattle.text.specs.Writing.LendLaws.{lent_there, lent_only, text_written, text_refused}
use Rattle.line.specs.declared.Line.{Line}
use Rattle.line.specs.File.{line_file, answered}
use Rattle.line.specs.Within.{Within, Arrays}
use Rattle.line.specs.PlaceLaws.{FileNumber, file_refusal}
use Rattle.line.specs.RoundTripLaws.{accepts_read}
use Rattle.rules.specs.Statement.Rules.{Lawful}
use Rattle.rules.specs.Statement.Delay.{Best}
use Rattle.timetable.specs.Spell.{timetable_text}
use Rattle.timetable.specs.Check.{check_of}
use Rattle.timetable.specs.FitsLaws.{timetable_fits}
use Rattle.timetable.specs.ExactCheckLaws.{passed}
use Rattle.plans.specs.Theory.BestSoFar.{BestSoFar, nothing, found}
use Rattle.plans.specs.Instance.Planning.{planning}
use Rattle.walk.specs.Walk.{walk}
use Rattle.walk.specs.WalkBestLaws.{walk_best, walk-nothing}
use Rattle.solver.specs.Promise.Solving.{Refuses, LineSolved, SolvedAs, Solving}
use Rattle.solver.specs.Promise.SolvingLaws.{line_none, line_best}

-- ---- a line has a best timetable, or none keeps every rule

pub record HasBest (l : Line) : Type 0 where
  pub minutes : List ℕ
  pub best : Best l minutes

pub decided : (l : Line) → Within l → Arrays l → HasBest l ⊎ ((m : List ℕ) → Lawful l m → ⊥)
decided l w a = go (walk (planning l)).best refl
  where
    go : (b : BestSoFar) → (walk (planning l)).best ≡ b → HasBest l ⊎ ((m : List ℕ) → Lawful l m → ⊥)
    go nothing e = inr (walk-nothing l w a e)
    go (found m) e = inl (record { minutes = m; best = walk_best l w a m e })

-- ---- answers that differ

not-length : {n m p : ℕ} → ◌≡◌ {A = Result ℕ Refusal} (Ok n) (refusal m p) → ⊥
not-length e = cc

five_six : ◌≡◌ {A = Result ℕ Refusal} (refusal 5 0) (refusal 6 0) → ⊥
five_six e =
    let same : ◌≡◌ {A = Refusal} (record { number = 5; place = 0 }) (record { number = 6; place = 0 }) = cc in
    let z : ◌≡◌ {A = ℕ} 5 6 = ap (λ (x : Refusal). x.number) same in
    omega arith

length_is : {n m : ℕ} → ◌≡◌ {A = Result ℕ Refusal} (Ok n) (Ok m) → n ≡ m
length_is e = cc

-- ---- a text that was written stands at the front of the lent bytes

module _ {t entry exit : List ℕ} {r : Result ℕ Refusal} (lent : Lent (Spelling.text t) entry exit r) where
  written_front : (n : ℕ) → r ≡ Ok n → take n exit ≡ t
  written_front n e = elim (dec_le (length t) (length entry)) [
    | yes h ↦ (
        let w = text_written lent h in
        ap (λ (k : ℕ). take k exit) (length_is (sym e ∙ w.0)) ∙ ap (take (length t)) w.1 ∙ take-append_seam t (drop (length t) entry))
    | no h ↦ absurd (not-length (sym e ∙ (text_refused lent (omega arith)).0))
  ]

  -- it is not refused but by 6
  not_five : r ≡ refusal 5 0 → ⊥
  not_five e = elim (dec_le (length t) (length entry)) [
    | yes h ↦ not-length (sym (text_written lent h).0 ∙ e)
    | no h ↦ five_six (sym e ∙ (text_refused lent (omega arith)).0)
  ]

-- ---- the theorems, of a line that was solved

-- the n bytes printed are the text of the best timetable: it keeps every rule, and every other that does is worse
pub record Printed (l : Line) (exit : List ℕ) (n : ℕ) : Type 0 where
  pub minutes : List ℕ
  pub best : Best l minutes
  pub text : take n exit ≡ timetable_text l minutes

module _ (l : Line) (w : Within l) (a : Arrays l) {entry exit : List ℕ} {r : Result ℕ Refusal} (solved : LineSolved l entry exit r) where
  line_printed : (n : ℕ) → r ≡ Ok n → Printed l exit n
  line_printed n e =
      ⊎_elim
      (λ h. record { minutes = h.minutes; best = h.best; text = written_front (solved.best h.minutes h.best) n e })
      (λ h. absurd (not-length (sym e ∙ (solved.none h).0)))
      (decided l w a)

  line_five : r ≡ refusal 5 0 → (m : List ℕ) → Lawful l m → ⊥
  line_five e = ⊎_elim (λ h. absurd (not_five (solved.best h.minutes h.best) e)) (λ h. h) (decided l w a)

-- of one line and lent bytes there is one answer and one content
line_solution : (l : Line) → Within l → Arrays l → (entry : List ℕ) → (exit : List ℕ) × (r : Result ℕ Refusal) × LineSolved l entry exit r
line_solution l w a entry =
    ⊎_elim
    (λ h. (_, _, line_best l w a h.minutes h.best (lent_there (Spelling.text (timetable_text l h.minutes)) entry)))
    (λ h. (entry, refusal 5 0, line_none entry h))
    (decided l w a)

line_only : (l : Line) → Within l → Arrays l → {entry exit exit' : List ℕ} {r r' : Result ℕ Refusal} → LineSolved l entry exit r → LineSolved l entry exit' r' →
    (r ≡ r') × (exit ≡ exit')
line_only l w a x y =
    ⊎_elim
    (λ h. lent_only (x.best h.minutes h.best) (y.best h.minutes h.best))
    (λ h. ((x.none h).0 ∙ sym (y.none h).0, (x.none h).1 ∙ sym (y.none h).1))
    (decided l w a)

-- ---- the theorems, of a file that was solved

accepted_within : (file : List ℕ) (l : Line) (c : Cursor) → line_file file ≡ Parsed.got l c → Within l × Arrays l
accepted_within file l c e = let r = accepts_read file l (ap answered e) in (r.limits, r.arrays)

module _ (file entry exit : List ℕ) (r : Result ℕ Refusal) (solving : Solving file entry exit r) where
  -- a refused file is refused with its number and its place
  pub refused_so : (n p : ℕ) → line_file file ≡ Parsed.bad n p → Refuses n p entry exit r
  refused_so n p e = subst (λ (x : Parsed Line). SolvedAs x entry exit r) e solving

  module _ (l : Line) (c : Cursor) (accepted : line_file file ≡ Parsed.got l c) where
    solved : LineSolved l entry exit r
    solved = subst (λ (x : Parsed Line). SolvedAs x entry exit r) accepted solving

    within : Within l × Arrays l
    within = accepted_within file l c accepted

    -- what is printed is the text of the best timetable
    pub printed_best : (n : ℕ) → r ≡ Ok n → Printed l exit n
    printed_best n e = line_printed l within.0 within.1 solved n e

    -- 5 exactly when no timetable keeps every rule
    pub five_only : r ≡ refusal 5 0 → (m : List ℕ) → Lawful l m → ⊥
    five_only e = line_five l within.0 within.1 solved e

    pub five_then : ((m : List ℕ) → Lawful l m → ⊥) → Refuses 5 0 entry exit r
    five_then h = solved.none h

    -- the best timetable is printed exactly where its text is no longer than the lent bytes; 6 comes otherwise
    pub room_then : (m : List ℕ) → Best l m → length (timetable_text l m) ≤ length entry →
        (r ≡ Ok (length (timetable_text l m))) × (exit ≡ timetable_text l m ++ drop (length (timetable_text l m)) entry)
    room_then m b h = text_written (solved.best m b) h

    pub six_then : (m : List ℕ) → Best l m → length entry < length (timetable_text l m) → Refuses 6 0 entry exit r
    six_then m b h = text_refused (solved.best m b) h

    -- so with 4,096 lent bytes the timetable of every other accepted file is printed: never 6
    pub record Length : Type 0 where
      pub length_of : ℕ
      pub written : r ≡ Ok length_of

    pub room_printed : (m : List ℕ) → Lawful l m → 4096 ≤ length entry → Length
    room_printed m lawful room =
        ⊎_elim
        (λ h.
        let fits = timetable_fits l h.minutes within.0 h.best.lawful.days in
        record { length_of = _; written = (room_then h.minutes h.best (omega (arith, fits, room))).0 })
        (λ h. absurd (h m lawful))
        (decided l within.0 within.1)

  -- what is printed passes the check with that file
  pub printed_passes : (n : ℕ) → r ≡ Ok n → check_of file (take n exit) ≡ Ok tt
  printed_passes n e = go (line_file file) refl
    where
      go : (a : Parsed Line) → line_file file ≡ a → check_of file (take n exit) ≡ Ok tt
      go (Parsed.got l c) accepted =
          let p = printed_best l c accepted n e in
          passed file (take n exit) (record { line = l; end = c; accepted = accepted; minutes = p.minutes; lawful = p.best.lawful; text = p.text })
      go (Parsed.bad m p) accepted = absurd (not-length (sym e ∙ (refused_so m p accepted).0))

-- ---- the bounds of an answer: a length is at most 4,096; a refusal is by 1 to 6 or by 19, at a place of at most 4,097

abbrev pub AnswerBounded : Result ℕ Refusal → Type 0
AnswerBounded (Ok n) = n ≤ 4096
AnswerBounded (Err e) = (((1 ≤ e.number) × (e.number ≤ 6)) ⊎ (e.number ≡ 19)) × (e.place ≤ 4097)

line_bounded : (l : Line) → Within l → Arrays l → {entry exit : List ℕ} {r : Result ℕ Refusal} → LineSolved l entry exit r → AnswerBounded r
line_bounded l w a {entry} {exit} {r} solved = ⊎_elim found_one (λ h. rw (solved.none h).0 (inl (omega arith, omega arith), omega arith)) (decided l w a)
  where
    found_one : HasBest l → AnswerBounded r
    found_one h =
        let lent = solved.best h.minutes h.best in
        elim (dec_le (length (timetable_text l h.minutes)) (length entry)) [
          | yes fits ↦ rw (text_written lent fits).0 (timetable_fits l h.minutes w h.best.lawful.days)
          | no long ↦ rw (text_refused lent (omega arith)).0 (inl (omega arith, omega arith), omega arith)
        ]

pub answer_bounded : (file entry exit : List ℕ) (r : Result ℕ Refusal) → Solving file entry exit r → AnswerBounded r
answer_bounded file entry exit r solving = go (line_file file) refl
  where
    by_file : {n : ℕ} → FileNumber n → ((1 ≤ n) × (n ≤ 6)) ⊎ (n ≡ 19)
    by_file (inl (low, high)) = inl (low, omega (arith, high))
    by_file (inr e) = inr e

    go : (a : Parsed Line) → line_file file ≡ a → AnswerBounded r
    go (Parsed.got l c) e =
        let within = accepted_within file l c e in
        line_bounded l within.0 within.1 (subst (λ (x : Parsed Line). SolvedAs x entry exit r) e solving)
    go (Parsed.bad n p) e =
        let x = file_refusal file n p e in
        rw (refused_so file entry exit r solving n p e).0 (by_file x.number, x.place)

-- ---- nothing is left free

-- an answer with what stands in the lent bytes then
pub record Solution (file entry : List ℕ) : Type 0 where
  pub content : List ℕ
  pub answer : Result ℕ Refusal
  pub solving : Solving file entry content answer

-- for every file and all lent bytes there is one
pub solution : (file entry : List ℕ) → Solution file entry
solution file entry = go (line_file file) refl
  where
    go : (a : Parsed Line) → line_file file ≡ a → Solution file entry
    go (Parsed.got l c) e =
        let within = accepted_within file l c e in
        let s = line_solution l within.0 within.1 entry in
        record { content = s.0; answer = s.1; solving = subst⁻¹ (λ (x : Parsed Line). SolvedAs x entry s.0 s.1) e s.2 }
    go (Parsed.bad n p) e =
        record { content = entry; answer = refusal n p; solving = subst⁻¹ (λ (x : Parsed Line). SolvedAs x entry entry (refusal n p)) e (refl, refl) }

-- and no other
pub solution_only : (file entry : List ℕ) {exit exit' : List ℕ} {r r' : Result ℕ Refusal} → Solving file entry exit r → Solving file entry exit' r' →
    (r ≡ r') × (exit ≡ exit')
solution_only file entry {exit} {exit'} {r} {r'} x y = go (line_file file) refl
  where
    go : (a : Parsed Line) → line_file file ≡ a → (r ≡ r') × (exit ≡ exit')
    go (Parsed.got l c) e =
        let within = accepted_within file l c e in
        line_only l within.0 within.1 (subst (λ (z : Parsed Line). SolvedAs z entry exit r) e x) (subst (λ (z : Parsed Line). SolvedAs z entry exit' r') e y)
    go (Parsed.bad n p) e =
        let x' = subst (λ (z : Parsed Line). SolvedAs z entry exit r) e x in
        let y' = subst (λ (z : Parsed Line). SolvedAs z entry exit' r') e y in
        (x'.0 ∙ sym y'.0, x'.1 ∙ sym y'.1)
