-- Laws of the operation: the altered file is accepted and differs from the line's text in one field; and nothing is left free, for of each file, train, list and
-- lent entries there is at most one answer with one content.
use Rattle.std.specs.Prelude.{ℕ, ◌+◌, ◌-◌, ◌≤◌, ◌≡◌, refl, List, Result, Ok, Err, length, get_or}
use Rattle.std.proofs.Common.{sym, ap, ◌∙◌, subst, arith, ext_get_or, length-take-le}
use Rattle.std.proofs.Math.Decide.{dec_lt}
use Rattle.finite.specs.DecideLaws.{by_test}
use Rattle.text.specs.declared.Refusal.{Refusal}
use Rattle.text.specs.Reading.Parsed.{Parsed}
use Rattle.text.specs.Reading.Told.{refusal}
use Rattle.line.specs.declared.Line.{Line}
use Rattle.line.specs.File.{line_file, answered}
use Rattle.line.specs.PlaceLaws.{file_refusal}
use Rattle.line.specs.Record.{no_train, trains_of}
use Rattle.line.specs.RoundTripLaws.{Accepts, accepts_read}
use Rattle.line.specs.Starting.{starting}
use Rattle.timetable.specs.AnsweredLaws.{answered_got, answered_bad}
use Rattle.line.specs.StartingLaws.{OneField, starting_accepted, one_field}
use Rattle.starts.specs.Asking.{Asked}
use Rattle.starts.specs.AskingLaws.{decides_asked}
use Rattle.starts.specs.Operation.{altered_file, Filled, LineStarts, StartsAs, Starts}
use Rattle.starts.specs.Knowing.{FromFile}
use Rattle.starts.specs.TellsLaws.{tells_only}

-- ---- the file with that one field altered

module _ (file : List ℕ) (l : Line) (accepted : Accepts file l) (train : ℕ) (there : (1 ≤ train) × (train ≤ l.traffic.train_count)) (v : ℕ) where
  -- it is accepted, as the altered line
  pub altered_accepted : v ≤ 2879 → Accepts (altered_file l train v) (starting (train - 1) v l)
  altered_accepted day = starting_accepted v day l (train - 1) file accepted (omega (arith, there.0, there.1))

  -- it has the bytes of the file but for the earliest minute of the train
  pub altered-field : OneField (get_or (trains_of l) (train - 1) no_train).earliest v file (altered_file l train v)
  altered-field =
      let r = accepts_read file l accepted in
      let many = length-take-le l.traffic.train_count l.traffic.trains (omega (arith, r.limits.trains.1, r.arrays.trains)) in
      subst (λ (s : List ℕ). OneField (get_or (trains_of l) (train - 1) no_train).earliest v s (altered_file l train v)) r.text
      (one_field v l (train - 1) (omega (arith, many, there.0, there.1)))

-- ---- nothing is left free

module _ (file : List ℕ) (l : Line) (accepted : Accepts file l) (train : ℕ) (minutes entry : List ℕ)
    (asked : Asked l.traffic.train_count train minutes (length entry)) where
  -- one content of the entries
  filled_only : {exit exit' : List ℕ} → Filled l train minutes entry exit → Filled l train minutes entry exit' → exit ≡ exit'
  filled_only {exit} {exit'} x y = ext_get_or 0 exit exit' (x.size ∙ sym y.size) (λ k _. same k)
    where
      same : (k : ℕ) → get_or exit k 0 ≡ get_or exit' k 0
      same k = elim (dec_lt k (length minutes)) [
        | yes h ↦
            tells_only (altered_file l train (get_or minutes k 0)) (starting (train - 1) (get_or minutes k 0) l)
            (altered_accepted file l accepted train asked.there (get_or minutes k 0) (asked.days k h)) (get_or exit k 0) (get_or exit' k 0) (x.told k h) (y.told k h)
        | no h ↦ x.kept k (omega arith) ∙ sym (y.kept k (omega arith))
      ]

pub starts_only : (file : List ℕ) (train : ℕ) (minutes entry : List ℕ) {exit exit' : List ℕ} {r r' : Result (Unit {0}) Refusal} →
    Starts file train minutes entry exit r → Starts file train minutes entry exit' r' → (r ≡ r') × (exit ≡ exit')
starts_only file train minutes entry {exit} {exit'} {r} {r'} x y = go (line_file file) refl x y
  where
    go : (a : Parsed Line) → line_file file ≡ a → StartsAs a train minutes entry exit r → StartsAs a train minutes entry exit' r' → (r ≡ r') × (exit ≡ exit')
    go (Parsed.bad n p) e x y = (x.0 ∙ sym y.0, x.1 ∙ sym y.1)
    go (Parsed.got l c) e x y =
        by_test (decides_asked l.traffic.train_count train minutes (length entry))
        (λ asked.
        let p = x.asked asked in
        let q = y.asked asked in
        (p.0 ∙ sym q.0, filled_only file l (ap answered e) train minutes entry asked p.1 q.1))
        (λ not.
        let p = x.other not in
        let q = y.other not in
        (p.0 ∙ sym q.0, p.1 ∙ sym q.1))

-- ---- a place is that of the file's own refusal, or 0

pub refusal_bounded : (file : List ℕ) (train : ℕ) (minutes entry exit : List ℕ) (n p : ℕ) → Starts file train minutes entry exit (refusal n p) → p ≤ 4097
refusal_bounded file train minutes entry exit n p s = go (line_file file) refl s
  where
    place_is : {m q : ℕ} → ◌≡◌ {A = Result (Unit {0}) Refusal} (refusal n p) (refusal m q) → p ≡ q
    place_is {m} {q} e =
        let same : ◌≡◌ {A = Refusal} (record { number = n; place = p }) (record { number = m; place = q }) = cc in ap (λ (x : Refusal). x.place) same

    go : (a : Parsed Line) → line_file file ≡ a → StartsAs a train minutes entry exit (refusal n p) → p ≤ 4097
    go (Parsed.bad m q) e x = omega (arith, place_is x.0, (file_refusal file m q e).place)
    go (Parsed.got l c) e x =
        by_test (decides_asked l.traffic.train_count train minutes (length entry))
        (λ asked. absurd (refused_not (x.asked asked).0))
        (λ not. omega (arith, place_is (x.other not).0))
      where
        refused_not : ◌≡◌ {A = Result (Unit {0}) Refusal} (refusal n p) (Ok tt) → ⊥
        refused_not e = cc

-- ---- of a line, for the code

module _ (l : Line) (train : ℕ) (minutes entry : List ℕ) where
  pub line_refused : (Asked l.traffic.train_count train minutes (length entry) → ⊥) → LineStarts l train minutes entry entry (refusal 22 0)
  line_refused not = record { asked = λ a. absurd (not a); other = λ _. (refl, refl) }

  -- filled in for the train by its index
  pub line_filled : {exit : List ℕ} → Asked l.traffic.train_count train minutes (length entry) → Filled l (train - 1 + 1) minutes entry exit →
      LineStarts l train minutes entry exit (Ok tt)
  line_filled {exit} a f =
      let number : train - 1 + 1 ≡ train = omega (arith, a.there.0) in
      record { asked = λ _. (refl, subst (λ (t : ℕ). Filled l t minutes entry exit) number f); other = λ not. absurd (not a) }

-- ---- by the answer of the reading

module _ (file : List ℕ) (train : ℕ) (minutes : List ℕ) where
  pub file_refused : (entry : List ℕ) {e : Refusal} → ◌≡◌ {A = Result Line Refusal} (Err e) (answered (line_file file)) →
      Starts file train minutes entry entry (Err e)
  file_refused entry {e} is =
      subst (λ (x : Parsed Line). StartsAs x train minutes entry entry (Err e)) (sym (answered_bad (line_file file) is)) (refl, refl)

  pub file_accepted : {l : Line} → ◌≡◌ {A = Result Line Refusal} (Ok l) (answered (line_file file)) → {entry exit : List ℕ} {r : Result (Unit {0}) Refusal} →
      LineStarts l train minutes entry exit r → Starts file train minutes entry exit r
  file_accepted is {entry} {exit} {r} h =
      subst (λ (x : Parsed Line). StartsAs x train minutes entry exit r) (sym (answered_got (line_file file) is).got) h

-- its line was read from the file
pub file_line : (file : List ℕ) {l : Line} → ◌≡◌ {A = Result Line Refusal} (Ok l) (answered (line_file file)) → FromFile l
file_line file is = record { file = file; accepted = sym is }
