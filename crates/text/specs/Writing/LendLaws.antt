-- Laws of writing into lent bytes: its two endings, and what an answer says.
use Rattle.std.specs.Prelude.{ℕ, ◌+◌, ◌<◌, ◌≤◌, ◌≡◌, refl, List, ◌++◌, length, take, drop, Result, Ok}
use Rattle.std.proofs.Common.{sym, ◌∙◌, arith, le-leb}
use Rattle.std.proofs.Math.Path.{ap}
use Rattle.std.proofs.lemmas.Bool.{lt-leb}
use Rattle.std.proofs.lemmas.List.Edits.{sets, sets-eq}
use Rattle.std.proofs.Math.Seq.{take-append_seam}
use Rattle.text.specs.declared.Refusal.{Refusal}
use Rattle.text.specs.Reading.Told.{refusal}
use Rattle.text.specs.Writing.Splice.{Put}
use Rattle.text.specs.Writing.Lend.{Spelling, written_of, bytes_after, Lent}

-- ---- the two endings

pub lent_short : (t out : List ℕ) → length out < length t → Lent (Spelling.text t) out out (refusal 6 0)
unfolding written_of
lent_short t out h = record { answer = simp (lt-leb (length t) (length out) h); bytes = refl }

pub lent-whole : (t entry exit : List ℕ) (n : ℕ) → length t ≡ n → n ≤ length entry → exit ≡ sets entry 0 t →
    Lent (Spelling.text t) entry exit (Ok n)
unfolding written_of
lent-whole t entry exit n e h w =
    let z : 0 + length t ≡ length t = omega arith in
    record {
      answer = rw (e, le-leb n (length entry) h) refl;
      bytes = w ∙ sets-eq t entry 0 (omega arith) ∙ ap (λ (k : ℕ). t ++ drop k entry) z;
    }

pub lent_refused : {what : Spelling} {r : Result ℕ Refusal} {n p : ℕ} (out : List ℕ) → r ≡ refusal n p → what ≡ Spelling.refused n p → Lent what out out r
unfolding written_of
lent_refused out e w = rw (e, w) (record { answer = refl; bytes = refl })

-- ---- what an answer says

-- there is one answer, with one content of the lent bytes
pub lent_there : (what : Spelling) (entry : List ℕ) →
    Lent what entry (bytes_after (written_of what (length entry)) what entry) (written_of what (length entry))
lent_there what entry = record { answer = refl; bytes = refl }

pub lent_only : {what : Spelling} {entry exit exit' : List ℕ} {r r' : Result ℕ Refusal} → Lent what entry exit r → Lent what entry exit' r' → (r ≡ r') × (exit ≡ exit')
lent_only {what} {entry} x y =
    let same = x.answer ∙ sym y.answer in
    (same, x.bytes ∙ ap (λ (w : Result ℕ Refusal). bytes_after w what entry) same ∙ sym y.bytes)

-- of a text: it is written exactly where it is no longer than the lent bytes, and 6 comes otherwise
module _ {t entry exit : List ℕ} {r : Result ℕ Refusal} (lent : Lent (Spelling.text t) entry exit r) where
  pub text_written : length t ≤ length entry → (r ≡ Ok (length t)) × (exit ≡ t ++ drop (length t) entry)
  unfolding written_of
  text_written h =
      let length_is : r ≡ Ok (length t) = lent.answer ∙ (rw (le-leb (length t) (length entry) h) refl) in
      (length_is, lent.bytes ∙ ap (λ (w : Result ℕ Refusal). bytes_after w (Spelling.text t) entry) length_is)

  pub text_refused : length entry < length t → (r ≡ refusal 6 0) × (exit ≡ entry)
  unfolding written_of
  text_refused h =
      let six : r ≡ refusal 6 0 = lent.answer ∙ (rw (lt-leb (length t) (length entry) h) refl) in
      (six, lent.bytes ∙ ap (λ (w : Result ℕ Refusal). bytes_after w (Spelling.text t) entry) six)

-- of a refusal: it is handed on
pub refusal_lent : {n p : ℕ} {entry exit : List ℕ} {r : Result ℕ Refusal} → Lent (Spelling.refused n p) entry exit r → (r ≡ refusal n p) × (exit ≡ entry)
unfolding written_of
refusal_lent {n} {p} {entry} lent =
    (lent.answer, lent.bytes ∙ ap (λ (w : Result ℕ Refusal). bytes_after w (Spelling.refused n p) entry) lent.answer)

-- ---- lending the front of a buffer

-- what there is to write may be given by another name
pub lent_as : {what other : Spelling} {entry exit : List ℕ} {r : Result ℕ Refusal} → what ≡ other → Lent other entry exit r → Lent what entry exit r
lent_as is lent = rw is lent

-- what was put at the front of a buffer stands there
pub put_front : (entry exit t : List ℕ) (n : ℕ) → Put entry exit 0 t n → length t ≤ length entry → take n exit ≡ t
put_front entry exit t n p fits =
    let count : n ≡ length t = omega (arith, p.next) in
    ap (λ (l : List ℕ). take n l) (p.bytes ∙ sets-eq t entry 0 (omega arith))
    ∙ ap (λ (k : ℕ). take k (t ++ drop (0 + length t) entry)) count
    ∙ take-append_seam t (drop (0 + length t) entry)

-- where that text is what there is to write, lending the front of the buffer writes it
pub lent_front : {what : Spelling} {buffer entry exit : List ℕ} {n : ℕ} {r : Result ℕ Refusal} (zeros t : List ℕ) → what ≡ Spelling.text t →
    length t ≤ length zeros → Put zeros buffer 0 t n → Lent (Spelling.text (take n buffer)) entry exit r → Lent what entry exit r
lent_front {buffer = buffer} {n = n} zeros t is fits put lent = rw (is, sym (put_front zeros buffer t n put fits)) lent
