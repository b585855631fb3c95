-- Texts written one after the other are one text written.
use Rattle.std.specs.Prelude.{ℕ, suc, ◌+◌, ◌-◌, ◌<◌, ◌≤◌, ◌≡◌, refl, List, [], ◌∷◌, ◌++◌, length, get_or, set, take, drop}
use Rattle.std.proofs.Common.{sym, ap, ◌∙◌, arith, append_assoc, length-append, length-take-le, drop-drop, add-one, drop_of_length-le, drop-cons, append-nil}
use Rattle.std.proofs.lemmas.List.Edits.{sets, sets-eq}
use Rattle.std.proofs.Math.Seq.{length-sets, take-append_seam}
use Rattle.text.specs.Writing.Splice.{Put}

pub sets_append : (l : List ℕ) (i : ℕ) (t u : List ℕ) → sets (sets l i t) (i + length t) u ≡ sets l i (t ++ u)
sets_append l i [] u = let z : i + 0 ≡ i = omega arith in rw z refl
sets_append l i (b ∷ t) u =
    let z : i + suc (length t) ≡ suc i + length t = omega arith in
    rw z (sets_append _ (suc i) t u)

-- t and then u
pub put_then : {entry middle exit : List ℕ} {at next r : ℕ} {t u : List ℕ} → Put entry middle at t next → Put middle exit next u r →
    Put entry exit at (t ++ u) r
put_then {entry} {middle} {exit} {at} {next} {r} {t} {u} p q = record {
  bytes = q.bytes ∙ ap (λ (l : List ℕ). sets l next u) p.bytes ∙ ap (λ (i : ℕ). sets (sets entry at t) i u) p.next ∙ sets_append entry at t u;
  next = q.next ∙ ap (λ (i : ℕ). i + length u) p.next ∙ (rw length-append (omega arith));
}

-- the front of a buffer, with a text put after it
pub put_after : {entry exit : List ℕ} {at next : ℕ} {t : List ℕ} → Put entry exit at t next → at + length t ≤ length entry → take next exit ≡ take at entry ++ t
put_after {entry} {exit} {at} {next} {t} p fits =
    let size : next ≡ length (take at entry ++ t) = omega (arith, p.next, length-append (take at entry) t, length-take-le at entry (omega arith)) in
    ap (λ (l : List ℕ). take next l) (p.bytes ∙ sets-eq t entry at fits)
    ∙ ap (λ (k : ℕ). take k ((take at entry ++ t) ++ drop (at + length t) entry)) size
    ∙ take-append_seam (take at entry ++ t) (drop (at + length t) entry)

-- ---- a text written byte by byte from position `at` on, of which i bytes are written

module _ (t out : List ℕ) (at i : ℕ) where
  pub copy_step : i < length t → sets out (at + i) (drop i t) ≡ sets (set out (at + i) (get_or t i 0)) (at + (i + 1)) (drop (i + 1) t)
  copy_step h =
      let next : at + (i + 1) ≡ suc (at + i) = omega arith in
      rw (drop-cons t i 0 h, next, add-one i) refl

  pub copy_end : length t ≤ i → sets out (at + i) (drop i t) ≡ out
  copy_end e = rw (drop_of_length-le t e) refl

-- ---- a text written part by part in a loop

-- with rest yet to write from `at` on, the buffer becomes the former one with the whole text from `start` on
pub record Putting (entry : List ℕ) (start : ℕ) (whole now : List ℕ) (at : ℕ) (rest : List ℕ) : Type 0 where
  pub bytes : sets now at rest ≡ sets entry start whole
  pub next : at + length rest ≡ start + length whole
  pub size : length now ≡ length entry

module _ {entry : List ℕ} {start : ℕ} {whole : List ℕ} where
  pub putting_start : Putting entry start whole entry start whole
  putting_start = record { bytes = refl; next = refl; size = refl }

  pub putting_step : {now then t : List ℕ} {at next : ℕ} {rest : List ℕ} (left : List ℕ) → Putting entry start whole now at rest → rest ≡ t ++ left →
      Put now then at t next → Putting entry start whole then next left
  putting_step {now} {then} {t} {at} {next} {rest} left p e q = record {
    bytes =
        ap (λ (l : List ℕ). sets l next left) q.bytes
        ∙ ap (λ (i : ℕ). sets (sets now at t) i left) q.next
        ∙ sets_append now at t left
        ∙ ap (λ (l : List ℕ). sets now at l) (sym e)
        ∙ p.bytes;
    next = ap (λ (i : ℕ). i + length left) q.next ∙ (omega (arith, p.next, ap length e, length-append t left));
    size = ap length q.bytes ∙ length-sets now at t ∙ p.size;
  }

  -- a part fits where the whole does
  pub putting_room : {now : List ℕ} {at : ℕ} {rest : List ℕ} (t left : List ℕ) → Putting entry start whole now at rest → rest ≡ t ++ left →
      start + length whole ≤ length entry → at + length t ≤ length now
  putting_room t left p e fits = omega (arith, p.next, p.size, ap length e, length-append t left)

  pub putting_end : {now : List ℕ} {at : ℕ} {rest : List ℕ} → Putting entry start whole now at rest → rest ≡ [] → Put entry now start whole at
  putting_end {now} {at} {rest} p e = record {
    bytes = ap (λ (l : List ℕ). sets now at l) (sym e) ∙ p.bytes;
    next = omega (arith, p.next, ap length e);
  }

-- ---- a text of which `now` is written, with a part and the rest yet to write

module _ (now part rest : List ℕ) {whole : List ℕ} (left : now ++ (part ++ rest) ≡ whole) where
  pub part_put : (now ++ part) ++ rest ≡ whole
  part_put = append_assoc now part rest ∙ left

  -- the part fits where the whole does
  pub part_fits : length now + length part ≤ length whole
  part_fits = omega (arith, length-append {A = ℕ}, ap length part_put)

pub all_put : (now : List ℕ) {rest whole : List ℕ} → now ++ rest ≡ whole → rest ≡ [] → now ≡ whole
all_put now left none = sym (append-nil now) ∙ ap (λ (x : List ℕ). now ++ x) (sym none) ∙ left

-- ---- a text copied over the bytes from position `at` on

pub put_over : (out t ys : List ℕ) (at : ℕ) → at + length t ≤ length out → ys ≡ t →
    Put out (take at out ++ (ys ++ drop (at + length t - at) (drop at out))) at t (at + length t)
put_over out t ys at fits is =
    let count : at + length t - at ≡ length t = omega arith in
    record { bytes = rw (is, count, drop-drop (length t) at out) (sym (sets-eq t out at fits ∙ append_assoc (take at out) t (drop (at + length t) out))); next = refl }
