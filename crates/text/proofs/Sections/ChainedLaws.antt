-- Laws of lists whose elements depend on those before them, and of an optional section: each step of a loop, what is read is its text, a text is read as its
-- value, and places. They stand over any element and any section with such laws of its own.
use Prim.Native.Nat.{ℕ, zero, suc, ◌+◌, ◌*◌, ◌≤◌}
use Rattle.std.specs.Prelude.{◌≡◌, ◌⊎◌, ◌&&◌, length}
use Rattle.std.proofs.Math.Path.{refl, sym, ap}
use Rattle.std.proofs.Common.{◌∙◌, true≢false, arith, le-ltb, ltb-true, ltb-false}
use Rattle.std.proofs.Math.Logic.{inl, inr}
use Rattle.std.proofs.Math.Bool.{Bool, true, false, not, and-eq-true_iff}
use mathlib.Core.List.{List, [], ◌∷◌, ◌++◌}
use Rattle.std.proofs.Math.ListN.{drop_of_length-le}
use Rattle.text.specs.declared.Cursor.{Cursor}
use Rattle.text.specs.Reading.Choice.{pick}
use Rattle.text.specs.Reading.Bytes.{from}
use Rattle.text.specs.Reading.BytesLaws.{at_length, from_cons}
use Rattle.text.specs.Reading.Parsed.{Parsed, then_read}
use Rattle.text.proofs.Reading.ParsedLaws.{then_got, pick_got, got_is, Reads, at_end, reads_then}
use Rattle.finite.specs.Each.{Each}
use Rattle.text.specs.Elements.EachThen.{each_then}
use Rattle.text.specs.Places.Lines.{HoldsOn}
use Rattle.text.proofs.Places.LinesLaws.{stands_then, stands_test}
use Rattle.text.specs.Sections.Chained.{chained, EachAfter, left, optional_at, nothing, optional_text}

-- what holds of each element after those before it, in other words
pub each_after-map : {S A : Type 0} (after : S → A → S) (P Q : S → A → Type 0) → ((so_far : S) (x : A) → P so_far x → Q so_far x) → (xs : List A) (so_far : S) →
    EachAfter after P so_far xs → EachAfter after Q so_far xs
each_after-map after P Q one [] so_far v = tt
each_after-map after P Q one (x ∷ xs) so_far v = (one so_far x v.0, each_after-map after P Q one xs (after so_far x) v.1)

-- what holds of each by itself
pub each_of_after : {S A : Type 0} (after : S → A → S) (P : S → A → Type 0) (Q : A → Type 0) → ((so_far : S) (x : A) → P so_far x → Q x) → (xs : List A)
    (so_far : S) → EachAfter after P so_far xs → Each Q xs
each_of_after after P Q one [] so_far v = tt
each_of_after after P Q one (x ∷ xs) so_far v = (one so_far x v.0, each_of_after after P Q one xs (after so_far x) v.1)

-- ---- a step of the loop that reads them

module _ {S A : Type 0} (after : S → A → S) (part : S → List ℕ → Cursor → Parsed A) (k j : ℕ) (so_far : S) (s : List ℕ) (c : Cursor) where
  pub chained_done : k ≡ 0 → chained after part k so_far s c ≡ Parsed.got [] c
  unfolding chained
  chained_done z = rw z refl

  pub chained_step : k ≡ suc j → (x : A) (next : Cursor) → part so_far s c ≡ Parsed.got x next →
      chained after part k so_far s c ≡ then_read (chained after part j (after so_far x) s next) (λ xs end. Parsed.got (x ∷ xs) end)
  unfolding chained
  chained_step z x next e = rw (z, e) refl

  pub chained-stop : k ≡ suc j → (n p : ℕ) → part so_far s c ≡ Parsed.bad n p → chained after part k so_far s c ≡ Parsed.bad n p
  unfolding chained
  chained-stop z n p e = rw (z, e) refl

-- as many are read as are asked for
pub chained-length : {S A : Type 0} (after : S → A → S) (part : S → List ℕ → Cursor → Parsed A) (k : ℕ) (so_far : S) (s : List ℕ) (c : Cursor) (xs : List A)
    (next : Cursor) → chained after part k so_far s c ≡ Parsed.got xs next → length xs ≡ k
unfolding chained
chained-length after part zero so_far s c xs next e = got_is (λ ys end. length ys ≡ 0) e refl
chained-length after part (suc k) so_far s c xs next e =
    let a = then_got (part so_far s c) _ xs next e in
    let b = then_got (chained after part k (after so_far a.value) s a.next) _ xs next a.after in
    got_is (λ ys end. length ys ≡ suc k) b.after
    (ap suc (chained-length after part k (after so_far a.value) s a.next b.value b.next b.first))

-- ---- what was read is its text, and a text is read as its value

module _ {S A : Type 0} (after : S → A → S) (part : S → List ℕ → Cursor → Parsed A) (P : S → A → Type 0) (text : A → List ℕ → List ℕ) (s : List ℕ) where
  pub record ChainSpelt (k : ℕ) (so_far : S) (c : Cursor) (xs : List A) (next : Cursor) : Type 0 where
    pub many : length xs ≡ k
    pub valid : EachAfter after P so_far xs
    pub spelt : from s c ≡ each_then text xs (from s next)

  pub chained-spelt : ((so_far : S) (c : Cursor) (x : A) (next : Cursor) → part so_far s c ≡ Parsed.got x next → P so_far x × (from s c ≡ text x (from s next))) →
      (k : ℕ) (so_far : S) (c : Cursor) (xs : List A) (next : Cursor) → chained after part k so_far s c ≡ Parsed.got xs next → ChainSpelt k so_far c xs next
  unfolding chained
  chained-spelt one zero so_far c xs next e =
      got_is (λ ys end. ChainSpelt 0 so_far c ys end) e (record { many = refl; valid = tt; spelt = refl })
  chained-spelt one (suc k) so_far c xs next e =
      let a = then_got (part so_far s c) _ xs next e in
      let b = then_got (chained after part k (after so_far a.value) s a.next) _ xs next a.after in
      let h = one so_far c a.value a.next a.first in
      let t = chained-spelt one k (after so_far a.value) a.next b.value b.next b.first in
      got_is (λ ys end. ChainSpelt (suc k) so_far c ys end) b.after (record {
        many = ap suc t.many;
        valid = (h.0, t.valid);
        spelt = h.1 ∙ ap (λ (y : List ℕ). text a.value y) t.spelt;
      })

  pub chained_reads : ((so_far : S) (c : Cursor) (x : A) (rest : List ℕ) → P so_far x → from s c ≡ text x rest → Reads (part so_far s c) x s rest) →
      (xs : List A) (so_far : S) (c : Cursor) (rest : List ℕ) → EachAfter after P so_far xs → from s c ≡ each_then text xs rest →
      Reads (chained after part (length xs) so_far s c) xs s rest
  unfolding chained
  chained_reads one [] so_far c rest v e = record { next = c; reads = refl; leaves = e }
  chained_reads one (x ∷ xs) so_far c rest v e =
      reads_then _ (one so_far c x (each_then text xs rest) v.0 e)
      (λ next h. reads_then _ (chained_reads one xs (after so_far x) next rest v.1 h) (λ end l. at_end _ end l))

  -- of elements whose text takes at most w bytes
  pub chain_length : (w : ℕ) → ((so_far : S) (x : A) (rest : List ℕ) → P so_far x → length (text x rest) ≤ w + length rest) →
      (xs : List A) (so_far : S) (rest : List ℕ) → EachAfter after P so_far xs → length (each_then text xs rest) ≤ length xs * w + length rest
  chain_length w one [] so_far rest v = omega arith
  chain_length w one (x ∷ xs) so_far rest v =
      omega (arith, one so_far x (each_then text xs rest) v.0, chain_length w one xs (after so_far x) rest v.1)

-- ---- places

module _ (P : Cursor → Type 0) (Q : ℕ → Type 0) where
  pub stands-chained : {S A : Type 0} (after : S → A → S) (part : S → List ℕ → Cursor → Parsed A) (s : List ℕ) →
      ((so_far : S) (c : Cursor) → P c → HoldsOn P Q (part so_far s c)) → (k : ℕ) (so_far : S) (c : Cursor) → P c → HoldsOn P Q (chained after part k so_far s c)
  unfolding chained
  stands-chained after part s one zero so_far c h = h
  stands-chained after part s one (suc k) so_far c h =
      stands_then P Q (part so_far s c) _ (one so_far c h)
      (λ x next h₁. stands_then P Q (chained after part k (after so_far x) s next) _ (stands-chained after part s one k (after so_far x) next h₁)
      (λ xs end h₂. h₂))

-- ---- an optional section

nothing_left : (s : List ℕ) (c : Cursor) → nothing (from s c) ≡ not (left s c)
nothing_left s c = go (left s c) refl
  where
    go : (b : Bool) → left s c ≡ b → nothing (from s c) ≡ not b
    go true e = ap nothing (from_cons s c (ltb-true c.at (length s) e))
    go false e = ap nothing (drop_of_length-le s (ltb-false c.at (length s) e))

nothing_is : (l : List ℕ) → nothing l ≡ true → l ≡ []
nothing_is [] n = refl
nothing_is (y ∷ l) n = absurd (true≢false (sym n))

-- of a section with such laws of its own
module _ {A : Type 0} (range : ℕ) (none : A) (empty : A → Bool) (none-empty : empty none ≡ true) (section : List ℕ → Cursor → Parsed A) (s : List ℕ) where
  -- what was read, and why
  pub record OptionalRead (c : Cursor) (x : A) (next : Cursor) : Type 0 where
    pub why : ((left s c ≡ false) × (x ≡ none) × (next ≡ c)) ⊎ ((section s c ≡ Parsed.got x next) × (empty x && not (left s next) ≡ false))

  optional_got : (c : Cursor) (x : A) (next : Cursor) → optional_at range none empty section s c ≡ Parsed.got x next → OptionalRead c x next
  unfolding optional_at
  optional_got c x next e = go (left s c) refl e
    where
      go : (b : Bool) → left s c ≡ b →
          pick b (then_read (section s c) (λ y end. pick (empty y && not (left s end)) (Parsed.bad range c.line) (Parsed.got y end))) (Parsed.got none c)
          ≡ Parsed.got x next → OptionalRead c x next
      go false h q = record { why = inl (h, cc, cc) }
      go true h q =
          let a = then_got (section s c) _ x next q in
          let b = pick_got (empty a.value && not (left s a.next)) range c.line (Parsed.got a.value a.next) x next a.after in
          record { why = inr (got_is (λ y end. (section s c ≡ Parsed.got y end) × (empty y && not (left s end) ≡ false)) b.1 (a.first, b.0)) }

  module _ (P : A → Type 0) (text : A → List ℕ → List ℕ) (none-valid : P none) where
    -- what was read is its text before what follows
    pub optional_spelt : ((c : Cursor) (x : A) (next : Cursor) → section s c ≡ Parsed.got x next → P x × (from s c ≡ text x (from s next))) →
        (c : Cursor) (x : A) (next : Cursor) → optional_at range none empty section s c ≡ Parsed.got x next →
        P x × (from s c ≡ optional_text empty text x (from s next))
    unfolding optional_text
    optional_spelt one c x next e = go (optional_got c x next e).why
      where
        go : ((left s c ≡ false) × (x ≡ none) × (next ≡ c)) ⊎ ((section s c ≡ Parsed.got x next) × (empty x && not (left s next) ≡ false)) →
            P x × (from s c ≡ pick (empty x && nothing (from s next)) [] (text x (from s next)))
        go (inl (h, x-is, next_is)) =
            rw (x-is, next_is, none-empty, nothing_left s c, h) (none-valid, drop_of_length-le s (ltb-false c.at (length s) h))
        go (inr (got, some)) = let r = one c x next got in (r.0, rw (nothing_left s next, some) r.1)

  -- a text is read as its value; where it is nothing, the value is the empty one
  pub optional_reads : (text : A → List ℕ → List ℕ) (x : A) → (empty x ≡ true → x ≡ none) → ((rest : List ℕ) → text x rest ≡ [] → ⊥) → (later : List ℕ) →
      (empty x && nothing later ≡ false → (c : Cursor) → from s c ≡ text x later → Reads (section s c) x s later) → (c : Cursor) →
      from s c ≡ optional_text empty text x later → Reads (optional_at range none empty section s c) x s later
  unfolding optional_at optional_text
  optional_reads text x only some later one c e = go (empty x && nothing later) refl e
    where
      Read : Bool → Type 0
      Read b =
          Reads
          (pick b (then_read (section s c) (λ y end. pick (empty y && not (left s end)) (Parsed.bad range c.line) (Parsed.got y end))) (Parsed.got none c))
          x s later

      -- after a section that is empty bytes are left
      accepted : empty x && nothing later ≡ false → (next : Cursor) → from s next ≡ later →
          Reads (pick (empty x && not (left s next)) (Parsed.bad range c.line) (Parsed.got x next)) x s later
      accepted h next l =
          let test : empty x && not (left s next) ≡ false =
          ap (λ (b : Bool). empty x && b) (sym (nothing_left s next) ∙ ap nothing l) ∙ h in
          rw test (at_end x next l)

      written : empty x && nothing later ≡ false → from s c ≡ text x later → (b : Bool) → left s c ≡ b → Read b
      written h q true here = reads_then _ (one h c q) (λ next l. accepted h next l)
      written h q false here = absurd (some later (sym q ∙ drop_of_length-le s (ltb-false c.at (length s) here)))

      go : (b : Bool) → empty x && nothing later ≡ b → from s c ≡ pick b [] (text x later) → Read (left s c)
      go false h q = written h q (left s c) refl
      go true h q =
          let (is-empty, none_later) = (and-eq-true_iff (empty x) (nothing later)).0 h in
          rw (le-ltb c.at (length s) (at_length s c q)) (record {
            next = c;
            reads = ap (λ (y : A). Parsed.got y c) (sym (only is-empty));
            leaves = q ∙ sym (nothing_is later none_later);
          })

  -- places
  pub stands_optional : (P : Cursor → Type 0) (Q : ℕ → Type 0) → Q range → (c : Cursor) → P c → HoldsOn P Q (section s c) →
      HoldsOn P Q (optional_at range none empty section s c)
  unfolding optional_at
  stands_optional P Q q c h k = go (left s c)
    where
      go : (b : Bool) →
          HoldsOn P Q
          (pick b (then_read (section s c) (λ y end. pick (empty y && not (left s end)) (Parsed.bad range c.line) (Parsed.got y end))) (Parsed.got none c))
      go true = stands_then P Q (section s c) _ k (λ x next h₁. stands_test P Q (empty x && not (left s next)) range c (Parsed.got x next) q h h₁)
      go false = h

-- its text takes no more than the section's own
pub optional_length : {A : Type 0} (empty : A → Bool) (text : A → List ℕ → List ℕ) (x : A) (later : List ℕ) (w : ℕ) → length (text x later) ≤ w + length later →
    length (optional_text empty text x later) ≤ w + length later
unfolding optional_text
optional_length empty text x later w h = go (empty x && nothing later)
  where
    go : (b : Bool) → length (pick b [] (text x later)) ≤ w + length later
    go true = omega arith
    go false = h

module _ {A : Type 0} (empty : A → Bool) (text : A → List ℕ → List ℕ) (x : A) (later : List ℕ) where
  -- its text by itself, where it is not left off, and then the later ones
  pub optional_parts : text x later ≡ text x [] ++ later → optional_text empty text x later ≡ pick (empty x && nothing later) [] (text x []) ++ later
  unfolding optional_text
  optional_parts parts = go (empty x && nothing later) refl
    where
      go : (b : Bool) → empty x && nothing later ≡ b → pick b [] (text x later) ≡ pick b [] (text x []) ++ later
      go true h = sym (nothing_is later ((and-eq-true_iff (empty x) (nothing later)).0 h).1)
      go false h = parts

  -- nothing is written exactly where it and the later ones are empty
  pub optional_nothing : (text x later ≡ [] → ⊥) → nothing (optional_text empty text x later) ≡ empty x && nothing later
  unfolding optional_text
  optional_nothing some = go (empty x && nothing later)
    where
      written : (l : List ℕ) → (l ≡ [] → ⊥) → nothing l ≡ false
      written [] h = absurd (h refl)
      written (y ∷ l) h = refl

      go : (b : Bool) → nothing (pick b [] (text x later)) ≡ b
      go true = refl
      go false = written (text x later) some
