-- Parts in a row whose values are laid into an array: what a loop over lines does, a step at a time.
use Rattle.std.specs.Prelude.{ℕ, suc, ◌+◌, ◌≡◌, refl, List, ◌∷◌, set}
use Rattle.std.proofs.Common.{ap, ◌∙◌, add-one}
use Rattle.std.proofs.lemmas.List.Edits.{sets}
use Rattle.text.specs.declared.Cursor.{Cursor}
use Rattle.text.specs.Reading.Parsed.{Parsed, then_read, map_parsed, many}
use Rattle.text.proofs.Reading.ParsedLaws.{many_done, many_step, many-stop}
use Rattle.text.specs.Sections.Chained.{chained}
use Rattle.text.proofs.Sections.ChainedLaws.{chained_done, chained_step, chained-stop}

-- k parts, their values laid into xs from index i on
abbrev pub lay_many : {A : Type 0} → ℕ → (ℕ → List ℕ → Cursor → Parsed A) → List ℕ → Cursor → List A → ℕ → Parsed (List A)
lay_many k part s c xs i = map_parsed (λ ys. sets xs i ys) (many k part s c)

lay_cons : {A : Type 0} (r : Parsed (List A)) (xs : List A) (i : ℕ) (x : A) →
    map_parsed (λ ys. sets xs i ys) (then_read r (λ ys end. Parsed.got (x ∷ ys) end)) ≡ map_parsed (λ ys. sets (set xs i x) (suc i) ys) r
lay_cons (Parsed.got ys end) xs i x = refl
lay_cons (Parsed.bad n p) xs i x = refl

module _ {A : Type 0} (part : ℕ → List ℕ → Cursor → Parsed A) (k j : ℕ) (s : List ℕ) (c : Cursor) (xs : List A) (i : ℕ) where
  pub lay_done : k ≡ 0 → lay_many k part s c xs i ≡ Parsed.got xs c
  lay_done z = ap (λ (r : Parsed (List A)). map_parsed (λ ys. sets xs i ys) r) (many_done part k 0 s c z)

  pub lay_step : k ≡ suc j → (x : A) (next : Cursor) → part j s c ≡ Parsed.got x next →
      lay_many k part s c xs i ≡ lay_many j part s next (set xs i x) (i + 1)
  lay_step z x next e =
      rw (add-one i) (
      ap (λ (r : Parsed (List A)). map_parsed (λ ys. sets xs i ys) r) (many_step part k j s c z x next e)
      ∙ lay_cons (many j part s next) xs i x
      )

  pub lay_stop : k ≡ suc j → (n m : ℕ) → part j s c ≡ Parsed.bad n m → lay_many k part s c xs i ≡ Parsed.bad n m
  lay_stop z n m e = ap (λ (r : Parsed (List A)). map_parsed (λ ys. sets xs i ys) r) (many-stop part k j s c z n m e)

-- ---- each after those before it

-- k parts, each told what those before it come to, their values laid into xs from index i on
abbrev pub lay_chain : {S A : Type 0} → (S → A → S) → (S → List ℕ → Cursor → Parsed A) → ℕ → S → List ℕ → Cursor → List A → ℕ → Parsed (List A)
lay_chain after part k so_far s c xs i = map_parsed (λ ys. sets xs i ys) (chained after part k so_far s c)

module _ {S A : Type 0} (after : S → A → S) (part : S → List ℕ → Cursor → Parsed A) (k j : ℕ) (so_far : S) (s : List ℕ) (c : Cursor) (xs : List A) (i : ℕ) where
  pub chain_lay_done : k ≡ 0 → lay_chain after part k so_far s c xs i ≡ Parsed.got xs c
  chain_lay_done z = ap (λ (r : Parsed (List A)). map_parsed (λ ys. sets xs i ys) r) (chained_done after part k 0 so_far s c z)

  pub chain_lay_step : k ≡ suc j → (x : A) (next : Cursor) → part so_far s c ≡ Parsed.got x next →
      lay_chain after part k so_far s c xs i ≡ lay_chain after part j (after so_far x) s next (set xs i x) (i + 1)
  chain_lay_step z x next e =
      rw (add-one i) (
      ap (λ (r : Parsed (List A)). map_parsed (λ ys. sets xs i ys) r) (chained_step after part k j so_far s c z x next e)
      ∙ lay_cons (chained after part j (after so_far x) s next) xs i x
      )

  pub chain_lay_stop : k ≡ suc j → (n m : ℕ) → part so_far s c ≡ Parsed.bad n m → lay_chain after part k so_far s c xs i ≡ Parsed.bad n m
  chain_lay_stop z n m e = ap (λ (r : Parsed (List A)). map_parsed (λ ys. sets xs i ys) r) (chained-stop after part k j so_far s c z n m e)
