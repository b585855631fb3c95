-- Lists whose elements depend on those before them, as "in rising order", and a section that may be left off from the end of a file.
use Rattle.std.specs.Prelude.{ℕ, zero, suc, Bool, true, false, not, ◌&&◌, List, [], ◌∷◌, ltb, length}
use Rattle.text.specs.declared.Cursor.{Cursor}
use Rattle.text.specs.Reading.Choice.{pick}
use Rattle.text.specs.Reading.Parsed.{Parsed, then_read}

-- ---- each element after those before it

-- k parts in a row, each told what those before it come to: the first `so_far`, the next `after` of that and the first's value, and so on
unfoldable pub chained : {S A : Type 0} → (S → A → S) → (S → List ℕ → Cursor → Parsed A) → ℕ → S → List ℕ → Cursor → Parsed (List A)
chained after part zero so_far s c = Parsed.got [] c
chained after part (suc k) so_far s c =
    then_read (part so_far s c) (λ x next. then_read (chained after part k (after so_far x) s next) (λ xs end. Parsed.got (x ∷ xs) end))

-- P holds of each element and what those before it come to
abbrev pub EachAfter : {S A : Type 0} → (S → A → S) → (S → A → Type 0) → S → List A → Type 0
EachAfter after P so_far [] = Unit {0}
EachAfter after P so_far (x ∷ xs) = P so_far x × EachAfter after P (after so_far x) xs

-- ---- an optional section

-- whether bytes are left at a cursor
abbrev pub left : List ℕ → Cursor → Bool
left s c = ltb c.at (length s)

-- "Sections past the third may be left off from the end, and the last one written is never empty; a last section with count 0 is 3 at its line": at the
-- end of the file the section is the empty one; else it is read, and where it is empty bytes must be left after it. The newest section can only be the
-- last, so its own count starts at 1.
unfoldable pub optional_at : {A : Type 0} → (range : ℕ) → A → (A → Bool) → (List ℕ → Cursor → Parsed A) → List ℕ → Cursor → Parsed A
optional_at range none empty section s c =
    pick (left s c)
    (then_read (section s c) (λ x next. pick (empty x && not (left s next)) (Parsed.bad range c.line) (Parsed.got x next)))
    (Parsed.got none c)

abbrev pub nothing : List ℕ → Bool
nothing [] = true
nothing (b ∷ bs) = false

-- its text before that of the later sections: nothing where it and all of them are empty
unfoldable pub optional_text : {A : Type 0} → (A → Bool) → (A → List ℕ → List ℕ) → A → List ℕ → List ℕ
optional_text empty text x later = pick (empty x && nothing later) [] (text x later)
