-- The last line of a text is what stands between its last two line feeds.
use Rattle.std.specs.Prelude.{ℕ, ◌+◌, ◌≡◌, Bool, true, false, List, [], ◌∷◌, ◌++◌, eqb}
use Rattle.std.proofs.Common.{sym, ◌∙◌, append_assoc, append-nil, arith}
use Rattle.text.specs.Reading.Choice.{pick}
use Rattle.text.specs.Places.Lines.{feeds}
use Rattle.text.specs.Places.LastLine.{last_from, last_line}

-- bytes without a line feed, and then one
one_line : (t last line : List ℕ) → feeds t ≡ 0 → last_from (t ++ (10 ∷ [])) last line ≡ line ++ t
one_line [] last line h = sym (append-nil line)
one_line (b ∷ bs) last line h = go (eqb b 10) h (λ e. one_line bs last (line ++ (b ∷ [])) e)
  where
    go : (c : Bool) → pick c (1 + feeds bs) (feeds bs) ≡ 0 → (feeds bs ≡ 0 → last_from (bs ++ (10 ∷ [])) last (line ++ (b ∷ [])) ≡ (line ++ (b ∷ [])) ++ bs) →
        pick c (last_from (bs ++ (10 ∷ [])) line []) (last_from (bs ++ (10 ∷ [])) last (line ++ (b ∷ []))) ≡ line ++ (b ∷ bs)
    go true e rest = absurd (omega arith)
    go false e rest = rest e ∙ append_assoc line (b ∷ []) bs

-- after whatever ends with a line feed
after-lines : (p t last line : List ℕ) → feeds t ≡ 0 → last_from (p ++ (10 ∷ (t ++ (10 ∷ [])))) last line ≡ t
after-lines [] t last line h = one_line t line [] h
after-lines (b ∷ bs) t last line h = go (eqb b 10) (after-lines bs t line [] h) (after-lines bs t last (line ++ (b ∷ [])) h)
  where
    go : (c : Bool) → last_from (bs ++ (10 ∷ (t ++ (10 ∷ [])))) line [] ≡ t → last_from (bs ++ (10 ∷ (t ++ (10 ∷ [])))) last (line ++ (b ∷ [])) ≡ t →
        pick c (last_from (bs ++ (10 ∷ (t ++ (10 ∷ [])))) line []) (last_from (bs ++ (10 ∷ (t ++ (10 ∷ [])))) last (line ++ (b ∷ []))) ≡ t
    go true x y = x
    go false x y = y

pub last_line_lem : (p t : List ℕ) → feeds t ≡ 0 → last_line (p ++ (10 ∷ (t ++ (10 ∷ [])))) ≡ t
unfolding last_line
last_line_lem p t h = after-lines p t [] [] h
