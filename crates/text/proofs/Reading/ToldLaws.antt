-- What a field of a reader's code tells is what the number of the text is.
use Rattle.std.specs.Prelude.{ℕ, ◌≡◌, List, Result}
use Rattle.std.proofs.Common.{sym, ap, ◌∙◌}
use Rattle.text.specs.declared.Cursor.{Cursor}
use Rattle.text.specs.declared.Limits.{Limits}
use Rattle.text.specs.declared.Refusal.{Refusal}
use Rattle.text.specs.Reading.Parsed.{ranged_at}
use Rattle.text.specs.Reading.Told.{told}

-- of a field f, which is g, with the limits l and the byte y after it that the code was given
pub ranged_told : (form range : ℕ) (r : Limits) (b : ℕ) (s : List ℕ) (c : Cursor) {l : Limits} {y : ℕ} {f g : Result (ℕ × Cursor) Refusal} → l ≡ r → y ≡ b →
    told f ≡ ranged_at form range l.min l.max y s c → f ≡ g → ranged_at form range r.min r.max b s c ≡ told g
ranged_told form range r b s c {l} limits byte told_f is =
    ap (λ (k : Limits). ranged_at form range k.min k.max b s c) (sym limits)
    ∙ ap (λ (k : ℕ). ranged_at form range l.min l.max k s c) (sym byte)
    ∙ sym told_f
    ∙ ap told is
