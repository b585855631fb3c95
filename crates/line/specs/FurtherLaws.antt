-- The text of the sections past the third, as a record with counts and arrays has them: where each array has as many entries as its count says, it is the
-- text of the lists.
use Rattle.std.specs.Prelude.{ℕ, suc, ◌≡◌, refl, Bool, ◌&&◌, eqb, length, take}
use Rattle.std.proofs.Common.{sym, ap, ◌∙◌, arith, ne_eqb}
use mathlib.Core.List.{List, [], ◌∷◌}
use Rattle.text.specs.Reading.Choice.{pick}
use Rattle.text.specs.Elements.EachThen.{each_then}
use Rattle.text.specs.Sections.Chained.{nothing, optional_text}
use Rattle.line.specs.declared.Line.{Line}
use Rattle.line.specs.Record.{bookings_of, dues_of, further_of}
use Rattle.line.specs.File.{null}
use Rattle.line.specs.Spell.{field, booking_text, listed_text, counted_text, further_text, array_text, booked_text, unbooked, dues_text}

none_counted : {A : Type 0} (xs : List A) → eqb (length xs) 0 ≡ null xs
none_counted [] = refl
none_counted (x ∷ xs) = ne_eqb (suc (length xs)) 0 (omega arith)

-- of the first n of an array that has so many
array_text_lem : {A : Type 0} (text : A → List ℕ → List ℕ) (n : ℕ) (xs : List A) (later : List ℕ) → length (take n xs) ≡ n →
    pick (eqb n 0 && nothing later) [] (array_text text n xs later) ≡ optional_text null (counted_text text) (take n xs) later
unfolding optional_text
array_text_lem text n xs later many =
    ap (λ (e : Bool). pick (e && nothing later) [] (array_text text n xs later)) (ap (λ (k : ℕ). eqb k 0) (sym many) ∙ none_counted (take n xs))
    ∙ ap (λ (k : ℕ). pick (null (take n xs) && nothing later) [] (field k 10 (each_then text (take n xs) later))) (sym many)

pub further_text_lem : (l : Line) → length (bookings_of l) ≡ l.booked.booking_count → length (dues_of l) ≡ l.dues.count →
    optional_text unbooked booked_text l.booked (dues_text l) ≡ further_text (further_of l)
further_text_lem l bookings dues = booked ∙ ap (λ (rest : List ℕ). optional_text null (counted_text booking_text) (bookings_of l) rest) listed
  where
    booked : optional_text unbooked booked_text l.booked (dues_text l) ≡ optional_text null (counted_text booking_text) (bookings_of l) (dues_text l)
    booked = unfold optional_text in array_text_lem booking_text l.booked.booking_count l.booked.bookings (dues_text l) bookings

    listed : dues_text l ≡ optional_text null (counted_text listed_text) (dues_of l) []
    listed = unfold optional_text in array_text_lem listed_text l.dues.count l.dues.listed [] dues
