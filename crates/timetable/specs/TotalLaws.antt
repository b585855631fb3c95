-- The total weighted delay stands on the last line of a timetable's text, alone: whatever comes before it ends with a line feed.
use Rattle.std.specs.Prelude.{ℕ, ◌≡◌, refl, Bool, cond, List, [], ◌∷◌, ◌++◌, length}
use Rattle.std.proofs.Common.{sym, ap, ◌∙◌, append_assoc, append-nil, arith, ne_eqb}
use Rattle.text.specs.Elements.EachThen.{each_then}
use Rattle.text.specs.Writing.Digits.{digits}
use Rattle.text.specs.Places.Lines.{feeds}
use Rattle.text.specs.Places.FeedsLaws.{feeds-digits}
use Rattle.text.specs.Places.LastLine.{last_line}
use Rattle.text.specs.Places.LastLineLaws.{last_line_lem}
use Rattle.line.specs.declared.Line.{Line}
use Rattle.line.specs.Spell.{field}
use Rattle.rules.specs.Statement.Delay.{weighted_delay}
use Rattle.rules.specs.Lists.Orders.{list_count}
use Rattle.timetable.specs.Spell.{names_text, list_text, rest_text, minutes_text, list_numbers, timetable_text}
use Rattle.timetable.specs.WritingLaws.{minutes_then}

-- a part of a text, whatever follows it, is some bytes, a line feed and then that
pub record Ends (part : List ℕ → List ℕ) : Type 0 where
  pub bytes : List ℕ
  pub whole : (rest : List ℕ) → part rest ≡ bytes ++ (10 ∷ rest)

-- with a number before it
field_ends : (n b : ℕ) {part : List ℕ → List ℕ} → Ends part → Ends (λ rest. field n b (part rest))
field_ends n b e =
    record {
      bytes = digits n ++ (b ∷ e.bytes);
      whole = λ rest. ap (λ (x : List ℕ). digits n ++ (b ∷ x)) (e.whole rest) ∙ sym (append_assoc (digits n) (b ∷ e.bytes) (10 ∷ rest));
    }

-- the numbers of a list with some trains
names-end : (x : ℕ) (xs : List ℕ) → Ends (names_text (x ∷ xs))
unfolding names_text
names-end x [] = record { bytes = digits x; whole = λ rest. refl }
names-end x (y ∷ ys) = field_ends x 32 (names-end y ys)

list-end : (xs : List ℕ) → Ends (list_text xs)
unfolding list_text names_text
list-end [] = record { bytes = digits 0; whole = λ rest. refl }
list-end (x ∷ xs) =
    let some = field_ends (length (x ∷ xs)) 32 (names-end x xs) in
    let space = ap (λ (b : Bool). cond {A = ℕ} b 10 32) (ne_eqb (length (x ∷ xs)) 0 (λ z. omega arith)) in
    record { bytes = some.bytes; whole = λ rest. ap (λ (b : ℕ). field (length (x ∷ xs)) b (names_text (x ∷ xs) rest)) space ∙ some.whole rest }

-- lists after a line feed
lists_end : (p : List ℕ) (ls : List (List ℕ)) → Ends (λ rest. p ++ (10 ∷ each_then list_text ls rest))
lists_end p [] = record { bytes = p; whole = λ rest. refl }
lists_end p (xs ∷ ls) =
    let here = list-end xs in
    let others = lists_end (p ++ (10 ∷ here.bytes)) ls in
    record {
      bytes = others.bytes;
      whole = λ rest.
          ap (λ (x : List ℕ). p ++ (10 ∷ x)) (here.whole (each_then list_text ls rest))
          ∙ sym (append_assoc p (10 ∷ here.bytes) (10 ∷ each_then list_text ls rest))
          ∙ others.whole rest;
    }

digits_feedless : (n : ℕ) → feeds (digits n) ≡ 0
digits_feedless n = ap feeds (sym (append-nil (digits n))) ∙ feeds-digits n []

-- "Last, the total weighted delay"
pub total_last : (l : Line) (m : List ℕ) → last_line (timetable_text l m) ≡ digits (weighted_delay l m)
unfolding timetable_text rest_text
total_last l m =
    let total = digits (weighted_delay l m) in
    let lists = lists_end (minutes_text l m [] ++ digits (list_count l)) (list_numbers l m) in
    ap last_line
    (minutes_then l m _
    ∙ sym (append_assoc (minutes_text l m []) (digits (list_count l)) _)
    ∙ lists.whole (total ++ (10 ∷ [])))
    ∙ last_line_lem lists.bytes total (digits_feedless (weighted_delay l m))
