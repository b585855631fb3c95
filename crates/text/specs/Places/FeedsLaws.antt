-- The line feeds of texts: digits have none, so a field has one exactly when a line feed comes after it; and the part of a text that begins on a line.
use Rattle.std.specs.Prelude.{ℕ, zero, suc, ◌+◌, ◌/◌, ◌%◌, ◌<◌, ◌≡◌, refl, Bool, true, false, List, [], ◌∷◌, ◌++◌, ltb, eqb, length, get_or, take}
use Rattle.std.proofs.Common.{sym, ap, ◌∙◌, append_assoc, arith, ne_eqb}
use Rattle.std.proofs.Math.Seq.{take-append_seam}
use Rattle.text.specs.Reading.Choice.{pick}
use Rattle.text.specs.Writing.Digits.{digits_up_to, digits}
use Rattle.text.specs.Elements.EachThen.{each_then}
use Rattle.text.specs.Places.Lines.{feeds, LineAt}

pub feeds-append : (xs ys : List ℕ) → feeds (xs ++ ys) ≡ feeds xs + feeds ys
feeds-append [] ys = omega arith
feeds-append (x ∷ xs) ys = ap (λ (k : ℕ). pick (eqb x 10) (1 + k) k) (feeds-append xs ys) ∙ out (eqb x 10) (feeds xs) (feeds ys)
  where
    out : (b : Bool) (j k : ℕ) → pick b (1 + (j + k)) (j + k) ≡ pick b (1 + j) j + k
    out true j k = omega arith
    out false j k = refl

-- ---- digits

digit_no_feed : (n : ℕ) → feeds ((n % 10 + 48) ∷ []) ≡ 0
digit_no_feed n = rw (ne_eqb (n % 10 + 48) 10 (λ z. omega arith)) refl

up_to_no_feed : (k n : ℕ) → feeds (digits_up_to k n) ≡ 0
unfolding digits_up_to
up_to_no_feed zero n = digit_no_feed n
up_to_no_feed (suc k) n = go (ltb n 10) (up_to_no_feed k (n / 10))
  where
    go : (b : Bool) → feeds (digits_up_to k (n / 10)) ≡ 0 → feeds (pick b ((n % 10 + 48) ∷ []) (digits_up_to k (n / 10) ++ ((n % 10 + 48) ∷ []))) ≡ 0
    go true h = digit_no_feed n
    go false h = feeds-append (digits_up_to k (n / 10)) ((n % 10 + 48) ∷ []) ∙ (omega (arith, h, digit_no_feed n))

-- a number and what follows it has the line feeds of what follows it
pub feeds-digits : (n : ℕ) (rest : List ℕ) → feeds (digits n ++ rest) ≡ feeds rest
unfolding digits
feeds-digits n rest = feeds-append (digits n) rest ∙ (omega (arith, up_to_no_feed 6 n))

-- ---- where a part of a text begins

-- from the start of line p on, s is `part` and then something
pub record Begins (s : List ℕ) (part : List ℕ → List ℕ) (p : ℕ) : Type 0 where
  pub before : List ℕ
  pub after : List ℕ
  pub whole : s ≡ before ++ part after
  pub line : p ≡ 1 + feeds before

-- a reader's cursor there is on line p
pub begins_line : {s : List ℕ} {part : List ℕ → List ℕ} {p : ℕ} (b : Begins s part p) → LineAt s (record { at = length b.before; line = p })
begins_line {s} {part} b =
    let front : take (length b.before) s ≡ b.before = ap (λ (x : List ℕ). take (length b.before) x) b.whole
    ∙ take-append_seam b.before (part b.after) in
    b.line ∙ ap (λ (x : List ℕ). 1 + feeds x) (sym front)

-- ---- a line for each element

module _ {A : Type 0} (text : A → List ℕ → List ℕ) (parts : (x : A) (rest : List ℕ) → text x rest ≡ text x [] ++ rest) (one : (x : A) → feeds (text x []) ≡ 1)
  where
    pub feeds_each : (xs : List A) → feeds (each_then text xs []) ≡ length xs
    feeds_each [] = refl
    feeds_each (x ∷ xs) =
        ap feeds (parts x (each_then text xs []))
        ∙ feeds-append (text x []) (each_then text xs [])
        ∙ (omega (arith, one x, feeds_each xs))

    -- the line of element i, where `front` stands before the first
    pub each_begins : (xs : List A) (i : ℕ) (d : A) (front rest : List ℕ) → i < length xs →
        Begins (front ++ each_then text xs rest) (text (get_or xs i d)) (1 + feeds front + i)
    each_begins [] i d front rest h = absurd (omega arith)
    each_begins (x ∷ xs) zero d front rest h = record { before = front; after = each_then text xs rest; whole = refl; line = omega arith }
    each_begins (x ∷ xs) (suc i) d front rest h =
        let next = each_begins xs i d (front ++ text x []) rest (omega arith) in
        record {
          before = next.before;
          after = next.after;
          whole =
              ap (λ (y : List ℕ). front ++ y) (parts x (each_then text xs rest))
              ∙ sym (append_assoc front (text x []) (each_then text xs rest))
              ∙ next.whole;
          line = omega (arith, next.line, feeds-append front (text x []), one x);
        }
