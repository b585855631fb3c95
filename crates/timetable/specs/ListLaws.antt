-- Laws of reading an order list's line: each way out of its own count, and its trains, whose numbers are stored by index.
use Rattle.std.specs.Prelude.{ℕ, ◌+◌, ◌-◌, ◌<◌, ◌≤◌, ◌≡◌, cond, List, [], ◌∷◌, ◌++◌, Option, Some, None, eqb, length, set, take}
use Rattle.std.proofs.Math.Path.{refl, ap}
use Rattle.std.proofs.Common.{sym, ◌∙◌, arith, eq-eqb, ne_eqb}
use Rattle.text.specs.Elements.PaddedLaws.{stored_more}
use Rattle.text.specs.declared.Cursor.{Cursor}
use Rattle.text.specs.Reading.Choice.{on_some}
use Rattle.text.specs.Reading.Bytes.{past_of}
use Rattle.text.specs.Reading.Numbers.{number_at}
use Rattle.text.specs.Reading.Limits.{bounded_of}
use Rattle.text.specs.Reading.Parsed.{Parsed, many}
use Rattle.text.proofs.Reading.ParsedLaws.{bounded_within, ranged_spelt}
use Rattle.line.specs.File.{after_field}
use Rattle.timetable.specs.Reading.{own_count_at, name_at, list_at}
use Rattle.timetable.specs.ReadingLaws.{after_byte}
use Rattle.timetable.specs.Spell.{numbers}

-- ---- a list's own count

pub byte_none : (v b : ℕ) → v ≡ 0 → b ≡ 10 → b ≡ cond (eqb v 0) 10 32
byte_none v b e h = rw (eq-eqb v 0 e) h

pub byte_some : (v b : ℕ) → (v ≡ 0 → ⊥) → b ≡ 32 → b ≡ cond (eqb v 0) 10 32
byte_some v b e h = rw (ne_eqb v 0 e) h

module _ (n : ℕ) (s : List ℕ) (c : Cursor) where
  pub own_malformed : number_at 4 s c ≡ None → own_count_at n s c ≡ Parsed.bad 8 c.line
  unfolding own_count_at
  own_malformed e = simp e

  -- v is read, and b is the byte that belongs after it
  module _ {v b : ℕ} {after : Cursor} (number : number_at 4 s c ≡ Some (v, after)) (byte : b ≡ cond (eqb v 0) 10 32) where
    pub own_unended : past_of s after b ≡ None → own_count_at n s c ≡ Parsed.bad 8 c.line
    unfolding own_count_at
    own_unended e =
        let past = ap (λ (k : ℕ). past_of s after k) (sym byte) ∙ e in
        simp (number, past)

    module _ {next : Cursor} (e : past_of s after b ≡ Some next) where
      pub own_over : bounded_of 0 n v ≡ None → own_count_at n s c ≡ Parsed.bad 9 c.line
      unfolding own_count_at
      own_over o =
          let past = ap (λ (k : ℕ). past_of s after k) (sym byte) ∙ e in
          simp (number, past, o)

      pub own_value : {w : ℕ} → bounded_of 0 n v ≡ Some w → own_count_at n s c ≡ Parsed.got w next
      unfolding own_count_at
      own_value o =
          let past = ap (λ (k : ℕ). past_of s after k) (sym byte) ∙ e in
          simp (number, past, o)

-- a count that was read is at most the line's trains
pub own_within : (n : ℕ) (s : List ℕ) (c : Cursor) (v : ℕ) (next : Cursor) → own_count_at n s c ≡ Parsed.got v next → v ≤ n
unfolding own_count_at
own_within n s c v next e = number (number_at 4 s c) e
  where
    bounded : (m : ℕ) (x : Cursor) (a : Option ℕ) → bounded_of 0 n m ≡ a → on_some a (λ w. Parsed.got w x) (Parsed.bad 9 c.line) ≡ Parsed.got v next → v ≤ n
    bounded m x None o g = let z : ◌≡◌ {A = ℕ} 0 1 = cc in absurd (omega arith)
    bounded m x (Some w) o g =
        let i = bounded_within 0 n m w o in
        let q : w ≡ v = cc in
        omega (arith, i.high, i.same)

    step : (m : ℕ) (a : Option Cursor) → on_some a (λ x. on_some (bounded_of 0 n m) (λ w. Parsed.got w x) (Parsed.bad 9 c.line)) (Parsed.bad 8 c.line) ≡ Parsed.got v next → v ≤ n
    step m (Some x) g = bounded m x (bounded_of 0 n m) refl g
    step m None g = let z : ◌≡◌ {A = ℕ} 0 1 = cc in absurd (omega arith)

    number : (a : Option (ℕ × Cursor)) → on_some a (λ (m, after). on_some (past_of s after (cond (eqb m 0) 10 32))
        (λ x. on_some (bounded_of 0 n m) (λ w. Parsed.got w x) (Parsed.bad 9 c.line)) (Parsed.bad 8 c.line)) (Parsed.bad 8 c.line) ≡ Parsed.got v next → v ≤ n
    number (Some (m, after)) g = step m (past_of s after (cond (eqb m 0) 10 32)) g
    number None g = let z : ◌≡◌ {A = ℕ} 0 1 = cc in absurd (omega arith)

-- ---- the trains of a list

-- one more train, with the number x, stored by index
pub number_more : (at : List ℕ) (k x : ℕ) → k < length at → 1 ≤ x → numbers (take (k + 1) (set at k (x - 1))) ≡ numbers (take k at) ++ (x ∷ [])
number_more at k x h p =
    stored_more (λ i. i + 1) at k (x - 1) h ∙ ap (λ (y : ℕ). numbers (take k at) ++ (y ∷ [])) (omega arith)

-- a number that was read is at least 1
pub name_least : (n left : ℕ) (s : List ℕ) (c : Cursor) (x : ℕ) (next : Cursor) → name_at n left s c ≡ Parsed.got x next → 1 ≤ x
name_least n left s c x next e = (ranged_spelt 8 9 1 n (after_field left) s c x next (after_byte left) e).low

module _ (n : ℕ) (s : List ℕ) (c : Cursor) where
  pub list_no_count : {m q : ℕ} → own_count_at n s c ≡ Parsed.bad m q → list_at n s c ≡ Parsed.bad m q
  unfolding list_at
  list_no_count e = rw e refl

  -- a list from its own count and its trains
  pub list_counted : {v : ℕ} {c₁ : Cursor} {r : Parsed (List ℕ)} → own_count_at n s c ≡ Parsed.got v c₁ → many v (name_at n) s c₁ ≡ r → list_at n s c ≡ r
  unfolding list_at
  list_counted e h = rw e h
