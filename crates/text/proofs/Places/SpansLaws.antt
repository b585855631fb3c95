-- Which lines a part covers: a number stays on its line, a byte leads to the next line exactly when it is a line feed, and parts in a row cover the lines of
-- each. So the place of a refusal is no later than the lines that were to be read.
use Rattle.std.specs.Prelude.{ℕ, ◌+◌, ◌≤◌, ◌≡◌, Bool, true, false, List, [], ◌∷◌, eqb, Option, Some, None}
use Rattle.std.proofs.Math.Path.{refl}
use Rattle.std.proofs.Common.{sym, ap, ◌∙◌, arith}
use Rattle.text.specs.declared.Cursor.{Cursor}
use Rattle.text.specs.Reading.Choice.{pick, on_some}
use Rattle.text.specs.Reading.Bytes.{passing, past_of}
use Rattle.text.specs.Reading.BytesLaws.{past_found}
use Rattle.text.specs.Reading.ChoiceLaws.{some_gave}
use Rattle.text.specs.Reading.NumbersLaws.{field_found}
use Rattle.text.specs.Reading.Numbers.{field_at}
use Rattle.text.specs.Reading.Limits.{bounded_of}
use Rattle.text.specs.Reading.Parsed.{Parsed, then_read, limited, ranged_at}
use Rattle.text.specs.Reading.Fixed.{past_all, text_at, pair_field_at, paired_at}
use Rattle.text.proofs.Reading.FixedLaws.{pair_found}
use Rattle.text.specs.Places.Lines.{feeds, Spans}
use Rattle.text.proofs.Places.LinesLaws.{KeepsAhead, number-ahead, pair-ahead}

-- ---- parts in a row

pub spans_then : {A B : Type 0} {n m q : ℕ} (r : Parsed A) (f : A → Cursor → Parsed B) → n ≤ m → m ≤ q → Spans n m r →
    ((x : A) (c : Cursor) → c.line ≡ m → Spans m q (f x c)) → Spans n q (then_read r f)
spans_then {B = B} {n = n} {m = m} {q = q} (Parsed.got x c) f low high w g = wider (f x c) (g x c w)
  where
    wider : (y : Parsed B) → Spans m q y → Spans n q y
    wider (Parsed.got z e) v = v
    wider (Parsed.bad k p) v = (omega (arith, v.0), v.1)
spans_then (Parsed.bad k p) f low high w g = (w.0, omega (arith, w.1))

-- refused on the first line where an answer is missing, or else read on
pub spans_some : {A B : Type 0} {n m : ℕ} → n ≤ m → (o : Option B) (f : B → Parsed A) (k : ℕ) → ((x : B) → o ≡ Some x → Spans n m (f x)) →
    Spans n m (on_some o f (Parsed.bad k n))
spans_some low (Some x) f k w = w x refl
spans_some low None f k w = (omega arith, low)

-- the same lines by other names
pub spans_as : {A : Type 0} {n m n' m' : ℕ} (r : Parsed A) → n ≡ n' → m ≡ m' → Spans n m r → Spans n' m' r
spans_as r p q w = rw (← p, ← q) w

-- ---- a byte, a number, and both

-- the line after the byte b
abbrev after : ℕ → Cursor → ℕ
after b c = (passing b c).line

after_low : (b : ℕ) (c : Cursor) → c.line ≤ after b c
after_low b c = go (eqb b 10)
  where
    go : (p : Bool) → c.line ≤ pick p (c.line + 1) c.line
    go true = omega arith
    go false = omega arith

past_line : (s : List ℕ) (c x : Cursor) (b : ℕ) (next : Cursor) → x.line ≡ c.line → past_of s x b ≡ Some next → next.line ≡ after b c
past_line s c x b next same e =
    ap (λ (y : Cursor). y.line) (sym (past_found s x b next e).1) ∙ ap (λ (l : ℕ). pick (eqb b 10) (l + 1) l) same

same_line : (s : List ℕ) (n : ℕ) → KeepsAhead s (λ x. x.line ≡ n)
same_line s n = record { past = λ c other h. h }

field_line : (m : ℕ) (s : List ℕ) (c : Cursor) (b n : ℕ) (next : Cursor) → field_at m s c b ≡ Some (n, next) → next.line ≡ after b c
field_line m s c b n next e =
    let f = field_found m s c b n next e in
    past_line s c f.after b next (number-ahead s (λ k. k.line ≡ c.line) (same_line s c.line) m c n f.after refl f.number) f.past

module _ (form range lo hi : ℕ) (c : Cursor) (m : ℕ) (low : c.line ≤ m) where
  spans_limited : (f : Option (ℕ × Cursor)) → ((n : ℕ) (next : Cursor) → f ≡ Some (n, next) → next.line ≡ m) →
      Spans c.line m (limited form range lo hi c.line f)
  spans_limited f ends = spans_some low f _ form (λ (n, next) is. spans_some low (bounded_of lo hi n) _ range (λ v within. ends n next is))

module _ (form range lo hi b : ℕ) (s : List ℕ) (c : Cursor) where
  pub spans_ranged : Spans c.line (passing b c).line (ranged_at form range lo hi b s c)
  unfolding ranged_at
  spans_ranged = spans_limited form range lo hi c (after b c) (after_low b c) (field_at 4 s c b) (λ n next e. field_line 4 s c b n next e)

  pub spans_paired : Spans c.line (passing b c).line (paired_at form range lo hi b s c)
  unfolding paired_at
  spans_paired = spans_limited form range lo hi c (after b c) (after_low b c) (pair_field_at s c b)
      (λ n next e.
      let w = pair_found s c b n next e in
      past_line s c w.after b next (pair-ahead s (λ k. k.line ≡ c.line) (same_line s c.line) c n w.after refl w.number) w.past)

-- ---- a text

all_line : (t s : List ℕ) (c next : Cursor) → past_all t s c ≡ Some next → next.line ≡ c.line + feeds t
unfolding past_all
all_line [] s c next e = let q : c ≡ next = cc in ap (λ (k : Cursor). k.line) (sym q) ∙ omega arith
all_line (b ∷ t) s c next e =
    let p = some_gave (past_of s c b) _ e in
    all_line t s p.value next p.gave ∙ ap (λ (l : ℕ). l + feeds t) (past_line s c c b p.value refl p.is) ∙ counted (eqb b 10) c.line
  where
    counted : (p : Bool) (l : ℕ) → pick p (l + 1) l + feeds t ≡ l + pick p (1 + feeds t) (feeds t)
    counted true l = omega arith
    counted false l = refl

pub spans_text : (form : ℕ) (t s : List ℕ) (c : Cursor) → Spans c.line (c.line + feeds t) (text_at form t s c)
unfolding text_at
spans_text form t s c = spans_some (omega arith) (past_all t s c) _ form (λ next is. all_line t s c next is)
