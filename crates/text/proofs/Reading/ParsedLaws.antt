-- Laws of reading part by part: each step, what is read is its text, and a text is read as its value.
use Prim.Native.Nat.{ℕ, zero, suc, ◌<◌, ◌≤◌}
use Rattle.std.specs.Prelude.{◌≡◌, Bool, true, false, ltb, length, Option, Some, None}
use Rattle.std.proofs.Math.Path.{refl, ap}
use Rattle.std.proofs.Common.{sym, ◌∙◌, arith, le-ltb, ltb-false}
use mathlib.Core.List.{List, [], ◌∷◌, ◌++◌, map}
use Rattle.text.specs.declared.Cursor.{Cursor}
use Rattle.text.specs.declared.Limits.{Limits}
use Rattle.text.specs.Reading.Choice.{pick, on_some}
use Rattle.text.specs.Reading.Bytes.{from, digit_of}
use Rattle.text.specs.Reading.Numbers.{field_at}
use Rattle.text.specs.Writing.Digits.{digits}
use Rattle.text.specs.Writing.DigitsLaws.{digits-length, field-spelt, field_reads, field_leaves, past_field}
use Rattle.text.specs.Reading.Limits.{bounded_of}
use Rattle.text.specs.Reading.Parsed.{Parsed, then_read, many, limited, ranged_at}
use Rattle.text.specs.Elements.EachThen.{each_then}
use Rattle.finite.specs.Each.{Each}

-- ---- one part and then the next

-- what was read first, and what came after it
pub record ReadInTurn {A B : Type 0} (r : Parsed A) (f : A → Cursor → Parsed B) (b : B) (end : Cursor) : Type 0 where
  pub value : A
  pub next : Cursor
  pub first : r ≡ Parsed.got value next
  pub after : f value next ≡ Parsed.got b end

pub bad_got : {A : Type 0} (n p : ℕ) (x : A) (c : Cursor) → Parsed.bad n p ≡ Parsed.got x c → ⊥
bad_got n p x c e = let z : ◌≡◌ {A = ℕ} 0 1 = cc in omega arith

pub then_got : {A B : Type 0} (r : Parsed A) (f : A → Cursor → Parsed B) (b : B) (end : Cursor) → then_read r f ≡ Parsed.got b end → ReadInTurn r f b end
then_got (Parsed.got a c) f b end e = record { value = a; next = c; first = refl; after = e }
then_got (Parsed.bad n p) f b end e = absurd (bad_got n p b end e)

-- where a value was read after an answer that might have been missing, there was an answer
pub record GaveRead {A B : Type 0} (o : Option B) (f : B → Parsed A) (x : A) (c : Cursor) : Type 0 where
  pub value : B
  pub is : o ≡ Some value
  pub gave : f value ≡ Parsed.got x c

pub some_got : {A B : Type 0} (o : Option B) (f : B → Parsed A) (n p : ℕ) (x : A) (c : Cursor) → on_some o f (Parsed.bad n p) ≡ Parsed.got x c → GaveRead o f x c
some_got (Some y) f n p x c e = record { value = y; is = refl; gave = e }
some_got None f n p x c e = absurd (bad_got n p x c e)

-- where a test would have refused, and something was read, the test did not hold
pub pick_got : {A : Type 0} (b : Bool) (n p : ℕ) (r : Parsed A) (x : A) (end : Cursor) → pick b (Parsed.bad n p) r ≡ Parsed.got x end →
    (b ≡ false) × (r ≡ Parsed.got x end)
pick_got true n p r x end e = absurd (bad_got n p x end e)
pick_got false n p r x end e = (refl, e)

-- what holds of a value and its end holds of the same value and end
pub got_is : {A : Type 0} (Q : A → Cursor → Type 0) {a b : A} {m n : Cursor} → Parsed.got a m ≡ Parsed.got b n → Q a m → Q b n
got_is {A} Q {a} {b} {m} {n} e w =
    let p : a ≡ b = cc in
    let q : m ≡ n = cc in
    move a m p q w
  where
    move : (x : A) (y : Cursor) → x ≡ b → y ≡ n → Q x y → Q b n
    move x y p q v = rw (p, q) at v

-- ---- parts in a row

module _ {A : Type 0} (part : ℕ → List ℕ → Cursor → Parsed A) (k j : ℕ) (s : List ℕ) (c : Cursor) where
  pub many_done : k ≡ 0 → many k part s c ≡ Parsed.got [] c
  unfolding many
  many_done z = rw z refl

  pub many_step : k ≡ suc j → (x : A) (next : Cursor) → part j s c ≡ Parsed.got x next →
      many k part s c ≡ then_read (many j part s next) (λ xs end. Parsed.got (x ∷ xs) end)
  unfolding many
  many_step z x next e = rw (z, e) refl

  pub many-stop : k ≡ suc j → (n p : ℕ) → part j s c ≡ Parsed.bad n p → many k part s c ≡ Parsed.bad n p
  unfolding many
  many-stop z n p e = rw (z, e) refl

-- parts in a row are as many as were to be read
pub many-length : {A : Type 0} (part : ℕ → List ℕ → Cursor → Parsed A) (k : ℕ) (s : List ℕ) (c : Cursor) (xs : List A) (next : Cursor) →
    many k part s c ≡ Parsed.got xs next → length xs ≡ k
unfolding many
many-length part zero s c xs next e = got_is (λ ys end. length ys ≡ 0) e refl
many-length part (suc k) s c xs next e =
    let a = then_got (part k s c) _ xs next e in
    let b = then_got (many k part s a.next) _ xs next a.after in
    got_is (λ ys end. length ys ≡ suc k) b.after (ap suc (many-length part k s a.next b.value b.next b.first))

-- ---- a number in its range

-- what a value within limits is
pub record IsWithin (lo hi n v : ℕ) : Type 0 where
  pub low : lo ≤ n
  pub high : n ≤ hi
  pub same : v ≡ n

pub bounded_within : (lo hi n v : ℕ) → bounded_of lo hi n ≡ Some v → IsWithin lo hi n v
unfolding bounded_of
bounded_within lo hi n v e = go (ltb n lo) (ltb hi n) refl refl e
  where
    go : (p q : Bool) → ltb n lo ≡ p → ltb hi n ≡ q → pick p None (pick q None (Some n)) ≡ Some v → IsWithin lo hi n v
    go true q hp hq h = let z : ◌≡◌ {A = ℕ} 0 1 = cc in absurd (omega arith)
    go false true hp hq h = let z : ◌≡◌ {A = ℕ} 0 1 = cc in absurd (omega arith)
    go false false hp hq h = record { low = ltb-false n lo hp; high = ltb-false hi n hq; same = cc }

pub bounded_fits : (lo hi n : ℕ) → lo ≤ n → n ≤ hi → bounded_of lo hi n ≡ Some n
unfolding bounded_of
bounded_fits lo hi n l h = simp (le-ltb n lo l, le-ltb hi n h)

-- a value built by limits that a call gave
pub bounded_by : {b : Option ℕ} {l : Limits} (r : Limits) (n : ℕ) → b ≡ bounded_of l.min l.max n → l ≡ r → b ≡ bounded_of r.min r.max n
bounded_by r n built limits = built ∙ ap (λ (k : Limits). bounded_of k.min k.max n) limits

-- ---- a field in its range

module _ (form range lo hi line : ℕ) {f : Option (ℕ × Cursor)} where
  pub limited_malformed : f ≡ None → limited form range lo hi line f ≡ Parsed.bad form line
  limited_malformed e = simp e

  module _ {n : ℕ} {next : Cursor} (e : f ≡ Some (n, next)) where
    pub limited_outside : bounded_of lo hi n ≡ None → limited form range lo hi line f ≡ Parsed.bad range line
    limited_outside o = simp (e, o)

    pub limited_value : {v : ℕ} → bounded_of lo hi n ≡ Some v → limited form range lo hi line f ≡ Parsed.got v next
    limited_value o = simp (e, o)

-- what was read of a field is in its range, and is what the field has
pub record InLimits (lo hi : ℕ) (f : Option (ℕ × Cursor)) (n : ℕ) (next : Cursor) : Type 0 where
  pub low : lo ≤ n
  pub high : n ≤ hi
  pub is : f ≡ Some (n, next)

pub limited_got : (form range lo hi line : ℕ) (f : Option (ℕ × Cursor)) (n : ℕ) (next : Cursor) → limited form range lo hi line f ≡ Parsed.got n next →
    InLimits lo hi f n next
limited_got form range lo hi line f n next e =
    let field = some_got f _ form line n next e in
    let inside = some_got (bounded_of lo hi field.value.0) _ range line n next field.gave in
    let w = bounded_within lo hi field.value.0 inside.value inside.is in
    got_is (λ v end. InLimits lo hi f v end) inside.gave (record {
      low = omega (arith, w.low, w.same);
      high = omega (arith, w.high, w.same);
      is = field.is ∙ ap (λ (k : ℕ). Some (k, field.value.1)) (sym w.same);
    })

module _ (form range lo hi b : ℕ) (s : List ℕ) (c : Cursor) where
  pub ranged_malformed : field_at 4 s c b ≡ None → ranged_at form range lo hi b s c ≡ Parsed.bad form c.line
  unfolding ranged_at
  ranged_malformed e = limited_malformed form range lo hi c.line e

  module _ (n : ℕ) (next : Cursor) (e : field_at 4 s c b ≡ Some (n, next)) where
    pub ranged_outside : bounded_of lo hi n ≡ None → ranged_at form range lo hi b s c ≡ Parsed.bad range c.line
    unfolding ranged_at
    ranged_outside o = limited_outside form range lo hi c.line e o

    pub ranged_value : (v : ℕ) → bounded_of lo hi n ≡ Some v → ranged_at form range lo hi b s c ≡ Parsed.got v next
    unfolding ranged_at
    ranged_value v o = limited_value form range lo hi c.line e o

  -- what was read is in its range, and the text is its digits and the byte b
  pub record RangedSpelt (n : ℕ) (next : Cursor) : Type 0 where
    pub low : lo ≤ n
    pub high : n ≤ hi
    pub text : from s c ≡ digits n ++ (b ∷ from s next)

  pub ranged_spelt : (n : ℕ) (next : Cursor) → b < 256 → ranged_at form range lo hi b s c ≡ Parsed.got n next → RangedSpelt n next
  unfolding ranged_at
  ranged_spelt n next h e =
      let w = limited_got form range lo hi c.line (field_at 4 s c b) n next e in
      record { low = w.low; high = w.high; text = field-spelt 4 (omega arith) (omega arith) s c next b n h w.is }

-- ---- a text is read as its value

-- reading gives x, and rest is what stands after it
pub record Reads {A : Type 0} (r : Parsed A) (x : A) (s rest : List ℕ) : Type 0 where
  pub next : Cursor
  pub reads : r ≡ Parsed.got x next
  pub leaves : from s next ≡ rest

pub ranged_reads : (form range lo hi b : ℕ) (s : List ℕ) (c : Cursor) (n : ℕ) (rest : List ℕ) → digit_of b ≡ None → lo ≤ n → n ≤ hi → hi < 10000 →
    from s c ≡ digits n ++ (b ∷ rest) → Reads (ranged_at form range lo hi b s c) n s rest
ranged_reads form range lo hi b s c n rest o l h small e =
    let few : length (digits n) ≤ 4 = digits-length 3 n (omega arith) in
    record {
      next = past_field c n b;
      reads =
          ranged_value form range lo hi b s c n (past_field c n b) (field_reads 4 s c n b rest (omega arith) few (omega arith) o e) n (bounded_fits lo hi n l h);
      leaves = field_leaves 4 s c n b rest (omega arith) few (omega arith) o e;
    }

-- nothing more is read
pub at_end : {A : Type 0} {s rest : List ℕ} (x : A) (c : Cursor) → from s c ≡ rest → Reads (Parsed.got x c) x s rest
at_end x c e = record { next = c; reads = refl; leaves = e }

-- x is read, and then what follows it gives y
pub reads_then : {A B : Type 0} {r : Parsed A} {x : A} {s mid rest : List ℕ} {y : B} (f : A → Cursor → Parsed B) → Reads r x s mid →
    ((next : Cursor) → from s next ≡ mid → Reads (f x next) y s rest) → Reads (then_read r f) y s rest
reads_then f a g =
    let b = g a.next a.leaves in
    record { next = b.next; reads = ap (λ (q : Parsed _). then_read q f) a.reads ∙ b.reads; leaves = b.leaves }

-- ---- a part for each element

module _ {A : Type 0} (P : A → Type 0) (text : A → List ℕ → List ℕ) (s : List ℕ) where
  -- a part that was read is the text of its value
  pub record PartSpelt (c : Cursor) (x : A) (next : Cursor) : Type 0 where
    pub valid : P x
    pub spelt : from s c ≡ text x (from s next)

  pub record ManySpelt (k : ℕ) (c : Cursor) (xs : List A) (next : Cursor) : Type 0 where
    pub many : length xs ≡ k
    pub valid : Each P xs
    pub spelt : from s c ≡ each_then text xs (from s next)

  pub many-spelt : (part : ℕ → List ℕ → Cursor → Parsed A) →
      ((left : ℕ) (c : Cursor) (x : A) (next : Cursor) → part left s c ≡ Parsed.got x next → PartSpelt c x next) →
      (k : ℕ) (c : Cursor) (xs : List A) (next : Cursor) → many k part s c ≡ Parsed.got xs next → ManySpelt k c xs next
  unfolding many
  many-spelt part one zero c xs next e =
      got_is (λ ys end. ManySpelt 0 c ys end) e (record { many = refl; valid = tt; spelt = refl })
  many-spelt part one (suc k) c xs next e =
      let a = then_got (part k s c) _ xs next e in
      let b = then_got (many k part s a.next) _ xs next a.after in
      let h = one k c a.value a.next a.first in
      let t = many-spelt part one k a.next b.value b.next b.first in
      got_is (λ ys end. ManySpelt (suc k) c ys end) b.after (record {
        many = ap suc t.many;
        valid = (h.valid, t.valid);
        spelt = h.spelt ∙ ap (λ (y : List ℕ). text a.value y) t.spelt;
      })

-- an element b whose text is read as f b
module _ {A B : Type 0} (P : B → Type 0) (text : B → List ℕ → List ℕ) (f : B → A) (part : ℕ → List ℕ → Cursor → Parsed A) (s : List ℕ)
    (one : (left : ℕ) (c : Cursor) (b : B) (rest : List ℕ) → P b → from s c ≡ text b rest → Reads (part left s c) (f b) s rest) where
  each_reads : (bs : List B) (c : Cursor) (rest : List ℕ) → Each P bs → from s c ≡ each_then text bs rest →
      Reads (many (length bs) part s c) (map f bs) s rest
  unfolding many
  each_reads [] c rest v e = record { next = c; reads = refl; leaves = e }
  each_reads (b ∷ bs) c rest v e =
      reads_then _ (one (length bs) c b (each_then text bs rest) v.0 e)
      (λ next h. reads_then _ (each_reads bs next rest v.1 h) (λ end l. at_end _ end l))

  pub many_reads : (k : ℕ) (bs : List B) → length bs ≡ k → (c : Cursor) (rest : List ℕ) → Each P bs → from s c ≡ each_then text bs rest →
      Reads (many k part s c) (map f bs) s rest
  many_reads k bs w c rest v e = rw w at (each_reads bs c rest v e)
