-- Laws of the bytes at a cursor: where they stand, and the text from there on.
use Rattle.std.specs.Prelude.{ℕ, zero, suc, ◌+◌, ◌-◌, ◌<◌, ◌≤◌, ◌≡◌, refl, Bool, true, false, List, [], ◌∷◌, ◌++◌, ltb, eqb, length, get_or, drop, Option, Some, None}
use Rattle.std.proofs.Common.{suc-le-suc, zero-le, sym, ap, ◌∙◌, arith, add-one, lt_irrefl, not-suc-le-zero, le_of_suc-le-suc, ltb-false, le-ltb, eq-eqb, eqb-true, length-drop, drop-cons, drop-drop}
use Rattle.std.proofs.Math.Seq.{drop-append_seam}
use Rattle.text.specs.declared.Cursor.{Cursor}
use Rattle.text.specs.Reading.Choice.{pick}
use Rattle.text.specs.Reading.Bytes.{byte_at, from, ahead, passing, digit_of, past_of}

-- ---- the text from a cursor on

-- a byte that is none past the end stands inside
pub inside : (s : List ℕ) (i : ℕ) → get_or s i 256 < 256 → i < length s
inside [] i h = absurd (lt_irrefl 256 h)
inside (x ∷ xs) zero h = suc-le-suc zero-le
inside (x ∷ xs) (suc i) h = suc-le-suc (inside xs i h)

-- inside, what would stand past the end is of no matter
pub get_d_any : (l : List ℕ) (i d e : ℕ) → i < length l → get_or l i d ≡ get_or l i e
get_d_any [] i d e h = absurd (not-suc-le-zero h)
get_d_any (x ∷ xs) zero d e h = refl
get_d_any (x ∷ xs) (suc i) d e h = get_d_any xs i d e (le_of_suc-le-suc h)

head_drop : (s : List ℕ) (i d : ℕ) → get_or s i d ≡ get_or (drop i s) 0 d
head_drop [] zero d = refl
head_drop [] (suc i) d = refl
head_drop (x ∷ xs) zero d = refl
head_drop (x ∷ xs) (suc i) d = head_drop xs i d

tail_drop : (s : List ℕ) (i : ℕ) → drop (suc i) s ≡ drop 1 (drop i s)
tail_drop [] zero = refl
tail_drop [] (suc i) = refl
tail_drop (x ∷ xs) zero = refl
tail_drop (x ∷ xs) (suc i) = tail_drop xs i

pub from_byte : (s : List ℕ) (c : Cursor) (l : List ℕ) → from s c ≡ l → byte_at s c ≡ get_or l 0 256
from_byte s c l e = head_drop s c.at 256 ∙ ap (λ (x : List ℕ). get_or x 0 256) e

pub from-ahead : (s : List ℕ) (c : Cursor) (b : ℕ) (l : List ℕ) → from s c ≡ b ∷ l → from s (ahead c) ≡ l
from-ahead s c b l e = rw add-one (tail_drop s c.at ∙ ap (λ (x : List ℕ). drop 1 x) e)

pub from_cons : (s : List ℕ) (c : Cursor) → c.at < length s → from s c ≡ byte_at s c ∷ from s (ahead c)
from_cons s c h = rw add-one (drop-cons s c.at 256 h)

pub from_skip : (s : List ℕ) (c : Cursor) (xs ys : List ℕ) → from s c ≡ xs ++ ys → from s (record { at = c.at + length xs; line = c.line }) ≡ ys
from_skip s c xs ys e =
    sym (drop-drop (length xs) c.at s) ∙ ap (λ (l : List ℕ). drop (length xs) l) e ∙ drop-append_seam xs ys

-- where nothing is left, the cursor is at the end
pub at_length : (s : List ℕ) (c : Cursor) → from s c ≡ [] → length s ≤ c.at
at_length s c e = omega (arith, length-drop c.at s, ap length e)

-- ---- the byte after a field

-- a byte that was passed stood there, and the cursor is past it
pub past_found : (s : List ℕ) (c : Cursor) (b : ℕ) (next : Cursor) → past_of s c b ≡ Some next → (byte_at s c ≡ b) × (passing b c ≡ next)
unfolding past_of
past_found s c b next e = go (eqb (byte_at s c) b) refl e
  where
    go : (p : Bool) → eqb (byte_at s c) b ≡ p → pick p (Some (passing b c)) None ≡ Some next → (byte_at s c ≡ b) × (passing b c ≡ next)
    go true hp f = let q : passing b c ≡ next = cc in (eqb-true (byte_at s c) b hp, q)
    go false hp f = let z : ◌≡◌ {A = ℕ} 0 1 = cc in absurd (omega arith)

pub past_spelt : (s : List ℕ) (c next : Cursor) (b : ℕ) → b < 256 → past_of s c b ≡ Some next → from s c ≡ b ∷ from s next
past_spelt s c next b h e =
    let w = past_found s c b next e in
    let k : from s c ≡ b ∷ from s (ahead c) = rw w.0 at (from_cons s c (inside s c.at (omega (arith, w.0, h)))) in
    k ∙ ap (λ (x : Cursor). b ∷ from s x) w.1

pub past_reads : (s : List ℕ) (c : Cursor) (b : ℕ) (rest : List ℕ) → from s c ≡ b ∷ rest → past_of s c b ≡ Some (passing b c)
unfolding past_of
past_reads s c b rest e = simp (eq-eqb (byte_at s c) b (from_byte s c (b ∷ rest) e))

-- ---- digits

-- what a byte with a worth is
pub record IsDigit (b d : ℕ) : Type 0 where
  pub low : 48 ≤ b
  pub high : b ≤ 57
  pub worth : d ≡ b - 48

pub digit_worth : (b d : ℕ) → digit_of b ≡ Some d → IsDigit b d
unfolding digit_of
digit_worth b d e = go (ltb b 48) (ltb 57 b) refl refl e
  where
    go : (p q : Bool) → ltb b 48 ≡ p → ltb 57 b ≡ q → pick p None (pick q None (Some (b - 48))) ≡ Some d → IsDigit b d
    go true q hp hq h = let z : ◌≡◌ {A = ℕ} 0 1 = cc in absurd (omega arith)
    go false true hp hq h = let z : ◌≡◌ {A = ℕ} 0 1 = cc in absurd (omega arith)
    go false false hp hq h = record { low = ltb-false b 48 hp; high = ltb-false 57 b hq; worth = cc }

pub digit_byte : (d : ℕ) → d < 10 → digit_of (d + 48) ≡ Some d
unfolding digit_of
digit_byte d h =
    let z : (d + 48) - 48 ≡ d = omega arith in
    simp (le-ltb (d + 48) 48 (omega arith), le-ltb 57 (d + 48) (omega arith), z)

-- a space and a line feed are no digits
pub space_ends : digit_of 32 ≡ None
unfolding digit_of
space_ends = refl

pub feed_ends : digit_of 10 ≡ None
unfolding digit_of
feed_ends = refl

-- a digit's worth from a byte that was read, the answer for it, and what the answer is
pub digit_is : (b r : ℕ) (x y : Option ℕ) → r ≡ b → x ≡ digit_of r → x ≡ y → digit_of b ≡ y
digit_is b r x y p q g = ap digit_of (sym p) ∙ sym q ∙ g

module _ (s : List ℕ) (c : Cursor) (d : ℕ) (e : digit_of (byte_at s c) ≡ Some d) where
  -- a digit stands inside the text
  pub digit_inside : c.at < length s
  digit_inside = let w = digit_worth (byte_at s c) d e in inside s c.at (omega (arith, w.high))

  pub digit_small : d < 10
  digit_small = let w = digit_worth (byte_at s c) d e in omega (arith, w.high, w.worth)

  pub digit_spelt : from s c ≡ (d + 48) ∷ from s (ahead c)
  digit_spelt =
      let w = digit_worth (byte_at s c) d e in
      let z : byte_at s c ≡ d + 48 = omega (arith, w.worth, w.low) in
      rw z at (from_cons s c digit_inside)
