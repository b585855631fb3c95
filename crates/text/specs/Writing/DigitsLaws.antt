-- Numbers and their digits: the digits of n are read as n, and what is read as n is the digits of n.
use Rattle.std.specs.Prelude.{ℕ, zero, suc, ◌+◌, ◌-◌, ◌*◌, ◌/◌, ◌%◌, ◌^◌, ◌<◌, ◌≤◌, Bool, get_or, Option, Some, None}
use Rattle.std.proofs.Math.Path.{◌≡◌, refl, ap}
use Rattle.std.proofs.Common.{sym, ◌∙◌, arith, pow-suc, sub-one, length-append}
use Rattle.std.proofs.Math.Bool.{true, false}
use Rattle.std.proofs.lemmas.Option.{none-some, some_pair_parts}
use mathlib.Core.List.{List, [], ◌∷◌, ◌++◌, append_assoc, append-nil}
use borrow.Author.Tests.{lt-ltb, le-ltb, ltb-true, ltb-false}
use Rattle.std.proofs.Math.Dec.{ltb}
use Rattle.std.proofs.Math.ListN.{length}
use Rattle.text.specs.declared.Cursor.{Cursor}
use Rattle.text.specs.Reading.Choice.{pick, on_some}
use Rattle.text.specs.Reading.Bytes.{byte_at, from, ahead, passing, digit_of}
use Rattle.text.specs.Reading.BytesLaws.{from_byte, from-ahead, from_skip, past_spelt, past_reads, digit_byte, digit_small, digit_spelt}
use Rattle.text.specs.Reading.Numbers.{more, number_at, field_at}
use Rattle.text.specs.Reading.NumbersLaws.{number_none, number_zero, number_more, more_none, more_step, DigitsFit, room_first, room_step, room_below, field_found}
use Rattle.text.specs.Writing.Digits.{digits_up_to, digits}

-- ---- the digits of a number, the last apart

-- the digits of n by its test against 10
abbrev some : ℕ → ℕ → Bool → List ℕ
some k n b = pick b ((n % 10 + 48) ∷ []) (digits_up_to k (n / 10) ++ ((n % 10 + 48) ∷ []))

-- room for one digit more than a number can have is of no use to it
digits_up : (k n : ℕ) → n < 10 ^ suc k → digits_up_to k n ≡ digits_up_to (suc k) n
unfolding digits_up_to
digits_up zero n h = simp (lt-ltb n 10 h)
digits_up (suc k) n h =
    let tenth : n / 10 < 10 ^ suc k = omega (arith, pow-suc 10 (suc k)) in
    ap (λ (l : List ℕ). pick (ltb n 10) ((n % 10 + 48) ∷ []) (l ++ ((n % 10 + 48) ∷ []))) (digits_up k (n / 10) tenth)

pub digits_one : (n : ℕ) → n < 10 → digits n ≡ (n % 10 + 48) ∷ []
unfolding digits digits_up_to
digits_one n h = simp (lt-ltb n 10 h)

pub digits_more : (n : ℕ) → 10 ≤ n → n < 10000000 → digits n ≡ digits (n / 10) ++ ((n % 10 + 48) ∷ [])
unfolding digits digits_up_to
digits_more n l h =
    let tenth : n / 10 < 10 ^ 6 = omega arith in
    rw (le-ltb n 10 l) (ap (λ (x : List ℕ). x ++ ((n % 10 + 48) ∷ [])) (digits_up 5 (n / 10) tenth))

-- a digit more
digits_snoc : (v d : ℕ) → 0 < v → v < 1000000 → d < 10 → digits (v * 10 + d) ≡ digits v ++ ((d + 48) ∷ [])
digits_snoc v d l h b =
    let q : (v * 10 + d) / 10 ≡ v = omega arith in
    let r : (v * 10 + d) % 10 ≡ d = omega arith in
    rw (q, r) at (digits_more (v * 10 + d) (omega arith) (omega arith))

-- ---- how many

pub length_one : (n : ℕ) → n < 10 → length (digits n) ≡ 1
length_one n h = ap length (digits_one n h)

pub length_more : (n : ℕ) → 10 ≤ n → n < 10000000 → length (digits n) ≡ length (digits (n / 10)) + 1
length_more n l h = ap length (digits_more n l h) ∙ length-append (digits (n / 10)) ((n % 10 + 48) ∷ [])

-- with the byte after it
pub length_field : (n b : ℕ) → length (digits n ++ (b ∷ [])) ≡ length (digits n) + 1
length_field n b = length-append (digits n) (b ∷ [])

up_to_length : (k j n : ℕ) → n < 10 ^ suc j → length (digits_up_to k n) ≤ suc j
unfolding digits_up_to
up_to_length zero j n h = omega arith
up_to_length (suc k) j n h = go j (ltb n 10) refl h (λ i f. up_to_length k i (n / 10) f)
  where
    go : (i : ℕ) (b : Bool) → ltb n 10 ≡ b → n < 10 ^ suc i → ((x : ℕ) → n / 10 < 10 ^ suc x → length (digits_up_to k (n / 10)) ≤ suc x) →
        length (some k n b) ≤ suc i
    go i true e f ih = omega arith
    go zero false e f ih = absurd (omega (arith, ltb-false n 10 e, pow-suc 10 0))
    go (suc i) false e f ih =
        let less = ih i (omega (arith, pow-suc 10 (suc i))) in
        rw length-append (omega arith)

-- a number below 10 ^ (j + 1) has at most j + 1 digits
pub digits-length : (j n : ℕ) → n < 10 ^ suc j → length (digits n) ≤ suc j
unfolding digits
digits-length j n h = up_to_length 6 j n h

-- ---- what is read is the digits of its value

-- one digit more, or none
more_one : (s : List ℕ) (c : Cursor) (v n : ℕ) (next : Cursor) (k : ℕ) → 0 < v → DigitsFit (suc k) v → (x : Option ℕ) → digit_of (byte_at s c) ≡ x →
    ((w : ℕ) → 0 < w → DigitsFit k w → more k s (ahead c) w ≡ Some (n, next) → digits w ++ from s (ahead c) ≡ digits n ++ from s next) →
    on_some x (λ d. more k s (ahead c) (v * 10 + d)) (Some (v, c)) ≡ Some (n, next) → digits v ++ from s c ≡ digits n ++ from s next
more_one s c v n next k l r (Some d) h ih f =
    let small = digit_small s c d h in
    let room : DigitsFit k (v * 10 + d) = rw sub-one at (room_step (suc k) v d (omega arith) small r) in
    let under = room_below k (v * 10 + d) room in
    ap (λ (x : List ℕ). digits v ++ x) (digit_spelt s c d h)
    ∙ sym (append_assoc (digits v) ((d + 48) ∷ []) (from s (ahead c)))
    ∙ ap (λ (x : List ℕ). x ++ from s (ahead c)) (sym (digits_snoc v d l (omega arith) small))
    ∙ ih (v * 10 + d) (omega arith) room f
more_one s c v n next k l r None h ih f =
    let (p, q) = some_pair_parts v n c next f in
    rw (p, q) refl

more-spelt : (k : ℕ) (s : List ℕ) (c : Cursor) (v n : ℕ) (next : Cursor) → 0 < v → DigitsFit k v → more k s c v ≡ Some (n, next) →
    digits v ++ from s c ≡ digits n ++ from s next
unfolding more
more-spelt zero s c v n next l r e =
    let (p, q) = some_pair_parts v n c next e in
    rw (p, q) refl
more-spelt (suc k) s c v n next l r e =
    more_one s c v n next k l r (digit_of (byte_at s c)) refl (λ w f. more-spelt k s (ahead c) w n next f) e

module _ (m : ℕ) (low : 1 ≤ m) (high : m ≤ 7) where
  pub number-spelt : (s : List ℕ) (c next : Cursor) (n : ℕ) → number_at m s c ≡ Some (n, next) → from s c ≡ digits n ++ from s next
  number-spelt s c next n e = go (digit_of (byte_at s c)) refl
    where
      more_of : (d : ℕ) → digit_of (byte_at s c) ≡ Some (suc d) → from s c ≡ digits n ++ from s next
      more_of d h =
          let small = digit_small s c (suc d) h in
          let same : suc d % 10 ≡ suc d = omega arith in
          let one : digits (suc d) ≡ (suc d + 48) ∷ [] = rw same at (digits_one (suc d) small) in
          let rest = sym (number_more s c m (suc d) h (λ z. omega arith)) ∙ e in
          digit_spelt s c (suc d) h
          ∙ ap (λ (x : List ℕ). x ++ from s (ahead c)) (sym one)
          ∙ more-spelt (m - 1) s (ahead c) (suc d) n next (omega arith) (room_first m (suc d) low high small) rest

      go : (x : Option ℕ) → digit_of (byte_at s c) ≡ x → from s c ≡ digits n ++ from s next
      go None h = absurd (none-some (n, next) (sym (number_none s c m h) ∙ e))
      go (Some zero) h =
          let (p, q) = some_pair_parts 0 n (ahead c) next (sym (number_zero s c m h) ∙ e) in
          let w : from s c ≡ 48 ∷ from s (ahead c) = digit_spelt s c 0 h in
          rw (← p, ← q, digits_one 0 (omega arith)) w
      go (Some (suc d)) h = more_of d h

  -- a number and the byte b after it, from c up to next
  pub field-spelt : (s : List ℕ) (c next : Cursor) (b n : ℕ) → b < 256 → field_at m s c b ≡ Some (n, next) → from s c ≡ digits n ++ (b ∷ from s next)
  field-spelt s c next b n h e =
      let f = field_found m s c b n next e in
      number-spelt s c f.after n f.number ∙ ap (λ (l : List ℕ). digits n ++ l) (past_spelt s f.after next b h f.past)

-- ---- the digits of n are read as n

-- where a text t that stands at c ends
abbrev pub past_text : Cursor → List ℕ → Cursor
past_text c t = record { at = c.at + length t; line = c.line }

-- one digit, not 0
first_reads : (n m : ℕ) (s : List ℕ) (c : Cursor) (rest : List ℕ) → 0 < n → n < 10 → from s c ≡ (n % 10 + 48) ∷ rest →
    number_at m s c ≡ more (m - 1) s (ahead c) n
first_reads n m s c rest l h e =
    let same : n % 10 ≡ n = omega arith in
    let w : byte_at s c ≡ n + 48 = rw same at (from_byte s c ((n % 10 + 48) ∷ rest) e) in
    number_more s c m n (ap digit_of w ∙ digit_byte n h) (λ z. omega arith)

-- the last digit, after those before it
last_reads : (x n m : ℕ) (s : List ℕ) (c : Cursor) (ds rest : List ℕ) → x ≡ n / 10 → length ds + 1 ≤ m → from s c ≡ ds ++ ((n % 10 + 48) ∷ rest) →
    number_at m s c ≡ more (m - length ds) s (past_text c ds) x → number_at m s c ≡ more (m - (length ds + 1)) s (record { at = c.at + (length ds + 1); line = c.line }) n
last_reads x n m s c ds rest q few e before =
    let there : from s (past_text c ds) ≡ (n % 10 + 48) ∷ rest = from_skip s c ds ((n % 10 + 48) ∷ rest) e in
    let w : byte_at s (past_text c ds) ≡ n % 10 + 48 = from_byte s (past_text c ds) ((n % 10 + 48) ∷ rest) there in
    let step = more_step s (past_text c ds) (m - length ds) x (n % 10) (ap digit_of w ∙ digit_byte (n % 10) (omega arith)) (omega arith) in
    let value : x * 10 + n % 10 ≡ n = omega arith in
    let left : m - length ds - 1 ≡ m - (length ds + 1) = omega arith in
    let place : c.at + length ds + 1 ≡ c.at + (length ds + 1) = omega arith in
    before ∙ (rw (value, left, place) at step)

-- after the digits of n, as many as there are, the value is n
prefix_reads : (k n m : ℕ) (s : List ℕ) (c : Cursor) (rest : List ℕ) → 0 < n → n < 10 ^ suc k → length (digits_up_to k n) ≤ m →
    from s c ≡ digits_up_to k n ++ rest → number_at m s c ≡ more (m - length (digits_up_to k n)) s (past_text c (digits_up_to k n)) n
unfolding digits_up_to
prefix_reads zero n m s c rest l h few e = first_reads n m s c rest l (omega (arith, pow-suc 10 0)) e
prefix_reads (suc k) n m s c rest l h few e =
    go (ltb n 10) refl few e (λ a b f. prefix_reads k (n / 10) m s c ((n % 10 + 48) ∷ rest) a (omega (arith, pow-suc 10 (suc k))) b f)
  where
    go : (b : Bool) → ltb n 10 ≡ b → length (some k n b) ≤ m → from s c ≡ some k n b ++ rest →
        (0 < n / 10 → length (digits_up_to k (n / 10)) ≤ m → from s c ≡ digits_up_to k (n / 10) ++ ((n % 10 + 48) ∷ rest) →
        number_at m s c ≡ more (m - length (digits_up_to k (n / 10))) s (past_text c (digits_up_to k (n / 10))) (n / 10)) →
        number_at m s c ≡ more (m - length (some k n b)) s (past_text c (some k n b)) n
    go true h f g ih = first_reads n m s c rest l (ltb-true n 10 h) g
    go false h f g ih =
        let long = ltb-false n 10 h in
        let size : length (digits_up_to k (n / 10) ++ ((n % 10 + 48) ∷ [])) ≡ length (digits_up_to k (n / 10)) + 1 = length-append (digits_up_to k (n / 10))
        ((n % 10 + 48) ∷ []) in
        let split : from s c ≡ digits_up_to k (n / 10) ++ ((n % 10 + 48) ∷ rest) = g ∙ append_assoc (digits_up_to k (n / 10)) ((n % 10 + 48) ∷ []) rest in
        rw size (last_reads (n / 10) n m s c (digits_up_to k (n / 10)) rest refl (omega arith) split (ih (omega arith) (omega arith) split))

module _ (m : ℕ) (s : List ℕ) (c : Cursor) (n : ℕ) (rest : List ℕ) (low : 1 ≤ m) (few : length (digits n) ≤ m) (small : n < 10000000)
    (e : from s c ≡ digits n ++ rest) (o : digit_of (get_or rest 0 256) ≡ None) where
  pub number_reads : number_at m s c ≡ Some (n, past_text c (digits n))
  unfolding digits
  number_reads = go (ltb 0 n) refl
    where
      go : (b : Bool) → ltb 0 n ≡ b → number_at m s c ≡ Some (n, past_text c (digits n))
      go true h =
          let after : from s (past_text c (digits n)) ≡ rest = from_skip s c (digits n) rest e in
          prefix_reads 6 n m s c rest (ltb-true 0 n h) (omega arith) few e
          ∙ more_none s (past_text c (digits n)) (m - length (digits n)) n (ap digit_of (from_byte s (past_text c (digits n)) rest after) ∙ o)
      go false h =
          let z : n ≡ 0 = omega (arith, ltb-false 0 n h) in
          let d : digits n ≡ 48 ∷ [] = ap digits z ∙ digits_one 0 (omega arith) in
          let w : byte_at s c ≡ 48 = from_byte s c (48 ∷ rest) (rw d at e) in
          rw (d, z) (number_zero s c m (ap digit_of w ∙ digit_byte 0 (omega arith)))

-- so two numbers with the same digits are one
pub digits_only : (a b : ℕ) → a < 10000000 → b < 10000000 → digits a ≡ digits b → a ≡ b
unfolding digit_of
digits_only a b small-a small_b e =
    let start : Cursor = record { at = 0; line = 1 } in
    let first = number_reads 7 (digits a) start a [] (omega arith) (digits-length 6 a (omega arith)) small-a (sym (append-nil (digits a))) refl in
    let second = number_reads 7 (digits a) start b [] (omega arith) (digits-length 6 b (omega arith)) small_b (e ∙ sym (append-nil (digits b))) refl in
    (some_pair_parts a b _ _ (sym first ∙ second)).0

-- where the field of n ends, with the byte b after it
abbrev pub past_field : Cursor → ℕ → ℕ → Cursor
past_field c n b = passing b (past_text c (digits n))

module _ (m : ℕ) (s : List ℕ) (c : Cursor) (n b : ℕ) (rest : List ℕ) (low : 1 ≤ m) (few : length (digits n) ≤ m) (small : n < 10000000)
    (o : digit_of b ≡ None) (e : from s c ≡ digits n ++ (b ∷ rest)) where
  field-after : from s (past_text c (digits n)) ≡ b ∷ rest
  field-after = from_skip s c (digits n) (b ∷ rest) e

  pub field_reads : field_at m s c b ≡ Some (n, past_field c n b)
  unfolding field_at
  field_reads = simp (number_reads m s c n (b ∷ rest) low few small e o, past_reads s (past_text c (digits n)) b rest field-after)

  pub field_leaves : from s (past_field c n b) ≡ rest
  field_leaves = from-ahead s (past_text c (digits n)) b rest field-after
