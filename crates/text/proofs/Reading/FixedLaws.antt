-- Laws of parts of a fixed form: each step, what is read is its text, and a text is read as its value.
use Rattle.std.specs.Prelude.{ℕ, ◌+◌, ◌*◌, ◌/◌, ◌%◌, ◌<◌, ◌≤◌, length, get_or, drop, Some, None}
use Rattle.std.proofs.Math.Path.{◌≡◌, refl, ap}
use Rattle.std.proofs.Common.{◌∙◌, drop_of_length-le, drop-cons}
use mathlib.Core.List.{List, [], ◌∷◌, ◌++◌}
use native.Mathlib.Omega.{arith}
use Rattle.std.proofs.lemmas.Option.{some_pair_parts}
use Rattle.std.proofs.Math.Numerals.{add-one}
use Rattle.finite.specs.Each.{Each}
use Rattle.text.specs.declared.Cursor.{Cursor}
use Rattle.text.specs.Reading.Bytes.{byte_at, from, ahead, passing, digit_of, past_of}
use Rattle.text.specs.Reading.BytesLaws.{from_byte, from-ahead, past_spelt, past_reads, digit_byte, digit_small, digit_spelt}
use Rattle.text.specs.Reading.Parsed.{Parsed}
use Rattle.text.specs.Reading.ChoiceLaws.{some_gave}
use Rattle.text.specs.Reading.NumbersLaws.{Followed, followed}
use Rattle.text.proofs.Reading.ParsedLaws.{some_got, got_is, bounded_fits, limited_value, limited_got, Reads}
use Rattle.text.specs.Reading.Fixed.{past_all, text_at, pair_at, pair_field_at, paired_at}
use Rattle.text.specs.Writing.Digits.{pair_text}

-- ---- a text, of which i bytes are passed

module _ (t s : List ℕ) (i : ℕ) (c : Cursor) where
  pub all_step : {next : Cursor} → i < length t → past_of s c (get_or t i 0) ≡ Some next → past_all (drop i t) s c ≡ past_all (drop (i + 1) t) s next
  unfolding past_all
  all_step h e = rw (drop-cons t i 0 h, add-one i, e) refl

  pub all-stop : i < length t → past_of s c (get_or t i 0) ≡ None → past_all (drop i t) s c ≡ None
  unfolding past_all
  all-stop h e = rw (drop-cons t i 0 h, e) refl

  pub all_end : length t ≤ i → past_all (drop i t) s c ≡ Some c
  unfolding past_all
  all_end h = rw (drop_of_length-le t h) refl

module _ (form : ℕ) (t s : List ℕ) (c : Cursor) where
  pub text_wrong : past_all t s c ≡ None → text_at form t s c ≡ Parsed.bad form c.line
  unfolding text_at
  text_wrong e = simp e

  pub text_past : {next : Cursor} → past_all t s c ≡ Some next → text_at form t s c ≡ Parsed.got tt next
  unfolding text_at
  text_past e = simp e

  -- a text that was read was passed
  pub text_passed : {next : Cursor} → text_at form t s c ≡ Parsed.got tt next → past_all t s c ≡ Some next
  unfolding text_at
  text_passed {next} e =
      let p = some_got (past_all t s c) _ form c.line tt next e in
      got_is (λ x end. past_all t s c ≡ Some end) p.gave p.is

abbrev pub Bytes : List ℕ → Type 0
Bytes t = Each (λ b. b < 256) t

all-spelt : (t s : List ℕ) (c next : Cursor) → Bytes t → past_all t s c ≡ Some next → from s c ≡ t ++ from s next
unfolding past_all
all-spelt [] s c next w e = let q : c ≡ next = cc in ap (from s) q
all-spelt (b ∷ t) s c next w e =
    let p = some_gave (past_of s c b) _ e in
    past_spelt s c p.value b w.0 p.is ∙ ap (λ (l : List ℕ). b ∷ l) (all-spelt t s p.value next w.1 p.gave)

pub text_spelt : (form : ℕ) (t s : List ℕ) (c next : Cursor) → Bytes t → text_at form t s c ≡ Parsed.got tt next → from s c ≡ t ++ from s next
text_spelt form t s c next w e = all-spelt t s c next w (text_passed form t s c e)

-- the text t is passed, and rest is what stands after it
record Passed (t s : List ℕ) (c : Cursor) (rest : List ℕ) : Type 0 where
  next : Cursor
  passed : past_all t s c ≡ Some next
  leaves : from s next ≡ rest

all_passed : (t s : List ℕ) (c : Cursor) (rest : List ℕ) → from s c ≡ t ++ rest → Passed t s c rest
unfolding past_all
all_passed [] s c rest e = record { next = c; passed = refl; leaves = e }
all_passed (b ∷ t) s c rest e =
    let more = all_passed t s (passing b c) rest (from-ahead s c b (t ++ rest) e) in
    record { next = more.next; passed = rw (past_reads s c b (t ++ rest) e) more.passed; leaves = more.leaves }

pub text_reads : (form : ℕ) (t s : List ℕ) (c : Cursor) (rest : List ℕ) → from s c ≡ t ++ rest → Reads (text_at form t s c) tt s rest
text_reads form t s c rest e =
    let w = all_passed t s c rest e in
    record { next = w.next; reads = text_past form t s c w.passed; leaves = w.leaves }

-- ---- two digits

-- what two digits are, from c up to next
record PairSpelt (s : List ℕ) (c : Cursor) (n : ℕ) (next : Cursor) : Type 0 where
  small : n < 100
  text : from s c ≡ pair_text n ++ from s next

digits-pair : (t u : ℕ) → t < 10 → u < 10 → (rest : List ℕ) → (t + 48) ∷ ((u + 48) ∷ rest) ≡ pair_text (t * 10 + u) ++ rest
digits-pair t u ht hu rest =
    let tens : (t * 10 + u) / 10 % 10 ≡ t = omega arith in
    let units : (t * 10 + u) % 10 ≡ u = omega arith in
    rw (tens, units) refl

pair-spelt : (s : List ℕ) (c : Cursor) (n : ℕ) (next : Cursor) → pair_at s c ≡ Some (n, next) → PairSpelt s c n next
unfolding pair_at
pair-spelt s c n next e =
    let t = some_gave (digit_of (byte_at s c)) _ e in
    let u = some_gave (digit_of (byte_at s (ahead c))) _ t.gave in
    let small-t = digit_small s c t.value t.is in
    let small-u = digit_small s (ahead c) u.value u.is in
    let (value, end) = some_pair_parts (t.value * 10 + u.value) n (ahead (ahead c)) next u.gave in
    record {
      small = omega arith;
      text =
          digit_spelt s c t.value t.is
          ∙ ap (λ (l : List ℕ). (t.value + 48) ∷ l) (digit_spelt s (ahead c) u.value u.is)
          ∙ digits-pair t.value u.value small-t small-u (from s (ahead (ahead c)))
          ∙ ap (λ (k : ℕ). pair_text k ++ from s (ahead (ahead c))) value
          ∙ ap (λ (x : Cursor). pair_text n ++ from s x) end;
    }

-- the two digits, of a field that has them
pub pair_found : (s : List ℕ) (c : Cursor) (b n : ℕ) (next : Cursor) → pair_field_at s c b ≡ Some (n, next) → Followed (pair_at s c) s b n next
unfolding pair_field_at
pair_found s c b n next e = followed (pair_at s c) s b n next e

module _ (form range lo hi b : ℕ) (s : List ℕ) (c : Cursor) where
  -- what was read is in its range, and the text is its two digits and the byte b
  pub record PairedSpelt (n : ℕ) (next : Cursor) : Type 0 where
    pub low : lo ≤ n
    pub high : n ≤ hi
    pub text : from s c ≡ pair_text n ++ (b ∷ from s next)

  pub paired_spelt : (n : ℕ) (next : Cursor) → b < 256 → paired_at form range lo hi b s c ≡ Parsed.got n next → PairedSpelt n next
  unfolding paired_at
  paired_spelt n next h e =
      let w = limited_got form range lo hi c.line (pair_field_at s c b) n next e in
      let f = pair_found s c b n next w.is in
      let x = pair-spelt s c n f.after f.number in
      record { low = w.low; high = w.high; text = x.text ∙ ap (λ (l : List ℕ). pair_text n ++ l) (past_spelt s f.after next b h f.past) }

  pub paired_reads : (n : ℕ) (rest : List ℕ) → lo ≤ n → n ≤ hi → hi < 100 → from s c ≡ pair_text n ++ (b ∷ rest) →
      Reads (paired_at form range lo hi b s c) n s rest
  unfolding paired_at pair_field_at pair_at
  paired_reads n rest l h small e =
      let second : from s (ahead c) ≡ (n % 10 + 48) ∷ (b ∷ rest) = from-ahead s c (n / 10 % 10 + 48) _ e in
      let third : from s (ahead (ahead c)) ≡ b ∷ rest = from-ahead s (ahead c) (n % 10 + 48) _ second in
      let tens : digit_of (byte_at s c) ≡ Some (n / 10 % 10) = ap digit_of (from_byte s c _ e) ∙ digit_byte (n / 10 % 10) (omega arith) in
      let units : digit_of (byte_at s (ahead c)) ≡ Some (n % 10) = ap digit_of (from_byte s (ahead c) _ second) ∙ digit_byte (n % 10) (omega arith) in
      let value : n / 10 % 10 * 10 + n % 10 ≡ n = omega arith in
      let field : pair_field_at s c b ≡ Some (n, passing b (ahead (ahead c))) =
      rw (tens, units, past_reads s (ahead (ahead c)) b rest third, value) refl in
      record {
        next = passing b (ahead (ahead c));
        reads = limited_value form range lo hi c.line field (bounded_fits lo hi n l h);
        leaves = from-ahead s (ahead (ahead c)) b rest third;
      }
