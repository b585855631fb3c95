-- Laws of numbers at a cursor, one step at a time.
use Prim.Native.Nat.{ℕ, zero, suc, ◌+◌, ◌-◌, ◌*◌, ◌^◌, ◌<◌, ◌≤◌}
use Rattle.std.specs.Prelude.{◌≡◌, List, Option, Some, None}
use Rattle.std.proofs.Math.Path.{refl}
use Rattle.std.proofs.Common.{sym, ap, ◌∙◌, arith, sub-one, not-suc-le-zero, mul_assoc, mul-le-mul_right, le_trans, le-mul_of_pos_right, mul-le-mul}
use Rattle.std.proofs.Math.Nat.{pow-succ', one-le-pow, pow-le-pow_right}
use Rattle.std.proofs.lemmas.Option.{some_pair_parts}
use borrow.Author.Tests.{ne_eqb}
use Rattle.text.specs.declared.Cursor.{Cursor}
use Rattle.text.specs.Reading.Bytes.{byte_at, ahead, digit_of, past_of}
use Rattle.text.specs.Reading.Choice.{on_some}
use Rattle.text.specs.Reading.ChoiceLaws.{some_gave}
use Rattle.text.specs.Reading.Numbers.{more, number_at, field_at}

module _ (s : List ℕ) (c : Cursor) where
  pub number_none : (m : ℕ) → digit_of (byte_at s c) ≡ None → number_at m s c ≡ None
  unfolding number_at
  number_none m e = simp e

  pub number_zero : (m : ℕ) → digit_of (byte_at s c) ≡ Some 0 → number_at m s c ≡ Some (0, ahead c)
  unfolding number_at
  number_zero m e = simp e

  pub number_more : (m d : ℕ) → digit_of (byte_at s c) ≡ Some d → (d ≡ 0 → ⊥) → number_at m s c ≡ more (m - 1) s (ahead c) d
  unfolding number_at
  number_more m d e h = simp (e, ne_eqb d 0 h)

  pub more_none : (k v : ℕ) → digit_of (byte_at s c) ≡ None → more k s c v ≡ Some (v, c)
  unfolding more
  more_none zero v e = refl
  more_none (suc k) v e = simp e

  pub more_step : (k v d : ℕ) → digit_of (byte_at s c) ≡ Some d → 0 < k → more k s c v ≡ more (k - 1) s (ahead c) (v * 10 + d)
  unfolding more
  more_step zero v d e h = absurd (not-suc-le-zero h)
  more_step (suc k) v d e h = rw (e, sub-one) refl

-- ---- a value with k digits yet to come stays below 10,000,000

abbrev pub DigitsFit : ℕ → ℕ → Type 0
DigitsFit k v = (v + 1) * 10 ^ k ≤ 10000000

pub room_step : (k v d : ℕ) → 0 < k → d < 10 → DigitsFit k v → DigitsFit (k - 1) (v * 10 + d)
room_step zero v d h l r = absurd (not-suc-le-zero h)
room_step (suc k) v d h l r =
    let regroup : (v + 1) * 10 * 10 ^ k ≡ (v + 1) * 10 ^ suc k = mul_assoc (v + 1) 10 (10 ^ k) ∙ ap (λ (x : ℕ). (v + 1) * x) (sym (pow-succ' 10 k)) in
    let smaller : (v * 10 + d + 1) * 10 ^ k ≤ (v + 1) * 10 * 10 ^ k = mul-le-mul_right (10 ^ k) (omega arith) in
    rw sub-one (le_trans (rw regroup at smaller) r)

pub room_below : (k v : ℕ) → DigitsFit k v → v < 10000000
room_below k v r =
    let least : 0 < 10 ^ k = one-le-pow k 10 (omega arith) in
    let fewer : v + 1 ≤ (v + 1) * 10 ^ k = le-mul_of_pos_right (v + 1) least in
    omega arith

pub room_first : (m d : ℕ) → 1 ≤ m → m ≤ 7 → d < 10 → DigitsFit (m - 1) d
room_first m d l h b =
    let most : 10 ^ (m - 1) ≤ 1000000 = pow-le-pow_right {n = 10} (omega arith) {i = m - 1} {j = 6} (omega arith) in
    let whole : (d + 1) * 10 ^ (m - 1) ≤ 10 * 1000000 = mul-le-mul {n₂ = 10} {m₂ = 1000000} (omega arith) most in
    whole

-- ---- a number and the byte after it

-- the number r, and then the byte b
pub record Followed (r : Option (ℕ × Cursor)) (s : List ℕ) (b n : ℕ) (next : Cursor) : Type 0 where
  pub after : Cursor
  pub number : r ≡ Some (n, after)
  pub past : past_of s after b ≡ Some next

pub followed : (r : Option (ℕ × Cursor)) (s : List ℕ) (b n : ℕ) (next : Cursor) →
    on_some {A = Option (ℕ × Cursor)} {B = ℕ × Cursor} r (λ (x, after). on_some (past_of s after b) (λ z. Some (x, z)) None) None ≡ Some (n, next) → Followed r s b n next
followed r s b n next e =
    let number = some_gave r _ e in
    let past = some_gave (past_of s number.value.1 b) _ number.gave in
    let (same, end) = some_pair_parts number.value.0 n past.value next past.gave in
    record {
      after = number.value.1;
      number = number.is ∙ ap (λ (k : ℕ). Some (k, number.value.1)) same;
      past = past.is ∙ ap Some end;
    }

pub field_found : (m : ℕ) (s : List ℕ) (c : Cursor) (b n : ℕ) (next : Cursor) → field_at m s c b ≡ Some (n, next) → Followed (number_at m s c) s b n next
unfolding field_at
field_found m s c b n next e = followed (number_at m s c) s b n next e
