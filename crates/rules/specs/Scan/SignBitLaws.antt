-- The tests of two trains on a segment by the highest bit of a number of 32 bits: a room has it where the second train is too early, and two such answers
-- are put together by the operations on bits.
use Rattle.std.specs.Prelude.{◌≡◌, ℕ, ◌+◌, ◌-◌, ◌*◌, ◌^◌, ◌<◌, ◌≤◌, Bool, true, false, ◌&&◌, bit_and, bit_or, nat_le, refl}
use Rattle.std.proofs.Common.{sym, ◌∙◌, ap₂, true≢false, arith, le-leb}
use Rattle.std.proofs.lemmas.Nat.{and_block, and_le_l, and_le_r, or_lt}
use Rattle.std.specs.Int.Bits.{or_add_and}
use Rattle.std.proofs.lemmas.Bool.{lt-leb}
use Rattle.finite.specs.DecideLaws.{by_test, decides_le}
use Rattle.rules.specs.Scan.Scanning.{RoomFor, Denies, BothDeny}

-- a room has it where the second train is too early
pub room_denies : (x gap y r : ℕ) → x < 65536 → gap < 65536 → y < 65536 → RoomFor x gap y r → Denies (nat_le (x + gap) y) r
room_denies x gap y r s t u h =
    by_test (decides_le (x + gap) y)
    (λ l. rw (le-leb _ _ l) (record { within = omega (arith, h.later l); low = λ _. omega (arith, h.later l); high = λ e. absurd (true≢false e) }))
    (λ l. rw (lt-leb (x + gap) y (omega arith))
    (let e : r + (x + gap) ≡ y + 4294967296 = h.earlier (omega arith) in
    record { within = omega arith; low = λ e. absurd (true≢false (sym e)); high = λ _. omega arith }))

-- one of two has it where one of two does not hold
pub either_denies : (a b : Bool) (p q : ℕ) → Denies a p → Denies b q → Denies (a && b) (bit_or p q)
either_denies true true p q f g =
    record {
      within = or_lt 32 p q f.within g.within;
      low = λ _. or_lt 31 p q (f.low refl) (g.low refl);
      high = λ e. absurd (true≢false e);
    }
either_denies true false p q f g =
    record {
      within = or_lt 32 p q f.within g.within;
      low = λ e. absurd (true≢false (sym e));
      high = λ _. omega (arith, g.high refl, or_add_and p q, and_le_l p q);
    }
either_denies false b p q f g =
    record {
      within = or_lt 32 p q f.within g.within;
      low = λ e. absurd (true≢false (sym e));
      high = λ _. omega (arith, f.high refl, or_add_and p q, and_le_r p q);
    }

-- where both have it, what they have in common has it
and_highest : (x y : ℕ) → 2147483648 ≤ x → x < 4294967296 → 2147483648 ≤ y → y < 4294967296 → 2147483648 ≤ bit_and x y
and_highest x y l u k v =
    let one : x ≡ 1 * 2 ^ 31 + (x - 2147483648) = omega arith in
    let other : y ≡ 1 * 2 ^ 31 + (y - 2147483648) = omega arith in
    omega (arith, ap₂ bit_and one other ∙ and_block 31 1 1 (x - 2147483648) (y - 2147483648) (omega arith) (omega arith))

pub both_denied : (p q : ℕ) → BothDeny p q (nat_le 2147483648 (bit_and p q))
both_denied p q true b f g = lt-leb 2147483648 (bit_and p q) (omega (arith, f.low refl, and_le_l p q))
both_denied p q false true f g = lt-leb 2147483648 (bit_and p q) (omega (arith, g.low refl, and_le_r p q))
both_denied p q false false f g = le-leb 2147483648 (bit_and p q) (and_highest p q (f.high refl) f.within (g.high refl) g.within)
