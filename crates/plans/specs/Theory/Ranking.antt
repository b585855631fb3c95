-- The order on lists of numbers by which timetables are ranked: the first entry that differs decides. A missing entry counts as 0.
use Rattle.std.specs.Prelude.{ℕ, zero, suc, ◌<◌, ◌≡◌, Bool, false, cond, List, length, get_or, ltb, eqb}

-- the two agree below `i`
abbrev pub Alike : ℕ → List ℕ → List ℕ → Type 0
Alike i a b = (j : ℕ) → j < i → get_or a j 0 ≡ get_or b j 0

-- `a` is ahead of `b`: at the first place where they differ, `a` has the smaller entry
pub record Ahead (a b : List ℕ) : Type 0 where
  pub place : ℕ
  pub alike : Alike place a b
  pub less : get_or a place 0 < get_or b place 0

-- The test, as a loop computes it: look at `n` entries, from the `i`th on.
unfoldable pub ahead_from : ℕ → ℕ → List ℕ → List ℕ → Bool
ahead_from zero i a b = false
ahead_from (suc n) i a b = cond (eqb (get_or a i 0) (get_or b i 0)) (ahead_from n (suc i) a b) (ltb (get_or a i 0) (get_or b i 0))

unfoldable pub ahead : List ℕ → List ℕ → Bool
ahead a b = ahead_from (length b) 0 a b
