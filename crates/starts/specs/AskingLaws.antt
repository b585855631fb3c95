-- Whether a list may be asked is decided by tests; and the tests of the code, minute by minute.
use Rattle.std.specs.Prelude.{ℕ, ◌+◌, ◌-◌, ◌≤◌, ◌<◌, Bool, ◌&&◌, true, false, ◌≡◌, List, Option, Some, None, is_some, leb, ltb, length, get_or}
use Rattle.std.proofs.Common.{true≢false, sym, ◌∙◌, subst, arith}
use Rattle.std.proofs.lemmas.Bool.{false≢true}
use Rattle.std.proofs.Math.Decide.{dec_lt}
use Rattle.finite.specs.Below.{all}
use Rattle.text.specs.Reading.Limits.{bounded_of}
use Rattle.text.proofs.Reading.ParsedLaws.{bounded_within, bounded_fits}
use Rattle.finite.specs.Decide.{Decides}
use Rattle.finite.specs.DecideLaws.{decides_as, decides_le, decides_lt, decides_and}
use Rattle.finite.specs.LoopLaws.{decides_all}
use Rattle.starts.specs.Asking.{most_minutes, RisingTo, Rising, Asked}

abbrev asked_test : ℕ → ℕ → List ℕ → ℕ → Bool
asked_test trains train minutes entries =
    leb 1 (length minutes)
    && (leb (length minutes) most_minutes
    && (all (λ k. ltb (get_or minutes k 0) (get_or minutes (k + 1) 0)) (length minutes - 1)
    && (all (λ k. leb (get_or minutes k 0) 2879) (length minutes)
    && (leb (length minutes) entries
    && (leb 1 train && leb train trains)))))

pub decides_asked : (trains train : ℕ) (minutes : List ℕ) (entries : ℕ) → Decides (Asked trains train minutes entries) (asked_test trains train minutes entries)
decides_asked trains train minutes entries =
    decides_as
    (λ h. record {
      some = h.0;
      few = h.1.0;
      rising = λ k b. h.1.1.0 k (omega arith);
      days = h.1.1.1.0;
      room = h.1.1.1.1.0;
      there = h.1.1.1.1.1;
    })
    (λ a. (a.some, (a.few, (λ k b. a.rising k (omega arith), (a.days, (a.room, a.there))))))
    (decides_and (decides_le _ _)
    (decides_and (decides_le _ _)
    (decides_and (decides_all _ _ (length minutes - 1) (λ k _. decides_lt _ _))
    (decides_and (decides_all _ _ (length minutes) (λ k _. decides_le _ _))
    (decides_and (decides_le _ _) (decides_and (decides_le _ _) (decides_le _ _)))))))

-- ---- what the code tells

pub tells_yes : {P : Type 0} → P → Decides P true
tells_yes p = record { yea = λ _. p; nay = λ e. absurd (true≢false e) }

pub tells_no : {P : Type 0} → (P → ⊥) → Decides P false
tells_no n = record { yea = λ e. absurd (false≢true e); nay = λ _. n }

-- a number built in its limits, or refused
module _ {b : Option ℕ} (lo hi n : ℕ) (built : b ≡ bounded_of lo hi n) where
  pub built_in : {v : ℕ} → b ≡ Some v → (lo ≤ n) × (n ≤ hi)
  built_in {v} is = let w = bounded_within lo hi n v (sym built ∙ is) in (w.low, w.high)

  pub built_not : b ≡ None → (lo ≤ n) × (n ≤ hi) → ⊥
  built_not is h = let e : None ≡ Some n = sym is ∙ built ∙ bounded_fits lo hi n h.0 h.1 in cc

-- so whether it was built decides whether it is in them
pub decides_built : (lo hi n : ℕ) (b : Option ℕ) → b ≡ bounded_of lo hi n → (r : Bool) → r ≡ is_some b → Decides ((lo ≤ n) × (n ≤ hi)) r
decides_built lo hi n b built r r-is = subst (Decides ((lo ≤ n) × (n ≤ hi))) (sym r-is) (go b built)
  where
    go : (b : Option ℕ) → b ≡ bounded_of lo hi n → Decides ((lo ≤ n) × (n ≤ hi)) (is_some b)
    go (Some v) built = let w = bounded_within lo hi n v (sym built) in tells_yes (w.low, w.high)
    go None built = tells_no (λ h. let e : None ≡ Some n = built ∙ bounded_fits lo hi n h.0 h.1 in cc)

-- the same where nothing is below the limits
pub decides_high : (hi n : ℕ) (b : Option ℕ) → b ≡ bounded_of 0 hi n → (r : Bool) → r ≡ is_some b → Decides (n ≤ hi) r
decides_high hi n b built r r-is = let d = decides_built 0 hi n b built r r-is in record { yea = λ e. (d.yea e).1; nay = λ e h. d.nay e (omega arith, h) }

-- one minute more, which is after the one before it
module _ (minutes : List ℕ) (k : ℕ) (some : 1 ≤ k) where
  pub rising_more : RisingTo k minutes → get_or minutes (k - 1) 0 < get_or minutes k 0 → RisingTo (k + 1) minutes
  rising_more h after j b = elim (dec_lt (j + 1) k) [
    | yes c ↦ h j c
    | no c ↦
        let here : k - 1 ≡ j = omega arith in
        let next : k ≡ j + 1 = omega arith in
        subst (λ (x : ℕ). get_or minutes x 0 < get_or minutes (j + 1) 0) here (subst (λ (x : ℕ). get_or minutes (k - 1) 0 < get_or minutes x 0) next after)
  ]

  -- or is not
  pub rising_not : k < length minutes → get_or minutes k 0 ≤ get_or minutes (k - 1) 0 → Rising minutes → ⊥
  rising_not b before h =
      let next : k - 1 + 1 ≡ k = omega arith in
      omega (arith, before, rw next at (h (k - 1) (omega arith)))
