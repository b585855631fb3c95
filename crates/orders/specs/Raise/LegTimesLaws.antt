-- Laws of a leg's minutes: how a train goes behind another by what the tables say, and what a later arrival costs more.
use Rattle.std.specs.Prelude.{ℕ, ◌+◌, ◌*◌, ◌-◌, ◌/◌, ◌≤◌, ◌≡◌, refl, Bool, true, false, cond, List, eqb, length, get_or}
use Rattle.std.proofs.Common.{sym, ◌∙◌, ap, subst, inl, inr, ⊎_elim, mul-le-mul, zero-mul, mul-zero, arith}
use Rattle.std.proofs.Math.ListN.{get_or-eq_default}
use Rattle.finite.specs.DecideLaws.{decides_eq, is_true, is_false}
use Rattle.orders.specs.LineTables.Tables.{run_in, weight_in, due_in, shared_in, following_in, opposing_in}
use Rattle.orders.specs.Graph.LegGraph.{way_in, beside, station_of, comes_on}
use Rattle.orders.specs.Raise.LegTimes.{Departs, Arrives, more_cost, GoesBehind, source_of}

pub departs_small : (d v w run r : ℕ) → Departs d v w run r → d ≤ 2879 → v ≤ 20000 → w ≤ 20000 → r ≤ 30000
departs_small d v w run r p i j k = ⊎_elim (λ o. omega arith) (λ o. ⊎_elim (λ o. omega arith) (λ o. omega arith) o) p.one

-- by the run that the program read
pub departs_by : {d v w run r : ℕ} (t : List ℕ) (e : ℕ) → run ≡ run_in t e → Departs d v w run r → Departs d v w (run_in t e) r
departs_by {d} {v} {w} {run} {r} t e q p = subst (λ (z : ℕ). Departs d v w z r) q p

pub arrives_by : {a w d run r : ℕ} (t : List ℕ) (e : ℕ) → run ≡ run_in t e → Arrives a w d run r → Arrives a w d (run_in t e) r
arrives_by {a} {w} {d} {run} {r} t e q p = subst (λ (z : ℕ). Arrives a w d z r) q p

-- ---- a train behind another: the same way where the segment is shared, the same way where it is not, and the other way

module _ (m t ds : List ℕ) (e j : ℕ) where
  pub behind_shared : (v w gap : ℕ) (b : Bool) → way_in ds e ≡ way_in ds (beside e j) → b ≡ eqb (shared_in t (e / 16)) 1 → b ≡ true →
      gap ≡ following_in t (e / 16) → v ≡ get_or m e 0 + gap → w ≡ get_or m (176 + e) 0 + gap → GoesBehind m t ds e j v w
  behind_shared v w gap b p s k g i l = rw (is_true (decides_eq _ _) p, sym s ∙ k) (inl (refl, omega arith, omega arith))

  pub behind_alone : (v gap : ℕ) (b : Bool) → way_in ds e ≡ way_in ds (beside e j) → b ≡ eqb (shared_in t (e / 16)) 1 → b ≡ false →
      gap ≡ following_in t (e / 16) → v ≡ get_or m (176 + e) 0 + gap → GoesBehind m t ds e j v 0
  behind_alone v gap b p s k g i = rw (is_true (decides_eq _ _) p, sym s ∙ k) (inr (refl, omega arith, refl))

  pub behind_meeting : (v gap : ℕ) → (way_in ds e ≡ way_in ds (beside e j) → ⊥) →
      gap ≡ opposing_in t (e / 16) → v ≡ get_or m (176 + e) 0 + gap → GoesBehind m t ds e j v 0
  behind_meeting v gap p g i = rw (is_false (decides_eq _ _) p) (inr (refl, omega arith, refl))

module _ (t ds : List ℕ) (e j : ℕ) where
  pub source_shared : (b : Bool) → way_in ds e ≡ way_in ds (beside e j) → b ≡ eqb (shared_in t (e / 16)) 1 → b ≡ true → e ≡ source_of t ds e j
  source_shared b p s k = rw (is_true (decides_eq _ _) p, sym s ∙ k) refl

  pub source_alone : (b : Bool) → way_in ds e ≡ way_in ds (beside e j) → b ≡ eqb (shared_in t (e / 16)) 1 → b ≡ false → 176 + e ≡ source_of t ds e j
  source_alone b p s k = rw (is_true (decides_eq _ _) p, sym s ∙ k) refl

  pub source_meeting : (way_in ds e ≡ way_in ds (beside e j) → ⊥) → 176 + e ≡ source_of t ds e j
  source_meeting p = rw (is_false (decides_eq _ _) p) refl

-- ---- what a later arrival costs more

module _ (t : List ℕ) (e a b : ℕ) where
  pub more_none : (w : ℕ) → w ≡ weight_in t e → w ≡ 0 → 0 ≡ more_cost t e a b
  more_none w p q = sym (ap (λ (n : ℕ). n * ((b - due_in t e) - (a - due_in t e))) (sym p ∙ q) ∙ zero-mul _)

  pub more_early : b ≤ due_in t e → 0 ≡ more_cost t e a b
  more_early p = sym (ap (λ (n : ℕ). weight_in t e * n) (let z : (b - due_in t e) - (a - due_in t e) ≡ 0 = omega arith in z) ∙ mul-zero (weight_in t e))

  -- by factors that the program multiplies
  pub more_is : (w d x y : ℕ) → x ≡ w → w ≡ weight_in t e → y ≡ d → d ≡ (b - due_in t e) - (a - due_in t e) → x * y ≡ more_cost t e a b
  more_is w d x y p q r s = ap (λ (n : ℕ). n * y) (p ∙ q) ∙ ap (λ (n : ℕ). weight_in t e * n) (r ∙ s)

  pub more-most : weight_in t e ≤ 99 → b ≤ 2879 → more_cost t e a b ≤ 285021
  more-most p q = mul-le-mul {n₂ = 99} {m₂ = 2879} p (omega arith)

-- ---- the station of departure, and the leg on which another train comes to it

module _ (ds : List ℕ) (e : ℕ) where
  pub station_out : get_or ds e 0 ≡ 1 → e / 16 ≡ station_of ds e
  station_out p = rw (is_true (decides_eq _ _) p) refl

  pub station_in : (get_or ds e 0 ≡ 1 → ⊥) → e / 16 + 1 ≡ station_of ds e
  station_in p = rw (is_false (decides_eq _ _) p) refl

module _ (ds : List ℕ) (j s station : ℕ) (at : s ≡ station) where
  -- at either end of the line it is all one: there is no such leg before, or none after
  pub comes_first : s ≡ 0 → j ≡ comes_on ds station j
  comes_first p = either (eqb (way_in ds (16 * station + j)) 1)
    where
      either : (b : Bool) → j ≡ cond b (16 * (station - 1) + j) (16 * station + j)
      either true = omega arith
      either false = omega arith

  pub comes_last : length ds ≡ 176 → s ≡ 11 → 176 + j ≡ comes_on ds station j
  comes_last l p = rw (get_or-eq_default ds 0 {n = 16 * station + j} (omega arith)) (omega arith)

  pub comes_out : get_or ds (16 * s + j) 0 ≡ 1 → 16 * (s - 1) + j ≡ comes_on ds station j
  comes_out p = rw (← at) (rw (is_true (decides_eq _ _) p) refl)

  pub comes_in : (get_or ds (16 * s + j) 0 ≡ 1 → ⊥) → 16 * s + j ≡ comes_on ds station j
  comes_in p = rw (← at) (rw (is_false (decides_eq _ _) p) refl)
