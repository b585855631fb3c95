-- Laws of the parts of the walk: each way in which taking up a plan can go on, and how the ways add up.
use Prim.Native.Nat.{ℕ, zero, suc, ◌+◌, ◌≤◌, ◌<◌}
use Rattle.std.specs.Prelude.{◌≡◌, true, false, ◌&&◌}
use Rattle.std.proofs.Math.Path.{refl}
use Rattle.std.proofs.Common.{◌∙◌, ap}
use mathlib.Core.List.{List, [], ◌∷◌, ◌++◌, append-nil}
use native.Mathlib.Omega.{arith}
use Rattle.finite.specs.Below.{gather}
use Rattle.finite.specs.LoopLaws.{gather-more}
use Rattle.orders.specs.LeastMinutes.Least.{minutes, none}
use Rattle.plans.specs.Theory.Problem.{Problem}
use Rattle.plans.specs.Theory.BestSoFar.{BestSoFar, found, improves}
use Rattle.walk.specs.Walk.{Look, ends, solved, splits, Walked, in_order, look_ways, look_least, look, follow, take_up}
use Rattle.walk.specs.Taking.{taken_up}

-- ---- taking up a plan

module _ (P : Problem) (fuel : ℕ) (cs : P.Plan) where
  pub taken_up_lem : (s m : List ℕ) (b : BestSoFar) → P.least cs s ≡ minutes m → take_up P (suc fuel) cs s b ≡ taken_up P fuel cs m b
  unfolding take_up look taken_up
  taken_up_lem s m b e = rw e refl

  -- with no minutes, or none worth a look, that is all
  pub taken_none : (s : List ℕ) (b : BestSoFar) → P.least cs s ≡ none → take_up P (suc fuel) cs s b ≡ record { best = b; steps = 1 }
  unfolding take_up look look_least follow
  taken_none s b e = rw e refl

  module _ (m : List ℕ) (b : BestSoFar) where
    pub taken_cut : P.allowed m && improves P m b ≡ false → taken_up P fuel cs m b ≡ record { best = b; steps = 1 }
    unfolding taken_up look_least follow
    taken_cut e = rw e refl

    pub taken_clear : P.allowed m && improves P m b ≡ true → P.ways m ≡ [] → taken_up P fuel cs m b ≡ record { best = found m; steps = 1 }
    unfolding taken_up look_least look_ways follow
    taken_clear e q = rw (e, q) refl

    abbrev parts : Walked
    parts = in_order (λ c. take_up P fuel (P.also c cs) m) (P.ways m) b

    pub taken_split : P.allowed m && improves P m b ≡ true → (P.ways m ≡ [] → ⊥) →
        taken_up P fuel cs m b ≡ record { best = parts.best; steps = suc parts.steps }
    unfolding taken_up look_least
    taken_split e n = rw e (go (P.ways m) n)
      where
        go : (ws : List P.Choice) → (ws ≡ [] → ⊥) →
            follow P (λ ds n. take_up P fuel ds n) cs b (look_ways P m ws) ≡
            record { best = (in_order (λ c. take_up P fuel (P.also c cs) m) ws b).best; steps = suc (in_order (λ c. take_up P fuel (P.also c cs) m) ws b).steps }
        go [] n = absurd (n refl)
        go (w ∷ ws) n = unfold look_ways follow in refl

  -- the plan itself is counted
  pub taken_some : (m : List ℕ) (b : BestSoFar) → 1 ≤ (taken_up P fuel cs m b).steps
  unfolding taken_up
  taken_some m b = go (look_least P (minutes m) b)
    where
      go : (x : Look P.Choice) → 1 ≤ (follow P (λ ds n. take_up P fuel ds n) cs b x).steps
      go ends = unfold follow in omega arith
      go (solved n) = unfold follow in omega arith
      go (splits n ws) = unfold follow in omega arith

-- ---- one way more

-- numbers that give nothing
pub none_more : {A : Type 0} (f : ℕ → List A) (k n e : ℕ) → e ≡ n + k → ((i : ℕ) → n ≤ i → i < e → f i ≡ []) → gather f e ≡ gather f n
none_more f zero n e at h = ap (gather f) (omega arith)
none_more f (suc k) n e at h =
    let last : e ≡ n + k + 1 = omega arith in
    ap (gather f) last ∙ gather-more f (n + k) ∙ ap (λ (x : List _). gather f (n + k) ++ x) (h (n + k) (omega arith) (omega arith)) ∙
    append-nil (gather f (n + k)) ∙ none_more f k n (n + k) refl (λ i low high. h i low (omega arith))

module _ {A : Type 0} (go : A → BestSoFar → Walked) where
  pub more_best : (xs : List A) (x : A) (b : BestSoFar) → (in_order go (xs ++ (x ∷ [])) b).best ≡ (go x (in_order go xs b).best).best
  unfolding in_order
  more_best [] x b = refl
  more_best (y ∷ xs) x b = more_best xs x (go y b).best

  pub more_steps : (xs : List A) (x : A) (b : BestSoFar) → (in_order go (xs ++ (x ∷ [])) b).steps ≡ (in_order go xs b).steps + (go x (in_order go xs b).best).steps
  unfolding in_order
  more_steps [] x b = omega arith
  more_steps (y ∷ xs) x b = omega (arith, more_steps xs x (go y b).best)
