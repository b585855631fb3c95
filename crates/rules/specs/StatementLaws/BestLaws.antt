-- A line has at most one best timetable: of two that are not the same each would be preferred to the other. And the best has the least delay.
use Rattle.std.specs.Prelude.{◌≡◌, ℕ, ◌<◌, ◌≤◌, Bool, ◌&&◌, List, ◌==◌}
use Rattle.std.proofs.Common.{sym, inl, inr, arith}
use Rattle.std.proofs.Math.Decide.{dec_lt}
use Rattle.finite.specs.Decide.{Decides}
use Rattle.finite.specs.DecideLaws.{by_test, decides_and, decides_eq}
use Rattle.finite.specs.Below.{all}
use Rattle.finite.specs.LoopLaws.{decides_all}
use Rattle.line.specs.declared.Line.{Line}
use Rattle.line.specs.Within.{Within, Arrays}
use Rattle.rules.specs.Statement.Paths.{legs}
use Rattle.rules.specs.Statement.Minutes.{departure, arrival}
use Rattle.rules.specs.Statement.Delay.{weighted_delay, Same, compared_count, compared, Earlier, Preferred, Best, LeastDelay}
use Rattle.rules.specs.StatementLaws.SameLaws.{same_sym, delay-same}

-- ---- the same minutes, as a test

same_test : Line → List ℕ → List ℕ → Bool
same_test l m m' = all (λ i. all (λ k. (departure l m i k == departure l m' i k) && arrival l m i k == arrival l m' i k) (legs l i)) l.traffic.train_count

decides_same : (l : Line) (m m' : List ℕ) → Decides (Same l m m') (same_test l m m')
unfolding same_test
decides_same l m m' = decides_all _ _ l.traffic.train_count (λ i _. decides_all _ _ (legs l i) (λ k _. decides_and (decides_eq _ _) (decides_eq _ _)))

-- ---- no two are preferred to each other

earlier_once : (l : Line) (m m' : List ℕ) → Earlier l m m' → Earlier l m' m → ⊥
earlier_once l m m' a b =
    elim (dec_lt a.who b.who) [
      | yes h ↦ omega (arith, a.less, b.alike a.who a.real.0 a.place a.real.1 (inl h))
      | no h ↦ elim (dec_lt b.who a.who) [
        | yes k ↦ omega (arith, b.less, a.alike b.who b.real.0 b.place b.real.1 (inl k))
        | no k ↦ same-train a.who b.who (omega arith) a.place b.place a.real.0 a.real.1 b.real.0 b.real.1 a.less b.less
            (λ o. a.alike b.who b.real.0 b.place b.real.1 (inr o))
            (λ o. b.alike a.who a.real.0 a.place a.real.1 (inr o))
      ]
    ]
  where
    same-train : (i j : ℕ) → i ≡ j → (k h : ℕ) → i < l.traffic.train_count → k < compared_count l i → j < l.traffic.train_count → h < compared_count l j →
        compared l m i k < compared l m' i k → compared l m' j h < compared l m j h → ((j ≡ i) × (h < k) → compared l m j h ≡ compared l m' j h) →
        ((i ≡ j) × (k < h) → compared l m' i k ≡ compared l m i k) → ⊥
    same-train i j e k h ni nk nj nh x y f g = elim (dec_lt k h) [
      | yes o ↦ omega (arith, g (e, o))
      | no o ↦ elim (dec_lt h k) [
        | yes u ↦ omega (arith, f (sym e, u))
        | no u ↦ (let q : k ≡ h = omega arith in level i j e k h q x y)
      ]
    ]
      where
        level : (i j : ℕ) → i ≡ j → (k h : ℕ) → k ≡ h → compared l m i k < compared l m' i k → compared l m' j h < compared l m j h → ⊥
        level i j e k h q x y =
            let z : compared l m i k < compared l m' i k = x in let w : compared l m' i k < compared l m i k = rw (← e, ← q) at y in omega arith

preferred_once : (l : Line) (m m' : List ℕ) → Preferred l m m' → Preferred l m' m → ⊥
preferred_once l m m' (inl a) (inl b) = omega arith
preferred_once l m m' (inl a) (inr b) = omega (arith, b.0)
preferred_once l m m' (inr a) (inl b) = omega (arith, a.0)
preferred_once l m m' (inr a) (inr b) = earlier_once l m m' a.1 b.1

-- at most one
pub best_only : (l : Line) (m m' : List ℕ) → Best l m → Best l m' → Same l m m'
best_only l m m' a b =
    by_test (decides_same l m m') (λ s. s)
    (λ d. absurd (preferred_once l m m' (a.preferred m' b.lawful d) (b.preferred m a.lawful (λ s. d (same_sym l m' m s)))))

-- ---- the least delay

preferred_least : (l : Line) (m m' : List ℕ) → Preferred l m m' → weighted_delay l m ≤ weighted_delay l m'
preferred_least l m m' (inl h) = omega arith
preferred_least l m m' (inr h) = omega (arith, h.0)

pub best_least : (l : Line) → Within l → Arrays l → (m : List ℕ) → Best l m → LeastDelay l m
best_least l w a m b =
    record {
      lawful = b.lawful;
      least = λ m' h. by_test (decides_same l m m') (λ s. omega (arith, delay-same l m m' s w a)) (λ d. preferred_least l m m' (b.preferred m' h d));
    }

-- all of least delay have the same
pub least_only : (l : Line) (m m' : List ℕ) → LeastDelay l m → LeastDelay l m' → weighted_delay l m ≡ weighted_delay l m'
least_only l m m' x y = omega (arith, x.least m' y.lawful, y.least m x.lawful)
