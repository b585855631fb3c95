-- Laws of the order of minutes and of the slack: as minutes rise within the two days the slack falls.
use Rattle.std.specs.Prelude.{ℕ, zero, suc, ◌*◌, ◌≤◌, ◌<◌, ◌≡◌, refl, ◌⊎◌, List, [], ◌∷◌, length, get_or}
use Rattle.std.proofs.Common.{ap, inl, inr, arith}
use Rattle.std.proofs.Math.Decide.{ℕ_discrete}
use Rattle.orders.specs.LeastMinutes.NoLater.{◌⊑◌, WithinDays, slack}

pub ⊑_refl : (a : List ℕ) → a ⊑ a
⊑_refl a e = omega arith

pub ⊑_trans : (a b c : List ℕ) → a ⊑ b → b ⊑ c → a ⊑ c
⊑_trans a b c h k e = omega (arith, h e, k e)

pub slack-most : (m : List ℕ) → slack m ≤ 2880 * length m
unfolding slack
slack-most [] = omega arith
slack-most (x ∷ xs) = omega (arith, slack-most xs)

-- as the minutes rise the slack falls, or they stay the same
pub slack_falls : (a b : List ℕ) → length a ≡ length b → a ⊑ b → WithinDays b → (a ≡ b) ⊎ (slack b < slack a)
unfolding slack
slack_falls [] [] l h k = inl refl
slack_falls [] (y ∷ b) l h k = absurd (omega arith)
slack_falls (x ∷ a) [] l h k = absurd (omega arith)
slack_falls (x ∷ a) (y ∷ b) l h k = go (slack_falls a b (omega arith) (λ e. h (suc e)) (λ e. k (suc e))) (ℕ_discrete x y)
  where
    go : (a ≡ b) ⊎ (slack b < slack a) → Dec (x ≡ y) → (x ∷ a ≡ y ∷ b) ⊎ (slack (y ∷ b) < slack (x ∷ a))
    go (inl p) (yes q) = inl (cc)
    go (inl p) (no q) = inr (omega (arith, h 0, k 0, ap slack p))
    go (inr p) d = inr (omega (arith, h 0, k 0))

pub slack_le : (m n : List ℕ) → length n ≡ length m → m ⊑ n → slack n ≤ slack m
unfolding slack
slack_le [] [] e b = omega arith
slack_le [] (y ∷ ys) e b = absurd (omega arith)
slack_le (x ∷ xs) [] e b = absurd (omega arith)
slack_le (x ∷ xs) (y ∷ ys) e b = omega (arith, b 0, slack_le xs ys (omega arith) (λ i. b (suc i)))

-- where event i rises, it falls
pub slack_less : (m n : List ℕ) (i : ℕ) → length n ≡ length m → m ⊑ n → WithinDays n → get_or m i 0 < get_or n i 0 → slack n < slack m
unfolding slack
slack_less [] [] i e b w l = absurd (omega arith)
slack_less [] (y ∷ ys) i e b w l = absurd (omega arith)
slack_less (x ∷ xs) [] i e b w l = absurd (omega arith)
slack_less (x ∷ xs) (y ∷ ys) zero e b w l = omega (arith, w 0, slack_le xs ys (omega arith) (λ j. b (suc j)))
slack_less (x ∷ xs) (y ∷ ys) (suc i) e b w l = omega (arith, b 0, slack_less xs ys i (omega arith) (λ j. b (suc j)) (λ j. w (suc j)) l)
