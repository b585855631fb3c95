-- Laws of the cost that the tables give: it does not fall as minutes rise, it changes by one term with one arrival, and it is never great.
use Rattle.std.specs.Prelude.{ℕ, ◌+◌, ◌*◌, ◌-◌, ◌≤◌, ◌<◌, ◌≡◌, List, get_or}
use Rattle.std.proofs.Common.{◌∙◌, ap, mul-add, mul-le-mul, mul-le-mul_left, arith}
use Rattle.finite.specs.Below.{EachBelow}
use Rattle.finite.specs.BelowLaws.{sum_grows, sum-most}
use Rattle.finite.specs.SumsLaws.{sum_one}
use Rattle.orders.specs.LeastMinutes.NoLater.{◌⊑◌, WithinDays}
use Rattle.orders.specs.LineTables.Tables.{weight_in, due_in, cost_in}
use Rattle.orders.specs.Raise.LegTimes.{more_cost}

pub cost_grows : (t m y : List ℕ) → m ⊑ y → cost_in t m ≤ cost_in t y
unfolding cost_in
cost_grows t m y h = sum_grows _ _ 176 (λ e l. mul-le-mul_left (weight_in t e) (omega (arith, h (176 + e))))

pub cost-most : (t m : List ℕ) → EachBelow 176 (λ e. weight_in t e ≤ 99) → WithinDays m → cost_in t m ≤ 50163696
unfolding cost_in
cost-most t m w h = sum-most _ 285021 176 (λ e l. mul-le-mul {n₂ = 99} {m₂ = 2879} (w e l) (omega (arith, h (176 + e))))

term : (w x y : ℕ) → x ≤ y → w * y ≡ w * x + w * (y - x)
term w x y h = ap (λ (n : ℕ). w * n) (let z : y ≡ x + (y - x) = omega arith in z) ∙ mul-add w x (y - x)

-- the arrival of leg e is b, and was a; every other arrival is what it was
pub cost_one : (t m n : List ℕ) (e a b : ℕ) → e < 176 → get_or m (176 + e) 0 ≡ a → get_or n (176 + e) 0 ≡ b → a ≤ b →
    ((i : ℕ) → (i ≡ 176 + e → ⊥) → 176 ≤ i → get_or n i 0 ≡ get_or m i 0) → cost_in t n ≡ cost_in t m + more_cost t e a b
unfolding cost_in
cost_one t m n e a b l p q h o =
    sum_one _ _ e (more_cost t e a b) 176 l
    (rw (p, q) (term (weight_in t e) (a - due_in t e) (b - due_in t e) (omega arith)))
    (λ i _ d. ap (λ (x : ℕ). weight_in t i * (x - due_in t i)) (o (176 + i) (λ z. d (omega arith)) (omega arith)))
