-- The delay of the best so far stays below the last number of its type as the best so far goes on: a lawful timetable costs less.
use Rattle.std.specs.Prelude.{ℕ, ◌<◌, ◌≡◌, refl, List, Option, Some, None}
use Rattle.std.proofs.Common.{sym, ◌∙◌, ap, subst, inl, arith}
use Rattle.std.proofs.Math.Logic.{inr}
use Rattle.line.specs.declared.Line.{Line}
use Rattle.line.specs.Within.{Within}
use Rattle.line.specs.RunnableLaws.{within_runnable}
use Rattle.rules.specs.Statement.Delay.{weighted_delay}
use Rattle.orders.specs.LeastMinutes.CarriedLaws.{delay-most}
use Rattle.plans.specs.Theory.BestSoFar.{nothing, found}
use Rattle.plans.specs.Theory.Search.{Gains, Onward}
use Rattle.plans.specs.Instance.Planning.{planning}
use Rattle.plans.specs.Clauses.Tallies.{best_by, best_of, DelayLow, Tallied}
use Rattle.plans.specs.declared.tally.Tally.{Tally}

module _ (l : Line) (w : Within l) (best best' : List ℕ) (y r : Tally) (t : Tallied l best y) (t' : Tallied l best' r) where
  pub onward_low : Onward (planning l) (best_of y best) (best_of r best') → DelayLow y → DelayLow r
  onward_low (inl same) low c e = go y.delay refl
    where
      now : found best' ≡ best_of y best
      now = sym (ap (λ (x : Option ℕ). best_by x best') e) ∙ same

      go : (d : Option ℕ) → y.delay ≡ d → c < 4294967295
      go None q = let gone : found best' ≡ nothing = now ∙ ap (λ (x : Option ℕ). best_by x best) q in absurd (cc)
      go (Some d) q =
          let stays : found best' ≡ found best = now ∙ ap (λ (x : Option ℕ). best_by x best) q in
          let kept : best' ≡ best = cc in
          omega (arith, low d q, t.delay_is d q, t'.delay_is c e, ap (weighted_delay l) kept)
  onward_low (inr better) low c e =
      let lawful = subst (Gains (planning l) (best_of y best)) (ap (λ (x : Option ℕ). best_by x best') e) better in
      omega (arith, t'.delay_is c e, delay-most l (within_runnable l w) best' lawful.0.0)
