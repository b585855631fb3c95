-- `rules::rules::stops_right` meets its contract: the closure's test is that of a leg. Assumes nothing.
use Rattle.std.proofs.Common.{ℕ, ◌-◌, ap, ◌∙◌, refl, arith, rules, tests}
use Rattle.std.proofs.lemmas.Iterator.{cases_from_all, YieldsList-from_range}
use Rattle.finite.specs.DecideLaws.{decides_le}
use Rattle.finite.specs.Below.{all}
use Rattle.rules.specs.Check.Tests.{stops_right}
use Rattle.rules.specs.Check.RulesLaws.{StopAt}
use Rattle.rules.proofs.Check.RangeLaws.{all_told}
use Rattle.rules.proofs.rules.stops_right.Goals as goal

pub returns : goal.returns
unfolding stops_right
returns c =
    let a = c.args in
    let P : ℕ → Type 0 = StopAt a.train a.m.now a.i in
    let legs = c.legs_between-legs.result in
    all_told P _ (legs - 1) (λ k. decides_le _ _) _
    (cases_from_all _ _ _ P (λ k. P k → ⊥) c.all.ensures.ran (YieldsList-from_range 0 (legs - 1) (legs - 1) refl (omega arith))
    (λ k q h. search (rules, tests)) (λ k q h. search (rules, tests)))
    ∙ ap (all _) (ap (λ (n : ℕ). n - 1) c.legs_between-legs.ensures)
