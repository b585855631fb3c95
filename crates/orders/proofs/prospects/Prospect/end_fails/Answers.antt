-- `orders::prospects::Prospect::end_fails` meets its contract: minutes in time arrive by the leg at its limit at the latest; and they cost at least what the minutes
-- of now cost with this one arrival put later.
use mathlib.Core.Path.{refl}
use native.Mathlib.Omega.{arith}
use borrow.Author.Tests.{ltb-true}
use Rattle.orders.specs.Raise.CostLaws.{cost-most}
use Rattle.orders.proofs.Look.ProspectsLaws.{none_late, none_dear}
use Rattle.orders.proofs.prospects.Prospect.end_fails.Goals as goal

pub returns-then-arrival-limit_at : goal.returns-then-arrival-limit_at
returns-then-arrival-limit_at c = λ _. none_late _ _ _ _ _ _ _ _ c.requires _ c.limit_at.ensures c.if-arrival-limit_at.true

pub overflow_add-result : goal.overflow_add-result
overflow_add-result c =
    let r = c.requires in
    omega (arith, c.more_cost.ensures.1, r.cost_is, cost-most c.args.self.now.t.now c.args.self.now.m.now r.shaped.weight-most r.within)

pub returns-then-arrival-former : goal.returns-then-arrival-former
returns-then-arrival-former c = λ q.
    none_dear _ _ _ _ _ _ _ _ c.requires _ _ refl (omega arith) c.more_cost.ensures.0 (ltb-true _ _ q)
