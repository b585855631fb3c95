-- Laws of what is carried along with a plan: it is what the plan costs, and a lower bound of what any minutes that keep the plan cost.
use Rattle.std.specs.Prelude.{ℕ, ◌-◌, ◌≤◌, ◌≡◌, List, get_or, Option, Some, None}
use Rattle.std.proofs.Math.Path.{refl, sym, ap}
use Rattle.std.proofs.Common.{◌∙◌, arith}
use Rattle.std.proofs.Math.ListN.{length-replicate}
use Rattle.line.specs.declared.Line.{Line}
use Rattle.line.specs.Within.{Arrays}
use Rattle.line.specs.Runnable.{Runnable}
use Rattle.rules.specs.Statement.Paths.{legs}
use Rattle.rules.specs.Statement.Delay.{weighted_delay}
use Rattle.rules.specs.Check.RulesLaws.{cost-most, delay_grows}
use Rattle.orders.specs.LeastMinutes.NoLater.{◌⊑◌}
use Rattle.orders.specs.LeastMinutes.Least.{Least, minutes, none, Fit, NoneKeeps}
use Rattle.orders.specs.LeastMinutes.LeastLaws.{least_one}
use Rattle.orders.specs.LeastMinutes.PlanArcs.{departs_at, arrives_at, least}
use Rattle.orders.specs.LeastMinutes.PlanArcsLaws.{least_is, least_none}
use Rattle.orders.specs.Plan.Choices.{Choice}
use Rattle.orders.specs.Plan.Marks.{Plan, also}
use Rattle.orders.specs.Plan.MarksLaws.{zeros}
use Rattle.orders.specs.Plan.Plans.{Keeps}
use Rattle.orders.specs.Plan.PlansLaws.{keeps_rest}
use Rattle.orders.specs.Lift.Lifting.{Alive, told_cost}
use Rattle.orders.specs.LeastMinutes.Carried.{start, Carried, cost_of, plan_cost, TellsCost}

-- ---- where least minutes are sought from

start_zero : (e : ℕ) → get_or start e 0 ≡ 0
unfolding start
start_zero e = zeros 352 e

pub start_below : (m : List ℕ) → start ⊑ m
start_below m e = omega (arith, start_zero e)

pub start_fit : Fit 352 start
start_fit = record { size = unfold start in length-replicate {A = ℕ} 352 0; within = λ e. omega (arith, start_zero e) }

-- ---- weighted delay

-- it does not fall as minutes rise
pub delay_up : (l : Line) (m m' : List ℕ) → m ⊑ m' → weighted_delay l m ≤ weighted_delay l m'
delay_up l m m' h = delay_grows l m m' (λ i _. h (arrives_at l i (legs l i - 1)))

-- no minutes cost more than 12 trains of weight 99 that are 2,879 minutes late
pub delay-most : (l : Line) → Runnable l → (m : List ℕ) → Fit 352 m → weighted_delay l m ≤ 3420252
delay-most l w m z = omega (arith, cost-most l m w (λ i _ k _. (z.within (departs_at l i k), z.within (arrives_at l i k))), w.trains.1)

-- ---- what is carried

module _ (l : Line) (p : Plan) (m : List ℕ) (cost : ℕ) (h : Carried l p m cost) where
  -- whatever keeps the plan costs as much or more
  pub carried_low : (m' : List ℕ) → Fit 352 m' → Keeps l p m' → cost ≤ weighted_delay l m'
  carried_low m' z k = omega (arith, h.cost_is, delay_up l m m' (h.least.first m' z k (start_below m')))

  -- so does what keeps a choice more: a way that is dropped on a first look leaves the plan's own cost
  pub looked_low : (c : Choice) (m' : List ℕ) → Fit 352 m' → Keeps l (also c p) m' → cost ≤ weighted_delay l m'
  looked_low c m' z k = carried_low m' z (keeps_rest l c p m' k)

module _ (l : Line) (w : Runnable l) (a : Arrays l) (p : Plan) where
  pub carried_cost : (m : List ℕ) (cost : ℕ) → Carried l p m cost → cost ≡ plan_cost l p
  unfolding plan_cost
  carried_cost m cost h = go (least l p start) refl
    where
      go : (x : Least) → least l p start ≡ x → cost ≡ cost_of l x
      go (minutes n) e = h.cost_is ∙ ap (weighted_delay l) (least_one 352 (Keeps l p) start m n h.least (least_is l w a p start n start_fit e))
      go none e = absurd (least_none l w a p start start_fit e m h.least.fit h.least.keeps h.least.above)

  pub none_cost : NoneKeeps 352 (Keeps l p) start → 4294967295 ≡ plan_cost l p
  unfolding plan_cost
  none_cost h = go (least l p start) refl
    where
      go : (x : Least) → least l p start ≡ x → 4294967295 ≡ cost_of l x
      go (minutes n) e = let i = least_is l w a p start n start_fit e in absurd (h n i.fit i.keeps i.above)
      go none e = refl

  -- an answer that carries a plan's cost, or else is that there are no least minutes, tells the plan's cost
  pub tells_cost : (n : List ℕ) (r : Option ℕ) → (Alive r → Carried l p n (told_cost r)) → (r ≡ None → NoneKeeps 352 (Keeps l p) start) → TellsCost l p n r
  tells_cost n r some nothing =
      record {
        cost_is = told r some nothing;
        least = λ v. (some v).least;
      }
    where
      told : (r : Option ℕ) → (Alive r → Carried l p n (told_cost r)) → (r ≡ None → NoneKeeps 352 (Keeps l p) start) → told_cost r ≡ plan_cost l p
      told (Some c) some nothing = carried_cost n c (some (λ q. cc))
      told None some nothing = none_cost (nothing refl)

  -- and it says exactly whether there are least minutes up to 2,879
  module _ (n : List ℕ) (r : Option ℕ) (h : TellsCost l p n r) where
    pub told_carried : Alive r → Carried l p n (told_cost r)
    told_carried v =
        record { least = h.least v; cost_is = h.cost_is ∙ sym (carried_cost n (weighted_delay l n) (record { least = h.least v; cost_is = refl })) }

    pub told_none : r ≡ None → NoneKeeps 352 (Keeps l p) start
    unfolding plan_cost
    told_none e = go (least l p start) refl
      where
        go : (x : Least) → least l p start ≡ x → NoneKeeps 352 (Keeps l p) start
        go (minutes n') q =
            let told : weighted_delay l n' ≡ 4294967295 = sym (ap (cost_of l) q) ∙ sym h.cost_is ∙ ap told_cost e in
            absurd (omega (arith, delay-most l w n' (least_is l w a p start n' start_fit q).fit, told))
        go none q = least_none l w a p start start_fit q
