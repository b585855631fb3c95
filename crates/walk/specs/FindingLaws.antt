-- What the walk from the plan without choices gives: it is the whole walk of the line, so what it finds is the best timetable, or there is none.
use Rattle.std.specs.Prelude.{ℕ, suc, ◌+◌, ◌*◌, ◌-◌, ◌<◌, ◌≡◌, List, None}
use Rattle.std.proofs.Math.Path.{refl}
use Rattle.std.proofs.Common.{sym, ap, ◌∙◌, arith}
use Rattle.std.proofs.Math.Bool.{false}
use Rattle.finite.specs.DecideLaws.{is_false}
use Rattle.line.specs.declared.Line.{Line}
use Rattle.line.specs.Within.{Within, Arrays}
use Rattle.rules.specs.Statement.Paths.{EachTrain}
use Rattle.rules.specs.Statement.Rules.{NotLate}
use Rattle.orders.specs.LeastMinutes.NoLater.{slack}
use Rattle.orders.specs.LeastMinutes.NoLaterLaws.{slack-most}
use Rattle.orders.specs.LeastMinutes.Least.{Least, minutes, none, Fit, IsLeast}
use Rattle.orders.specs.LeastMinutes.Carried.{start}
use Rattle.orders.specs.Plan.Marks.{free}
use Rattle.orders.specs.Plan.Plans.{Keeps}
use Rattle.plans.specs.declared.found.Found.{Found}
use Rattle.plans.specs.declared.tally.Tally.{Tally}
use Rattle.plans.specs.Theory.BestSoFar.{BestSoFar, nothing}
use Rattle.walk.specs.Walk.{Walked, walk, plenty, take_up}
use Rattle.walk.specs.ProblemLaws.{least_found}
use Rattle.plans.specs.Instance.Planning.{in_time, planning}
use Rattle.plans.proofs.Instance.PlanningLaws.{decides_in_time}
use Rattle.plans.proofs.Instance.LineSearchedLaws.{planning_laws}
use Rattle.walk.specs.WalkBestLaws.{walk_best, walk-nothing}
use Rattle.plans.specs.Clauses.Tallies.{best_of, cut_off}
use Rattle.walk.specs.Taking.{taken_up, plan_part, Walks}
use Rattle.walk.specs.TakingLaws.{taken_up_lem, taken_none, taken_cut, taken_some}
use Rattle.plans.specs.Clauses.FoundBest.{found_of}
use Rattle.plans.specs.Clauses.FoundBestLaws.{finds_of}
use Rattle.walk.specs.Finding.{FindsWalked}

module _ (l : Line) (w : Within l) (a : Arrays l) where
  -- the fuel of the walk, once the first plan is taken up
  abbrev fuel : ℕ
  fuel = suc (2880 * 352)

  start_here : Fit 352 start
  start_here = (planning_laws l w a).start_fit

  -- ---- the first plan has the minutes m

  module _ (m : List ℕ) (least : IsLeast 352 (Keeps l free) start m) where
    first-least : (planning l).least free start ≡ minutes m
    first-least = least_found (planning l) (planning_laws l w a) free start start_here m least

    walk_is : walk (planning l) ≡ taken_up (planning l) fuel free m nothing
    unfolding walk plenty
    walk_is = taken_up_lem (planning l) fuel free start m nothing first-least

    enough : slack m < fuel
    enough = omega (arith, slack-most m, least.fit.size)

    -- what the walk from it ends with
    pub finds_walked : (best : List ℕ) {best' marks' : List ℕ} {y r : Tally} → y.delay ≡ None → y.steps ≡ 1 →
        Walks l m free y (plan_part l m free best y) marks' best' r →
        FindsWalked l (found_of r best')
    finds_walked best {best'} {marks'} {y} {r} none_yet one walks =
        let none_so_far : best_of y best ≡ nothing = rw none_yet refl in
        let part = ap (λ (b : BestSoFar). taken_up (planning l) fuel free m b) none_so_far ∙ sym walk_is in
        let best_is : best_of r best' ≡ (walk (planning l)).best = walks.best_is fuel enough ∙ ap (λ (x : Walked). x.best) part in
        let steps_are : r.steps ≡ cut_off (y.steps + ((taken_up (planning l) fuel free m (best_of y best)).steps - 1)) = walks.steps_are fuel enough in
        let some = taken_some (planning l) fuel free m (best_of y best) in
        let all : y.steps + ((taken_up (planning l) fuel free m (best_of y best)).steps - 1) ≡ (walk (planning l)).steps =
        omega (arith, one, some, ap (λ (x : Walked). x.steps) part) in
        record {
          finds =
              finds_of l best' r.steps r.delay (λ c e. walk_best l w a best' (sym best_is ∙ (rw e refl))) walks.tallied.delay_is
              (λ e. walk-nothing l w a (sym best_is ∙ (rw e refl)));
          steps = steps_are ∙ ap cut_off all;
        }

  -- ---- no minutes of the first plan are in time

  module _ (late : (m : List ℕ) → Fit 352 m → Keeps l free m → EachTrain l (NotLate l m) → ⊥) where
    walk_one : walk (planning l) ≡ record { best = nothing; steps = 1 }
    unfolding walk plenty
    walk_one = go ((planning l).least free start) refl
      where
        go : (x : Least) → (planning l).least free start ≡ x → take_up (planning l) (suc fuel) free start nothing ≡ record { best = nothing; steps = 1 }
        go none e = taken_none (planning l) fuel free start nothing e
        go (minutes m) e =
            let least = (planning_laws l w a).least_is free start m start_here e in
            let cut : in_time l m ≡ false = is_false (decides_in_time l m) (late m least.fit least.keeps) in
            taken_up_lem (planning l) fuel free start m nothing e ∙ taken_cut (planning l) fuel free m nothing (rw cut refl)

    pub finds_nothing : (r : Found) → r.best ≡ None → r.steps ≡ 1 → FindsWalked l r
    finds_nothing r none_found one =
        record {
          finds = record {
            best = λ x e. absurd (cc);
            delay_is = λ x e. absurd (cc);
            none = λ _. walk-nothing l w a (ap (λ (x : Walked). x.best) walk_one);
          };
          steps = one ∙ ap cut_off (sym (ap (λ (x : Walked). x.steps) walk_one));
        }
