-- What the walk's functions do is what the walk does, part by part: taking up a plan, trying a way, and trying the ways in order.
use Rattle.std.specs.Prelude.{ℕ, zero, suc, ◌+◌, ◌≤◌, ◌<◌, ◌≡◌, refl, Bool, true, false, ◌&&◌, List, [], ◌∷◌, ◌++◌, Option, Some}
use Rattle.std.proofs.Common.{sym, ◌∙◌, ap, ap₂, subst, arith}
use Rattle.std.proofs.Math.Bool.{and-eq-true_iff}
use Rattle.finite.specs.Below.{gather}
use Rattle.finite.specs.LoopLaws.{gather-more}
use Rattle.line.specs.declared.Line.{Line}
use Rattle.line.specs.Within.{Within, Arrays}
use Rattle.rules.specs.declared.conflicts.Conflict.{Conflict}
use Rattle.rules.specs.Conflict.Conflicts.{conflict_of}
use Rattle.orders.specs.LeastMinutes.NoLater.{slack}
use Rattle.orders.specs.LeastMinutes.Least.{Least, minutes, none, Fit, IsLeast}
use Rattle.orders.specs.LeastMinutes.LeastLaws.{least_one}
use Rattle.orders.specs.LeastMinutes.Carried.{start}
use Rattle.orders.specs.Plan.Choices.{Choice}
use Rattle.orders.specs.Plan.Marks.{Plan, also}
use Rattle.orders.specs.Plan.Plans.{Keeps}
use Rattle.orders.specs.LeastMinutes.PlanArcs.{least}
use Rattle.walk.specs.Walk.{Walked, in_order, take_up}
use Rattle.plans.specs.Theory.Problem.{Laws}
use Rattle.plans.specs.Theory.BestSoFar.{BestSoFar, found, improves, improves_true}
use Rattle.plans.specs.Theory.Search.{Onward, Searched}
use Rattle.plans.specs.Conflict.Ways.{way_of, way_count, ways}
use Rattle.plans.proofs.Conflict.WaysLaws.{ways_none, all_ways, no_ways}
use Rattle.plans.specs.Instance.Planning.{in_time, planning}
use Rattle.plans.specs.Clauses.Tallies.{best_of, cut_of, cut_off, Tallied}
use Rattle.plans.specs.Clauses.Choosing.{Planned, NoRaise}
use Rattle.walk.specs.Taking.{taken_up, Walks, plan_part, way_part, ways_part}
use Rattle.walk.specs.TakingLaws.{taken_up_lem, taken_none, taken_some, taken_cut, taken_clear, taken_split, none_more, more_best, more_steps}
use Rattle.plans.proofs.Clauses.NextPlansLaws.{recounted, recounted_best, raise_none}
use Rattle.walk.specs.ProblemLaws.{least_found}
use Rattle.walk.specs.SoundLaws.{Enough, take_up_sound}
use Rattle.plans.proofs.Instance.LineSearchedLaws.{planning_laws}
use Rattle.plans.specs.declared.tally.Tally.{Tally}

-- ---- a choice more: the walk goes on with its least minutes, or leaves it where raising found none within the cut

module _ (l : Line) (w : Within l) (a : Arrays l) (c : Choice) (p : Plan) (m : List ℕ) (z : Fit 352 m) where
  pub child_least : (fuel : ℕ) (n : List ℕ) (b : BestSoFar) → IsLeast 352 (Keeps l (also c p)) m n →
      take_up (planning l) (suc fuel) (also c p) m b ≡ taken_up (planning l) fuel (also c p) n b
  child_least fuel n b h =
      taken_up_lem (planning l) fuel (also c p) m n b (least_found (planning l) (planning_laws l w a) (also c p) m z n h)

  pub child_none : (fuel : ℕ) (best : List ℕ) (y : Tally) → Tallied l best y → NoRaise l c p m (cut_of y) →
      take_up (planning l) (suc fuel) (also c p) m (best_of y best) ≡ record { best = best_of y best; steps = 1 }
  child_none fuel best y t h = go (least l (also c p) m) refl
    where
      cut : (k : List ℕ) → IsLeast 352 (Keeps l (also c p)) m k → (b : Bool) → in_time l k && improves (planning l) k (best_of y best) ≡ b → b ≡ false
      cut k i true e =
          let (timely, better) = (and-eq-true_iff (in_time l k) (improves (planning l) k (best_of y best))).0 e in
          absurd (raise_none l w a c p m best y t h k i timely (improves_true (planning l) k (best_of y best) better))
      cut k i false e = refl

      go : (x : Least) → least l (also c p) m ≡ x → take_up (planning l) (suc fuel) (also c p) m (best_of y best) ≡ record { best = best_of y best; steps = 1 }
      go none e = taken_none (planning l) fuel (also c p) m (best_of y best) e
      go (minutes k) e =
          let i = (planning_laws l w a).least_is (also c p) m k z e in
          taken_up_lem (planning l) fuel (also c p) m k (best_of y best) e ∙
          taken_cut (planning l) fuel (also c p) k (best_of y best) (cut k i (in_time l k && improves (planning l) k (best_of y best)) refl)

module _ (l : Line) (w : Within l) (a : Arrays l) (m marks best : List ℕ) (cost : ℕ) (y : Tally) (g : Planned l marks m cost) (t : Tallied l best y) where
  -- ---- taking up a plan: it is cut off, it is the best so far, or its ways are tried

  pub walks_cut : improves (planning l) m (best_of y best) ≡ false → Walks l m marks y (plan_part l m marks best y) marks best y
  walks_cut e = record {
    marks_same = refl;
    tallied = t;
    best_is = λ fuel h. sym (ap (λ (x : Walked). x.best) (taken fuel));
    steps_are = λ fuel h. omega (arith, t.steps_low, ap (λ (x : Walked). x.steps) (taken fuel));
  }
    where
      taken : (fuel : ℕ) → taken_up (planning l) fuel marks m (best_of y best) ≡ record { best = best_of y best; steps = 1 }
      taken fuel = taken_cut (planning l) fuel marks m (best_of y best) (rw (g.timely, e) refl)

  pub walks_clear : improves (planning l) m (best_of y best) ≡ true → (conflict : Option Conflict) → conflict ≡ conflict_of l m →
      way_count conflict ≡ 0 → (best' : List ℕ) → best' ≡ m →
      Walks l m marks y (plan_part l m marks best y) marks best' (record { delay = Some cost; steps = y.steps })
  walks_clear e conflict is empty best' same = record {
    marks_same = refl;
    tallied = record {
      size = rw same g.carried.least.fit.size;
      delay_is = λ c some. rw same (let here : c ≡ cost = cc in here ∙ g.carried.cost_is);
      steps_low = t.steps_low;
    };
    best_is = λ fuel h. ap found same ∙ sym (ap (λ (x : Walked). x.best) (taken fuel));
    steps_are = λ fuel h. omega (arith, t.steps_low, ap (λ (x : Walked). x.steps) (taken fuel));
  }
    where
      clear : ways l m ≡ []
      clear = no_ways l m conflict is empty

      taken : (fuel : ℕ) → taken_up (planning l) fuel marks m (best_of y best) ≡ record { best = found m; steps = 1 }
      taken fuel = taken_clear (planning l) fuel marks m (best_of y best) (rw (g.timely, e) refl) clear

  pub walks_split : improves (planning l) m (best_of y best) ≡ true → (conflict : Option Conflict) → conflict ≡ conflict_of l m →
      (way_count conflict ≡ 0 → ⊥) → (marks' best' : List ℕ) (r : Tally) →
      Walks l m marks y (ways_part l m marks best y conflict (way_count conflict)) marks' best' r → Walks l m marks y (plan_part l m marks best y) marks' best' r
  walks_split e conflict is some marks' best' r h = record {
    marks_same = h.marks_same;
    tallied = h.tallied;
    best_is = λ fuel b. h.best_is fuel b ∙ sym (ap (λ (x : Walked). x.best) (taken fuel));
    steps_are = λ fuel b. omega (arith, h.steps_are fuel b, ap (λ (x : Walked). x.steps) (taken fuel));
  }
    where
      taken : (fuel : ℕ) → taken_up (planning l) fuel marks m (best_of y best) ≡
          record {
            best = (ways_part l m marks best y conflict (way_count conflict) fuel).best;
            steps = suc (ways_part l m marks best y conflict (way_count conflict) fuel).steps;
          }
      taken fuel =
          taken_split (planning l) fuel marks m (best_of y best) (rw (g.timely, e) refl) (λ z. some (ap way_count (is ∙ ways_none l w a m z))) ∙
          ap (λ (ws : List Choice). record {
            best = (in_order (λ c. take_up (planning l) fuel (also c marks) m) ws (best_of y best)).best;
            steps = suc (in_order (λ c. take_up (planning l) fuel (also c marks) m) ws (best_of y best)).steps;
          }) (all_ways l m conflict is (way_count conflict) refl)

  -- whichever it is, the best so far stays or a lawful timetable takes its place
  pub walks_onward : (marks' best' : List ℕ) (r : Tally) → Walks l m marks y (plan_part l m marks best y) marks' best' r →
      Onward (planning l) (best_of y best) (best_of r best')
  walks_onward marks' best' r h =
      subst (Onward (planning l) (best_of y best)) (sym (h.best_is fuel (omega arith) ∙ sym (ap (λ (x : Walked). x.best) walk_is))) whole.onward
    where
      fuel : ℕ
      fuel = suc (suc (slack m))

      L : Laws (planning l)
      L = planning_laws l w a

      walk_is : take_up (planning l) (suc fuel) marks start (best_of y best) ≡ taken_up (planning l) fuel marks m (best_of y best)
      walk_is =
          taken_up_lem (planning l) fuel marks start m (best_of y best) (least_found (planning l) L marks start L.start_fit m g.carried.least)

      enough : Enough (planning l) (suc fuel) marks start
      enough = record {
        some = omega arith;
        deep = λ k i. omega (arith, ap slack (least_one 352 (Keeps l marks) start m k g.carried.least i));
      }

      whole : Searched (planning l) marks (best_of y best) (take_up (planning l) (suc fuel) marks start (best_of y best)).best
      whole = take_up_sound (planning l) L (suc fuel) marks start (best_of y best) enough L.start_fit (λ k lawful _. L.start_low k lawful)

  -- ---- trying the ways in order

  pub walks_none : (conflict : Option Conflict) → Walks l m marks y (ways_part l m marks best y conflict 0) marks best y
  unfolding gather in_order
  walks_none conflict = record {
    marks_same = refl;
    tallied = t;
    best_is = λ fuel h. refl;
    steps_are = λ fuel h. omega (arith, t.steps_low);
  }

  -- ---- trying a way: its plan has no minutes within the cut, or it is taken up

  module _ (c : Choice) (b : Tally) (same_delay : b.delay ≡ y.delay) (steps_are : b.steps ≡ cut_off (y.steps + 1)) where
    pub counted_tallied : Tallied l best b
    counted_tallied = recounted l best y b same_delay (omega arith) t

    same_best : best_of b best ≡ best_of y best
    same_best = recounted_best l best y b same_delay

    pub walks_dead : NoRaise l c marks m (cut_of b) → (marks' : List ℕ) → marks' ≡ marks → Walks l m marks y (way_part l m marks best y c) marks' best b
    walks_dead h marks' same = record {
      marks_same = same;
      tallied = counted_tallied;
      best_is = λ fuel s. go_best fuel s;
      steps_are = λ fuel s. go_steps fuel s;
    }
      where
        taken : (fuel : ℕ) → take_up (planning l) (suc fuel) (also c marks) m (best_of y best) ≡ record { best = best_of y best; steps = 1 }
        taken fuel = rw (← same_best) (child_none l w a c marks m g.carried.least.fit fuel best b counted_tallied h)

        go_best : (fuel : ℕ) → slack m < fuel → best_of b best ≡ (take_up (planning l) fuel (also c marks) m (best_of y best)).best
        go_best zero s = absurd (omega arith)
        go_best (suc fuel) s = same_best ∙ sym (ap (λ (x : Walked). x.best) (taken fuel))

        go_steps : (fuel : ℕ) → slack m < fuel → b.steps ≡ cut_off (y.steps + (take_up (planning l) fuel (also c marks) m (best_of y best)).steps)
        go_steps zero s = absurd (omega arith)
        go_steps (suc fuel) s = omega (arith, ap (λ (x : Walked). x.steps) (taken fuel))

    pub walks_alive : (n : List ℕ) → IsLeast 352 (Keeps l (also c marks)) m n → slack n < slack m → (marks₁ : List ℕ) → marks₁ ≡ also c marks →
        (marks₂ best₂ : List ℕ) (r : Tally) → Walks l n marks₁ b (plan_part l n marks₁ best b) marks₂ best₂ r → (marks' : List ℕ) → marks' ≡ marks →
        Walks l m marks y (way_part l m marks best y c) marks' best₂ r
    walks_alive n least falls marks₁ added marks₂ best₂ r h marks' same = record {
      marks_same = same;
      tallied = h.tallied;
      best_is = λ fuel s. go_best fuel s;
      steps_are = λ fuel s. go_steps fuel s;
    }
      where
        taken : (fuel : ℕ) → taken_up (planning l) fuel marks₁ n (best_of b best) ≡ take_up (planning l) (suc fuel) (also c marks) m (best_of y best)
        taken fuel =
            ap₂ (λ (q : Plan) (x : BestSoFar). taken_up (planning l) fuel q n x) added same_best ∙
            sym (child_least l w a c marks m g.carried.least.fit fuel n (best_of y best) least)

        go_best : (fuel : ℕ) → slack m < fuel → best_of r best₂ ≡ (take_up (planning l) fuel (also c marks) m (best_of y best)).best
        go_best zero s = absurd (omega arith)
        go_best (suc fuel) s = h.best_is fuel (omega arith) ∙ ap (λ (x : Walked). x.best) (taken fuel)

        go_steps : (fuel : ℕ) → slack m < fuel → r.steps ≡ cut_off (y.steps + (take_up (planning l) fuel (also c marks) m (best_of y best)).steps)
        go_steps zero s = absurd (omega arith)
        go_steps (suc fuel) s =
            omega (arith, h.steps_are fuel (omega arith), ap (λ (x : Walked). x.steps) (taken fuel), taken_some (planning l) fuel marks₁ n (best_of b best))

-- numbers with no way, and one number more with a way
module _ (l : Line) (m marks best : List ℕ) (y : Tally) (conflict : Option Conflict) (n : ℕ) (marks₁ best₁ : List ℕ) (r₁ : Tally)
    (h : Walks l m marks y (ways_part l m marks best y conflict n) marks₁ best₁ r₁) where
  pub walks_skip : (k : ℕ) → ((i : ℕ) → n ≤ i → i < n + k → way_of conflict i ≡ []) →
      Walks l m marks y (ways_part l m marks best y conflict (n + k)) marks₁ best₁ r₁
  walks_skip k absent =
      let same = sym (none_more (way_of conflict) k n (n + k) refl absent) in
      record {
        marks_same = h.marks_same;
        tallied = h.tallied;
        best_is = λ fuel s.
            h.best_is fuel s ∙ ap (λ (x : List Choice). (in_order (λ c. take_up (planning l) fuel (also c marks) m) x (best_of y best)).best) same;
        steps_are = λ fuel s.
            h.steps_are fuel s ∙
            ap (λ (x : List Choice). cut_off (y.steps + (in_order (λ c. take_up (planning l) fuel (also c marks) m) x (best_of y best)).steps)) same;
      }

  pub walks_more : (c : Choice) → way_of conflict n ≡ c ∷ [] → (marks₂ best₂ : List ℕ) (r₂ : Tally) →
      Walks l m marks₁ r₁ (way_part l m marks₁ best₁ r₁ c) marks₂ best₂ r₂ → Walks l m marks y (ways_part l m marks best y conflict (n + 1)) marks₂ best₂ r₂
  walks_more c e marks₂ best₂ r₂ k = record {
    marks_same = k.marks_same ∙ h.marks_same;
    tallied = k.tallied;
    best_is = λ fuel s. k.best_is fuel s ∙ ap (λ (x : Walked). x.best) (here fuel s) ∙ sym (last fuel).0;
    steps_are = λ fuel s. omega (arith, k.steps_are fuel s, h.steps_are fuel s, ap (λ (x : Walked). x.steps) (here fuel s), (last fuel).1);
  }
    where
      go : ℕ → Choice → BestSoFar → Walked
      go fuel c = take_up (planning l) fuel (also c marks) m

      done : ℕ → Walked
      done fuel = in_order (go fuel) (gather (way_of conflict) n) (best_of y best)

      here : (fuel : ℕ) → slack m < fuel → take_up (planning l) fuel (also c marks₁) m (best_of r₁ best₁) ≡ go fuel c (done fuel).best
      here fuel s = ap₂ (λ (q : Plan) (b : BestSoFar). take_up (planning l) fuel (also c q) m b) h.marks_same (h.best_is fuel s)

      grown : gather (way_of conflict) (n + 1) ≡ gather (way_of conflict) n ++ (c ∷ [])
      grown = gather-more (way_of conflict) n ∙ ap (λ (x : List Choice). gather (way_of conflict) n ++ x) e

      last : (fuel : ℕ) → ((in_order (go fuel) (gather (way_of conflict) (n + 1)) (best_of y best)).best ≡ (go fuel c (done fuel).best).best) ×
          ((in_order (go fuel) (gather (way_of conflict) (n + 1)) (best_of y best)).steps ≡ (done fuel).steps + (go fuel c (done fuel).best).steps)
      last fuel =
          rw grown
          (more_best (go fuel) (gather (way_of conflict) n) c (best_of y best), more_steps (go fuel) (gather (way_of conflict) n) c (best_of y best))
