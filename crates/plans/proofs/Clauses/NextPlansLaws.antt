-- The plan with a choice more: its marks, its minutes where raising found them, and that none of it is better where raising found none within the cut.
use Rattle.std.specs.Prelude.{ℕ, zero, suc, ◌≤◌, ◌<◌, ◌≡◌, refl, true, List, get_or, set, Option, Some, None, unwrap_or}
use Rattle.std.proofs.Common.{sym, ◌∙◌, subst, ⊎_elim, arith}
use Rattle.line.specs.declared.Line.{Line}
use Rattle.line.specs.Within.{Within, Arrays}
use Rattle.line.specs.RunnableLaws.{within_runnable}
use Rattle.rules.specs.Statement.Delay.{weighted_delay}
use Rattle.orders.specs.LeastMinutes.NoLater.{slack}
use Rattle.orders.specs.LeastMinutes.NoLaterLaws.{slack_falls}
use Rattle.orders.specs.LeastMinutes.Least.{Fit, IsLeast}
use Rattle.orders.specs.LeastMinutes.LeastLaws.{least_onward}
use Rattle.orders.specs.LeastMinutes.Carried.{start}
use Rattle.orders.specs.LeastMinutes.CarriedLaws.{delay_up, delay-most}
use Rattle.orders.specs.Plan.Bits.{with_bit}
use Rattle.orders.specs.Plan.Choices.{Choice, KeepsChoice}
use Rattle.orders.specs.Plan.Marks.{Plan, also}
use Rattle.orders.specs.Plan.Plans.{Keeps}
use Rattle.orders.specs.Plan.PlansLaws.{keeps_rest, keeps_chosen}
use Rattle.orders.specs.Plan.TidyPlans.{Fitting}
use Rattle.orders.specs.Plan.TidyPlansLaws.{also_tidy}
use Rattle.orders.specs.Lift.Lifting.{Alive, told_cost}
use Rattle.plans.specs.Theory.Ranking.{Ahead}
use Rattle.plans.specs.Theory.Problem.{rank}
use Rattle.plans.specs.Theory.BestSoFar.{Improves}
use Rattle.plans.specs.Theory.Search.{Under, NoneBetter}
use Rattle.plans.specs.Theory.SearchLaws.{under_also}
use Rattle.plans.specs.Instance.Planning.{in_time, planning}
use Rattle.plans.proofs.Instance.LineSearchedLaws.{planning_laws}
use Rattle.plans.specs.Clauses.Tallies.{best_by, best_of, cut_of, Tallied}
use Rattle.plans.specs.Clauses.Choosing.{Tabled, Planned, Chooses, NoRaise, RaisesChoice, Raises, IsWay}
use Rattle.plans.proofs.Clauses.TryingLaws.{row_low, second_low, marks_added}
use Rattle.plans.specs.declared.tally.Tally.{Tally}
use Rattle.plans.specs.declared.ways.Way.{Way}

-- the same best so far with another count of plans
module _ (l : Line) (best : List ℕ) (y b : Tally) (same : b.delay ≡ y.delay) where
  pub recounted : b.steps ≤ 4294967295 → Tallied l best y → Tallied l best b
  recounted low t =
      record {
        size = t.size;
        delay_is = λ c e. t.delay_is c (sym same ∙ e);
        steps_low = low;
      }

  pub recounted_best : best_of b best ≡ best_of y best
  recounted_best = rw same refl

-- ---- a choice more

module _ (l : Line) (c : Choice) (p : Plan) (m : List ℕ) where
  module _ (cost : ℕ) (q : Planned l p m cost) (cut : ℕ) (n : List ℕ) (r : Option ℕ) (h : Raises l c p m cut n r) where
    -- the plan with the choice, whose minutes have risen
    pub child_planned : Within l → Fitting l c → Alive r → Planned l (also c p) n (told_cost r)
    child_planned w f v = record { carried = h.carried v; tidy = also_tidy l (within_runnable l w) c p f q.tidy; timely = h.timely v }

    -- they are the least at or above those of the plan, too
    pub child_above : Alive r → IsLeast 352 (Keeps l (also c p)) m n
    child_above v = least_onward 352 (Keeps l p) (Keeps l (also c p)) (keeps_rest l c p) start m q.carried.least n (h.carried v).least

    -- where raising ended early, what it had carried until then is no more than any minutes that keep the plan with the choice cost
    pub dropped_low : (m' : List ℕ) → Fit 352 m' → Keeps l (also c p) m' → weighted_delay l n ≤ weighted_delay l m'
    dropped_low m' z k = delay_up l n m' (h.low m' z k)

  pub child_falls : Fit 352 m → Fitting l c → (KeepsChoice l m c → ⊥) → (n : List ℕ) → IsLeast 352 (Keeps l (also c p)) m n → slack n < slack m
  child_falls z f not_yet n h =
      ⊎_elim
      (λ e. absurd (not_yet (keeps_chosen l c p m f.0 f.1 (subst (Keeps l (also c p)) (sym e) h.keeps))))
      (λ s. s)
      (slack_falls m n (z.size ∙ sym h.fit.size) h.above h.fit.within)

module _ (l : Line) (w : Within l) (a : Arrays l) where
  -- what is better than the best so far costs no more than the cut
  pub improves_cheap : (best : List ℕ) (y : Tally) (n : List ℕ) → Tallied l best y → Fit 352 n → Improves (planning l) n (best_of y best) →
      weighted_delay l n ≤ cut_of y
  improves_cheap best y n t z = go y.delay refl
    where
      first : (e : ℕ) (h : Ahead (rank (planning l) n) (rank (planning l) best)) → h.place ≡ e → weighted_delay l n ≤ weighted_delay l best
      first zero h q = let less = rw q at h.less in omega (arith, less)
      first (suc e) h q = omega (arith, h.alike 0 (omega arith))

      go : (d : Option ℕ) → y.delay ≡ d → Improves (planning l) n (best_by d best) → weighted_delay l n ≤ unwrap_or d 4294967294
      go (Some c) e h = omega (arith, t.delay_is c e, first h.place h refl)
      go None e h = omega (arith, delay-most l (within_runnable l w) n z)

  -- ---- where raising finds no minutes within the cut

  -- no minutes of the plan with the choice are better than the best so far
  pub raise_none : (c : Choice) (p : Plan) (m best : List ℕ) (y : Tally) → Tallied l best y → NoRaise l c p m (cut_of y) →
      (k : List ℕ) → IsLeast 352 (Keeps l (also c p)) m k → in_time l k ≡ true → Improves (planning l) k (best_of y best) → ⊥
  unfolding NoRaise
  raise_none c p m best y t h k i timely better = h k i.fit i.keeps i.above timely (improves_cheap best y k t i.fit better)

  -- nor is a lawful timetable that keeps it
  pub none_raised : (c : Choice) (p : Plan) (m best : List ℕ) (y : Tally) → Under (planning l) p m → Tallied l best y → NoRaise l c p m (cut_of y) →
      NoneBetter (planning l) (also c p) (best_of y best)
  unfolding NoRaise NoneBetter
  none_raised c p m best y u t h m' k q i =
      let L = planning_laws l w a in
      h m' k.0 q (under_also (planning l) L c p m u m' k q) (L.lawful_allowed m' k) (improves_cheap best y m' t k.0 i)

-- ---- a way's mark set, and raised for

module _ (l : Line) (w : Within l) (m ds : List ℕ) (c : Choice) (way : Way) (i : IsWay l m ds c way) where
  pub row_few : way.row < 368
  row_few = omega (arith, i.told.row, row_low l w c i.fitting)

  pub second_there : way.second < 16
  second_there = omega (arith, i.told.second, second_low l w c i.fitting)

module _ (l : Line) (m marks t ds : List ℕ) (cost : ℕ) (tabled : Tabled l t ds) (planned : Planned l marks m cost)
    (c : Choice) (way : Way) (i : IsWay l m ds c way) (v : ℕ) (v-is : v ≡ with_bit way.second (get_or marks way.row 0)) where
  pub way_added : set marks way.row v ≡ also c marks
  way_added =
      marks_added c marks way.row way.second v i.told.row i.told.second v-is
      (omega (arith, row_few l tabled.within m ds c way i, planned.tidy.size))

  pub way_chooses : (q : List ℕ) → q ≡ m → Chooses l c marks q (set marks way.row v) t ds way cost
  way_chooses q same =
      record {
        raisable = tabled.raisable;
        planned = subst (λ (x : List ℕ). Planned l marks x cost) (sym same) planned;
        fitting = i.fitting;
        marks_are = way_added;
        told = i.told;
      }

  module _ (q : List ℕ) (same : q ≡ m) (cut : ℕ) (n : List ℕ) (r : Option ℕ) (h : RaisesChoice q (set marks way.row v) t ds way cost cut n r) where
    pub way_raises : Raises l c marks m cut n r
    way_raises = subst (λ (x : List ℕ). Raises l c marks x cut n r) same (h l c marks (way_chooses q same))

    pub way-least : Alive r → IsLeast 352 (Keeps l (also c marks)) m n
    way-least = child_above l c marks m cost planned cut n r way_raises

    pub next_planned : Alive r → Planned l (set marks way.row v) n (told_cost r)
    next_planned alive =
        subst (λ (x : List ℕ). Planned l x n (told_cost r)) (sym way_added)
        (child_planned l c marks m cost planned cut n r way_raises tabled.within i.fitting alive)

    pub next_falls : Alive r → slack n < slack m
    next_falls alive =
        child_falls l c marks m planned.carried.least.fit i.fitting i.open_yet n (way-least alive)
