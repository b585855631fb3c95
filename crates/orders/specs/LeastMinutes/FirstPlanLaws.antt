-- No minutes that keep rules 10 to 12 and 18 are before those of the trains alone on the line, and these keep them; so they are the least.
use Rattle.std.specs.Prelude.{ℕ, zero, suc, ◌+◌, ◌-◌, ◌/◌, ◌%◌, ◌≤◌, ◌<◌, ◌≡◌, true, false, List, length, get_or}
use Rattle.std.proofs.Math.Path.{refl, sym, ap}
use Rattle.std.proofs.Common.{◌∙◌, subst, true≢false, add-one, arith}
use Rattle.std.proofs.lemmas.Bool.{false≢true}
use Rattle.std.proofs.Math.Decide.{dec_lt}
use borrow.Author.Tests.{lt-ltb, le-ltb}
use Rattle.finite.specs.Decide.{Decides}
use Rattle.finite.specs.DecideLaws.{by_test, is_true}
use Rattle.finite.specs.Below.{EachBelow}
use Rattle.finite.specs.LoopLaws.{each_more}
use Rattle.finite.specs.BelowLaws.{table_at, table_past, table_size_lem}
use Rattle.line.specs.declared.Line.{Line}
use Rattle.line.specs.Within.{Arrays}
use Rattle.line.specs.Runnable.{Runnable}
use Rattle.rules.specs.Statement.Paths.{train, legs, run_of, segment_of, leg_on, Routed}
use Rattle.rules.specs.Statement.Minutes.{departs, arrives, departure, arrival}
use Rattle.rules.specs.StatementLaws.PathsLaws.{train_runnable, routed, legs_few, uses-leg, segment_below}
use Rattle.rules.proofs.StatementLaws.DelayLaws.{no_earlier}
use Rattle.rules.proofs.StatementLaws.FreeArrivalLaws.{free_kept}
use Rattle.rules.specs.Check.RulesLaws.{free-next}
use Rattle.rules.specs.Statement.Delay.{free_after, free_arrival, weighted_delay}
use Rattle.orders.specs.declared.first.FirstPlan.{FirstPlan}
use Rattle.orders.specs.LeastMinutes.NoLater.{◌⊑◌, WithinDays}
use Rattle.orders.specs.LeastMinutes.Least.{IsLeast}
use Rattle.orders.specs.LeastMinutes.Carried.{start, plan_cost}
use Rattle.orders.specs.LeastMinutes.CarriedLaws.{start_below, carried_cost, none_cost}
use Rattle.orders.specs.Plan.Marks.{free}
use Rattle.orders.specs.Plan.MarksLaws.{free-marked}
use Rattle.orders.specs.Plan.Plans.{Keeps}
use Rattle.orders.specs.LineTables.Tables.{on_leg}
use Rattle.finite.specs.FillLaws.{Begun, begun_all}
use Rattle.orders.specs.Graph.LegsLaws.{Leg, leg_test}
use Rattle.orders.specs.LineTables.TableLegsLaws.{on-leg, on-leg_off}
use Rattle.orders.specs.LeastMinutes.FirstPlan.{leg_minute, free_entry, free_minutes, FreeInTime, IsFirstPlan}

-- ---- free arrivals of a train

module _ (l : Line) (i : ℕ) where
  free_grows : (k n : ℕ) → k ≤ n → free_after l i k ≤ free_after l i n
  free_grows k zero h =
      let e : k ≡ 0 = omega arith in
      rw e (omega arith)
  free_grows k (suc n) h = elim (dec_lt k (suc n)) [
    | yes b ↦ rw (← add-one) (omega (arith, free_grows k n (omega arith), free-next l i n))
    | no b ↦
        let e : k ≡ suc n = omega arith in
        rw e (omega arith)
  ]

  free_last : (k : ℕ) → k < legs l i → free_after l i k ≤ free_arrival l i
  free_last k h = free_grows k (legs l i - 1) (omega arith)

-- ---- the minutes of a line

minutes_size : (l : Line) → length (free_minutes l) ≡ 352
unfolding free_minutes
minutes_size l = table_size_lem (free_entry l) 352

module _ (l : Line) (w : Runnable l) (size : length l.traffic.trains ≡ 12) where
  path : (i : ℕ) → i < l.traffic.train_count → Routed (train l i)
  path i h = routed l i w size h

  module _ (i k : ℕ) (h : i < l.traffic.train_count) (b : k < legs l i) where
    below : segment_of (train l i) k < 11
    below = segment_below (train l i) (path i h) k b

    leg_at : (x : ℕ) → x < 352 → x % 176 ≡ departs (segment_of (train l i) k) i → get_or (free_minutes l) x 0 ≡ leg_minute l x i k
    unfolding free_minutes free_entry
    leg_at x c e =
        table_at (free_entry l) 352 x c ∙ ap (on_leg l (leg_minute l x) 0) e ∙
        on-leg l (leg_minute l x) 0 i k h (omega (arith, w.trains.1)) (path i h) b

    departs-free : departure l (free_minutes l) i k ≡ free_after l i k - run_of l i k
    departs-free =
        let x = departs (segment_of (train l i) k) i in
        let c : x < 176 = omega (arith, below, w.trains.1) in
        leg_at x (omega arith) (omega arith) ∙ rw (lt-ltb x 176 c) refl

    arrives-free : arrival l (free_minutes l) i k ≡ free_after l i k
    arrives-free =
        let x = departs (segment_of (train l i) k) i in
        let c : x < 176 = omega (arith, below, w.trains.1) in
        leg_at (176 + x) (omega arith) (omega arith) ∙ rw (le-ltb (176 + x) 176 (omega arith)) refl

  -- what bounds the minutes of every leg bounds all
  module _ (b : ℕ → ℕ)
      (low : (i k : ℕ) → i < l.traffic.train_count → k < legs l i → free_after l i k - run_of l i k ≤ b (departs (segment_of (train l i) k) i))
      (high : (i k : ℕ) → i < l.traffic.train_count → k < legs l i → free_after l i k ≤ b (arrives (segment_of (train l i) k) i)) where
    bounded_leg : (x i k : ℕ) → x < 352 → (h : i < l.traffic.train_count) → k < legs l i → x % 176 ≡ departs (segment_of (train l i) k) i →
        get_or (free_minutes l) x 0 ≤ b x
    bounded_leg x i k c h n e = elim (dec_lt x 176) [
      | yes y ↦
          let q : departs (segment_of (train l i) k) i ≡ x = omega arith in
          let v = low i k h n in
          rw (leg_at i k h n x c e, lt-ltb x 176 y) (rw q at v)
      | no y ↦
          let q : arrives (segment_of (train l i) k) i ≡ x = omega arith in
          let v = high i k h n in
          rw (leg_at i k h n x c e, le-ltb x 176 (omega arith)) (rw q at v)
    ]

    bounded_in : (x : ℕ) → x < 352 → get_or (free_minutes l) x 0 ≤ b x
    unfolding free_minutes free_entry
    bounded_in x c =
        by_test (leg_test l (x % 176))
        (λ g.
        let u = uses-leg (train l (x % 176 % 16)) (x % 176 / 16) g.1 in
        bounded_leg x (x % 176 % 16) u.0 c g.0 u.1 (omega (arith, u.2)))
        (λ g. rw (table_at (free_entry l) 352 x c ∙ on-leg_off l (leg_minute l x) 0 (x % 176) g) (omega arith))

    bounded : (x : ℕ) → get_or (free_minutes l) x 0 ≤ b x
    unfolding free_minutes
    bounded x = elim (dec_lt x 352) [
      | yes c ↦ bounded_in x c
      | no c ↦ rw (table_past (free_entry l) 352 x (omega arith)) (omega arith)
    ]

  free_keeps : Keeps l free (free_minutes l)
  free_keeps =
      record {
        trains = λ i h. free_kept l i w (legs_few (train l i) (path i h)).0 (free_minutes l) (λ k b. (departs-free i k h b, arrives-free i k h b));
        choices = λ c o s t. absurd (free-marked c t);
      }

  last_free : (i : ℕ) (h : i < l.traffic.train_count) → arrival l (free_minutes l) i (legs l i - 1) ≡ free_arrival l i
  last_free i h = arrives-free i (legs l i - 1) h (omega (arith, (legs_few (train l i) (path i h)).0))

  -- where they are in time they are up to 2,879
  free_within : FreeInTime l → WithinDays (free_minutes l)
  free_within ends = bounded (λ _. 2879) (λ i k h b. omega (arith, days i k h b)) days
    where
      days : (i k : ℕ) → i < l.traffic.train_count → k < legs l i → free_after l i k ≤ 2879
      days i k h b = omega (arith, free_last l i k b, ends i h, (train_runnable l i w size h).latest.1)

  free_low : (m' : List ℕ) → Keeps l free m' → free_minutes l ⊑ m'
  free_low m' k =
      let at : (i j : ℕ) → i < l.traffic.train_count → j < legs l i → free_after l i j ≤ arrival l m' i j =
      λ i j h b. no_earlier l m' i (k.trains i h) j b in
      bounded (λ x. get_or m' x 0) (λ i j h b. omega (arith, at i j h b, (k.trains i h).rule11 j b)) at

  free-least : WithinDays (free_minutes l) → IsLeast 352 (Keeps l free) start (free_minutes l)
  free-least within =
      record {
        fit = record { size = minutes_size l; within = within };
        keeps = free_keeps;
        above = start_below (free_minutes l);
        first = λ m' f k s. free_low m' k;
      }

  pub first_plan : (r : FirstPlan) → r.minutes ≡ free_minutes l → Decides (FreeInTime l) r.in_time → r.cost ≡ weighted_delay l r.minutes →
      IsFirstPlan l r
  first_plan r e d cost_is =
      record {
        carried = λ h. record { least = subst (λ (m : List ℕ). IsLeast 352 (Keeps l free) start m) (sym e) (free-least (rw e at h)); cost_is = cost_is };
        cost_is = cost_is;
        low = λ m' k. rw e (free_low m' k);
        timely = λ t. (rw e (free_within (d.yea t)), λ i h. rw e (omega (arith, last_free i h, d.yea t i h)));
        late = λ t m' f k n. d.nay t (λ i h.
            omega (
              arith,
              n i h,
              no_earlier l m' i (k.trains i h) (legs l i - 1)
                  (omega (arith, (legs_few (train l i) (path i h)).0)),
            ));
      }

-- so it tells what the plan without choices costs: least minutes with their weighted delay, or none up to 2,879
module _ (l : Line) (w : Runnable l) (a : Arrays l) (r : FirstPlan) (h : IsFirstPlan l r) where
  pub first-cost : WithinDays r.minutes → r.cost ≡ plan_cost l free
  first-cost z = carried_cost l w a free r.minutes r.cost (h.carried z)

  pub first_past : (WithinDays r.minutes → ⊥) → 4294967295 ≡ plan_cost l free
  first_past past = none_cost l w a free (λ m' z k up. past (λ e. omega (arith, h.low m' k e, z.within e)))

-- ---- for the code

module _ (l : Line) (x : ℕ) where
  -- a is the free arrival after leg k, which the train has at the entry
  module _ (g : Leg l (x % 176)) {a k : ℕ} (here : k ≡ leg_on (train l (x % 176 % 16)) (x % 176 / 16)) (h : a ≡ free_after l (x % 176 % 16) k) where
    pub minute_departs : x < 176 → a - run_of l (x % 176 % 16) k ≡ free_entry l x
    unfolding free_entry
    minute_departs c = rw (is_true (leg_test l (x % 176)) g, lt-ltb x 176 c, ← here, h) refl

    pub minute_arrives : 176 ≤ x → a ≡ free_entry l x
    unfolding free_entry
    minute_arrives c = rw (is_true (leg_test l (x % 176)) g, le-ltb x 176 c, ← here, h) refl

  pub minute_none : (Leg l (x % 176) → ⊥) → 0 ≡ free_entry l x
  unfolding free_entry
  minute_none g = sym (on-leg_off l (leg_minute l x) 0 (x % 176) g)

  pub minutes_made : (t : List ℕ) → Begun (free_entry l) 352 x t → x ≡ 352 → t ≡ free_minutes l
  unfolding free_minutes
  minutes_made t b q = begun_all (free_entry l) 352 x t b q

module _ (l : Line) (i : ℕ) where
  -- the trains before i, alone on the line, arrive in time
  abbrev pub EndsBelow : Type 0
  EndsBelow = EachBelow i (λ j. free_arrival l j ≤ (train l j).latest)

  module _ {a : ℕ} (e : a ≡ free_arrival l i) where
    pub ends_more : EndsBelow → a ≤ (train l i).latest → EachBelow (i + 1) (λ j. free_arrival l j ≤ (train l j).latest)
    ends_more h b = rw add-one (each_more (λ j. free_arrival l j ≤ (train l j).latest) i h (omega arith))

    pub ends_late : i < l.traffic.train_count → (train l i).latest < a → Decides (FreeInTime l) false
    ends_late h b = record { yea = λ z. absurd (false≢true z); nay = λ z f. omega (arith, f i h) }

  pub ends_all : EndsBelow → i ≡ l.traffic.train_count → Decides (FreeInTime l) true
  ends_all h e = record { yea = λ z j b. h j (omega arith); nay = λ z f. true≢false z }
