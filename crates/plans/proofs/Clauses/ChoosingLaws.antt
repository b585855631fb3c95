-- Raising for a choice: what its functions ask for, and what their answers say of the plan with the choice.
use Rattle.std.specs.Prelude.{ℕ, ◌+◌, ◌*◌, ◌-◌, ◌≤◌, ◌<◌, ◌≡◌, refl, Bool, true, false, cond, List, get_or, Option, None}
use Rattle.std.proofs.Common.{sym, ◌∙◌, true≢false, arith}
use Rattle.std.proofs.lemmas.Bool.{false≢true}
use Rattle.finite.specs.DecideLaws.{is_true}
use Rattle.line.specs.declared.Line.{Line}
use Rattle.line.specs.Within.{Arrays}
use Rattle.line.specs.Runnable.{Runnable}
use Rattle.rules.specs.Statement.Paths.{train, outbound, out_of, Uses, Middle, EachTrain}
use Rattle.rules.specs.Statement.Minutes.{departs}
use Rattle.rules.specs.Statement.Rules.{NotLate}
use Rattle.rules.specs.Statement.Delay.{weighted_delay}
use Rattle.rules.specs.Conflict.Directions.{directions_of}
use Rattle.orders.specs.LeastMinutes.NoLater.{◌⊑◌}
use Rattle.orders.specs.LeastMinutes.Least.{Fit, IsLeast}
use Rattle.orders.specs.LeastMinutes.LeastLaws.{least_afresh}
use Rattle.orders.specs.LeastMinutes.Carried.{start}
use Rattle.orders.specs.LeastMinutes.CarriedLaws.{start_below, delay_up}
use Rattle.orders.specs.Plan.Bits.{in_mask}
use Rattle.orders.specs.Plan.Choices.{Choice, on_segment, at_station}
use Rattle.orders.specs.Plan.Marks.{Plan, also}
use Rattle.orders.specs.Plan.Plans.{Keeps}
use Rattle.orders.specs.Plan.PlansLaws.{keeps_rest}
use Rattle.orders.specs.LineTables.Tables.{tables_of}
use Rattle.orders.specs.Graph.LegGraph.{leaving}
use Rattle.orders.specs.Lift.Lifting.{Alive, told_cost, Choosing, Follows, Comes, Chose, NoneChosen}
use Rattle.orders.specs.Graph.LegsLaws.{out_over}
use Rattle.orders.proofs.Outcome.ChoiceLaws.{segment_mark, station_mark, choosing, chosen_least, chosen_low, chosen_none}
use Rattle.plans.proofs.Instance.PlanningLaws.{decides_in_time}
use Rattle.plans.specs.Clauses.WaysTold.{leg_out}
use Rattle.plans.specs.Clauses.Choosing.{Chooses, NoRaise, Raises}
use Rattle.plans.specs.declared.ways.Way.{Way}

-- the leg out of a middle station is that of the segment on which the train leaves it
leg_leaves : (l : Line) → Runnable l → Arrays l → (s a : ℕ) → a < l.traffic.train_count → Middle (train l a) s →
    leg_out (directions_of l) s a ≡ departs (out_of (train l a) s) a
unfolding leg_out
leg_leaves l w r s a n h = rw (out_over l w r a n s (within_over h)) (either (outbound (train l a)))
  where
    within_over : Middle (train l a) s → Uses (train l a) s
    within_over h = (omega (arith, h.0), omega (arith, h.1))

    either : (b : Bool) → cond b (16 * s + a) (16 * (s - 1) + a) ≡ 16 * cond b s (s - 1) + a
    either true = refl
    either false = refl

module _ (l : Line) (p : Plan) (m marks t ds : List ℕ) (way : Way) (cost cut : ℕ) where
  -- for `follow` and `follow_fails`
  pub segment_asks : (c : Choice) → Chooses l c p m marks t ds way cost → way.station ≡ false → cost ≤ cut →
      Choosing (Follows way.leg way.second) m marks t ds way.leg cost cut × (way.second < 12) ×
      (in_mask (get_or marks way.leg 0) way.second ≡ true)
  segment_asks (on_segment x i j) h s low =
      let w = h.raisable.runnable in
      let q = h.planned.carried in
      rw (h.told.leg, h.told.second, h.marks_are, h.raisable.tables, h.raisable.directions) (
        choosing l w h.raisable.arrays (on_segment x i j) h.fitting p h.planned.tidy m q.least.keeps cost cut q.least.fit
            ((decides_in_time l m).yea h.planned.timely) q.cost_is low,
        omega (arith, h.fitting.0.2, w.trains.1),
        segment_mark x i j p,
      )
  segment_asks (at_station s a b) h e low = absurd (true≢false (sym h.told.station ∙ e))

  -- for `come_after` and `come_after_fails`
  pub station_asks : (c : Choice) → Chooses l c p m marks t ds way cost → way.station ≡ true → cost ≤ cut →
      Choosing (Comes way.leg way.second) m marks t ds way.leg cost cut × (way.second < 12) ×
      (in_mask (get_or marks (leaving ds way.leg) 0) way.second ≡ true)
  station_asks (on_segment x i j) h e low = absurd (false≢true (sym h.told.station ∙ e))
  station_asks (at_station s a b) h e low =
      let w = h.raisable.runnable in
      let r = h.raisable.arrays in
      let q = h.planned.carried in
      let f = h.fitting in
      let leg = leg_leaves l w r s a f.0.1 f.1.0 in
      rw (h.told.leg, h.told.second, h.marks_are, h.raisable.tables, h.raisable.directions, leg) (
        choosing l w r (at_station s a b) f p h.planned.tidy m q.least.keeps cost cut q.least.fit
            ((decides_in_time l m).yea h.planned.timely) q.cost_is low,
        omega (arith, f.0.2, w.trains.1),
        station_mark l w r s a b p f.0 f.1,
      )

  -- minutes that keep the plan with the choice keep the plan, and so are at or above its own
  above_plan : (c : Choice) → Chooses l c p m marks t ds way cost → (m' : List ℕ) → Fit 352 m' → Keeps l (also c p) m' → m ⊑ m'
  above_plan c h m' z k = h.planned.carried.least.first m' z (keeps_rest l c p m' k) (start_below m')

  -- their answers: where the legs have no minutes with the choice, the line has none
  pub none_raises : (c : Choice) → Chooses l c p m marks t ds way cost → NoneChosen marks t ds cut m → NoRaise l c p m cut
  unfolding NoRaise
  none_raises c h x m' z k up late low =
      let q = h.planned in
      let y : NoneChosen (also c p) (tables_of l) (directions_of l) cut m = rw (h.marks_are, h.raisable.tables, h.raisable.directions) at x in
      chosen_none l h.raisable.runnable h.raisable.arrays c h.fitting p q.tidy m q.carried.least.keeps cut y m' z k up
      ((decides_in_time l m').yea late) low

  pub chose_raises : (c : Choice) → Chooses l c p m marks t ds way cost → (n : List ℕ) (r : Option ℕ) → Chose marks t ds cut m n r → Raises l c p m cut n r
  chose_raises c h n r x =
      let w = h.raisable.runnable in
      let a = h.raisable.arrays in
      let least = h.planned.carried.least in
      let y : Chose (also c p) (tables_of l) (directions_of l) cut m n r = rw (h.marks_are, h.raisable.tables, h.raisable.directions) at x in
      let some : Alive r → IsLeast 352 (Keeps l (also c p)) m n × EachTrain l (NotLate l n) × (told_cost r ≡ weighted_delay l n) × (told_cost r ≤ cut) =
      λ v. chosen_least l w a c h.fitting p h.planned.tidy m least.keeps cut n (told_cost r) least.fit (y.alive v) in
      record {
        carried = λ v. record {
          least = least_afresh 352 (Keeps l p) (Keeps l (also c p)) (keeps_rest l c p) start m least n (some v).0;
          cost_is = (some v).2;
        };
        timely = λ v. is_true (decides_in_time l n) (some v).1;
        none = λ e. none_raises c h (x.dead e);
        low = λ m' z k.
            chosen_low l w a c h.fitting p h.planned.tidy m least.keeps n y.forces m' k (above_plan c h m' z k);
      }

  -- where the plan costs more than the cut already, so do all minutes above its own
  pub dear_none : (c : Choice) → Chooses l c p m marks t ds way cost → cut < cost → NoRaise l c p m cut
  unfolding NoRaise
  dear_none c h dear m' z k up late low = omega (arith, delay_up l m m' up, h.planned.carried.cost_is)

  pub dear_raises : (c : Choice) → Chooses l c p m marks t ds way cost → cut < cost → Raises l c p m cut m None
  dear_raises c h dear =
      record {
        carried = λ v. absurd (v refl);
        timely = λ v. absurd (v refl);
        none = λ e. dear_none c h dear;
        low = above_plan c h;
      }
