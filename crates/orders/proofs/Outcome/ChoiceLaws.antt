-- Adding a choice to a plan: which arcs are to be raised for, and what the answer of raising says of the line.
use Rattle.std.specs.Prelude.{ℕ, ◌/◌, ◌%◌, ◌≤◌, ◌≡◌, refl, ◌⊎◌, true, List, get_or}
use Rattle.std.proofs.Math.Path.{sym}
use Rattle.std.proofs.Common.{◌∙◌, subst, inl, inr, ⊎_elim, arith}
use Rattle.line.specs.declared.Line.{Line}
use Rattle.line.specs.Within.{Arrays}
use Rattle.line.specs.Runnable.{Runnable}
use Rattle.rules.specs.Statement.Paths.{train, out_of, EachTrain}
use Rattle.rules.specs.Statement.Minutes.{departs}
use Rattle.rules.specs.Statement.Rules.{NotLate}
use Rattle.rules.specs.Statement.Delay.{weighted_delay}
use Rattle.rules.specs.Conflict.Directions.{directions_of}
use Rattle.orders.specs.LeastMinutes.NoLater.{◌⊑◌}
use Rattle.orders.specs.LeastMinutes.Least.{Fit, IsLeast}
use Rattle.orders.specs.Plan.Bits.{in_mask}
use Rattle.orders.specs.Plan.Choices.{Choice, on_segment, at_station, Of, Shared, KeepsChoice}
use Rattle.orders.specs.Plan.Marks.{Plan, Placed, also, marked}
use Rattle.orders.specs.Plan.MarksLaws.{of_placed, also_here, also_placed, marked_row}
use Rattle.orders.specs.Plan.Plans.{Keeps}
use Rattle.orders.specs.Plan.TidyPlans.{Fitting, Tidy}
use Rattle.orders.specs.Plan.TidyPlansLaws.{also_tidy}
use Rattle.orders.specs.LineTables.Tables.{tables_of}
use Rattle.orders.specs.Raise.Raising.{Kept}
use Rattle.orders.specs.Graph.LegGraph.{LegArc, runs, slow, next, depart, arrive, after, gone, leaving, UsedArc, leg_graph}
use Rattle.orders.specs.Lift.Lifting.{LegsKept, Choosing, Follows, LeastChosen, NoneChosen, Forces}
use Rattle.orders.specs.Graph.LegsLaws.{LegOf, over_leg}
use Rattle.orders.specs.Graph.LegChoices.{segment_choice, ByChoice, ArcOf, first_leg}
use Rattle.orders.specs.Graph.LegChoicesLaws.{by_choice, leaving_is, leaves_leg, leaves_by}
use Rattle.orders.specs.Graph.ShapedLaws.{shaped}
use Rattle.orders.proofs.Graph.GraphLaws.{run_kept, arc_kept, arc_marked, keeps_graph, graph_keeps}
use Rattle.orders.specs.Outcome.DelayLaws.{cost_is}
use Rattle.orders.specs.Outcome.LimitsLaws.{limits_late, late_limits}

-- the mark of a choice is there
pub segment_mark : (p i j : ℕ) (q : Plan) → in_mask (get_or (also (on_segment p i j) q) (departs p i) 0) j ≡ true
segment_mark p i j q = marked_row (also (on_segment p i j) q) (on_segment p i j) (departs p i) j refl refl ∙ also_here (on_segment p i j) q

module _ (l : Line) (w : Runnable l) (r : Arrays l) where
  abbrev ds : List ℕ
  ds = directions_of l

  abbrev t : List ℕ
  t = tables_of l

  pub station_mark : (s a b : ℕ) (q : Plan) → Of l (at_station s a b) → Shared l (at_station s a b) →
      in_mask (get_or (also (at_station s a b) q) (leaving ds (departs (out_of (train l a) s) a)) 0) b ≡ true
  station_mark s a b q o h =
      marked_row (also (at_station s a b) q) (at_station s a b) _ b (sym (leaving_is l w r s a b o h)) refl ∙ also_here (at_station s a b) q

  -- the arcs of an arc's choice have that arc
  follows : (c : Choice) (e j : ℕ) → segment_choice e j ≡ c → (a : LegArc) → Follows e j a → ArcOf l c a
  follows c e j same a h =
      let at : e ≡ departs (e / 16) (e % 16) = omega arith in
      subst (λ x. ArcOf l x a) same (subst (λ x. Follows x j a) at h)

  -- an arc that is there is one of the choice, or its own choice is P
  arc_or : (c : Choice) (P : Choice → Type 0) (q : Plan) (a : LegArc) → UsedArc q t ds a → ByChoice ds (λ x. (x ≡ c) ⊎ P x) a → ArcOf l c a ⊎ ByChoice ds P a
  arc_or c P q (runs e) u h = inr tt
  arc_or c P q (slow e) u h = inr tt
  arc_or c P q (next e) u h = inr tt
  arc_or c P q (depart e j) u h = ⊎_elim (λ same. inl (follows c e j same (depart e j) (refl, refl))) inr h
  arc_or c P q (arrive e j) u h = ⊎_elim (λ same. inl (follows c e j same (arrive e j) (refl, refl))) inr h
  arc_or c P q (after e j) u h = ⊎_elim (λ same. inl (follows c e j same (after e j) (refl, refl))) inr h
  arc_or c P q (gone e j) u h = ⊎_elim (λ same. inl (subst (λ x. ArcOf l x (gone e j)) same (leaves_by l w r e u.0, refl))) inr h

  module _ (c : Choice) (f : Fitting l c) (q : Plan) (d : Tidy l q) (m : List ℕ) (k : Keeps l q m) where
    tidy : Tidy l (also c q)
    tidy = also_tidy l w c q f d

    -- all arcs but those of the choice are kept
    pub others : (a : LegArc) → UsedArc (also c q) t ds a → Kept (leg_graph (also c q) t ds) m a ⊎ ArcOf l c a
    others a u =
        ⊎_elim inr (λ h. inl (arc_kept l w r m k.trains (also c q) a u h))
        (arc_or c (λ x. Fitting l x × KeepsChoice l m x) (also c q) a u
        (by_choice ds (λ x. Placed x × (marked (also c q) x ≡ true)) (λ x. (x ≡ c) ⊎ (Fitting l x × KeepsChoice l m x)) (λ x h.
        ⊎_elim inl (λ old. inr (let g = d.fitting x h.0 old in (g, k.choices x g.0 g.1 old)))
        (also_placed c x q (of_placed l w c f.0) h.0 h.1)) a (arc_marked l w r (also c q) a u)))

    first-leg : (c : Choice) → Of l c → Shared l c → LegOf l (first_leg l c)
    first-leg (on_segment p i j) o h = over_leg l w r i o.1 p h.0
    first-leg (at_station s a b) o h = leaves_leg l w r s a b o h

    -- what raising for the choice asks for
    pub choosing : (cost cut : ℕ) → Fit 352 m → EachTrain l (NotLate l m) → cost ≡ weighted_delay l m → cost ≤ cut →
        Choosing (ArcOf l c) m (also c q) t ds (first_leg l c) cost cut
    unfolding LegsKept
    choosing cost cut z late is low = record {
      ready = record {
        shaped = shaped l w r (also c q) tidy;
        size = z.size;
        within = z.within;
        limits = late_limits l w r m k.trains late;
        legs = λ e u. let run = run_kept l w r m k.trains e u in (omega (arith, run), omega (arith, run));
        leg = first-leg c f.0 f.1;
        cost_is = is ∙ sym (cost_is l w r m);
        cost_in_lem = low;
      };
      others = others;
    }

    pub chosen_least : (cut : ℕ) (n : List ℕ) (x : ℕ) → Fit 352 m → LeastChosen (also c q) t ds cut m n x →
        IsLeast 352 (Keeps l (also c q)) m n × EachTrain l (NotLate l n) × (x ≡ weighted_delay l n) × (x ≤ cut)
    chosen_least cut n x z h = (
      record {
        fit = record { size = h.size ∙ z.size; within = h.within };
        keeps = graph_keeps l w r (also c q) n h.keeps m h.above k.trains;
        above = h.above;
        first = λ y b g up. h.first y b.within (keeps_graph l w r (also c q) tidy y g) up;
      },
      limits_late l w r n h.settled.limits,
      h.settled.cost_is ∙ cost_is l w r n,
      h.settled.cost_in_lem,
    )

    -- whatever the answer, no minutes that keep the plan with the choice are before those that raising leaves
    pub chosen_low : (n : List ℕ) → Forces (also c q) t ds m n → (y : List ℕ) → Keeps l (also c q) y → m ⊑ y → n ⊑ y
    chosen_low n h y g up = h y (keeps_graph l w r (also c q) tidy y g) up

    pub chosen_none : (cut : ℕ) → NoneChosen (also c q) t ds cut m →
        (y : List ℕ) → Fit 352 y → Keeps l (also c q) y → m ⊑ y → EachTrain l (NotLate l y) → weighted_delay l y ≤ cut → ⊥
    unfolding NoneChosen
    chosen_none cut h y z g up late cheap =
        h y z.within (keeps_graph l w r (also c q) tidy y g) up (late_limits l w r y g.trains late) (omega (arith, cost_is l w r y))
