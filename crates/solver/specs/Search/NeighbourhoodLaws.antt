-- The laws of keeping a timetable's orders: a choice more leads from one plan to search to the next, steps follow one another, and an order to keep is a
-- choice that fits the line.
use Rattle.std.specs.Prelude.{ℕ, ◌+◌, ◌-◌, ◌*◌, ◌≤◌, ◌<◌, ◌≡◌, refl, true, List, Option, eqb, get_or, set}
use Rattle.std.proofs.Common.{sym, ◌∙◌, ap, subst, true≢false, arith, eq-eqb}
use Rattle.std.proofs.Math.Decide.{dec_lt}
use Rattle.finite.specs.DecideLaws.{is_true, decides_not, decides_eq}
use Rattle.line.specs.declared.Kind.{Kind}
use Rattle.line.specs.declared.Line.{Line}
use Rattle.line.specs.declared.Segment.{Segment}
use Rattle.line.specs.Record.{no_segment}
use Rattle.rules.specs.declared.conflicts.Layout.{Layout}
use Rattle.rules.specs.Statement.Paths.{train, Uses, segment_count}
use Rattle.rules.specs.Conflict.Directions.{directions_of, way}
use Rattle.rules.specs.Conflict.DirectionsLaws.{way_past, decides_on, same_way_lem}
use Rattle.orders.specs.Plan.Bits.{with_bit}
use Rattle.orders.specs.Plan.Choices.{on_segment}
use Rattle.orders.specs.Plan.Marks.{also}
use Rattle.orders.specs.Lift.Lifting.{Alive, told_cost}
use Rattle.plans.specs.Theory.SearchLaws.{under_least, under_also}
use Rattle.plans.specs.Instance.Planning.{planning}
use Rattle.plans.proofs.Instance.LineSearchedLaws.{planning_laws}
use Rattle.plans.specs.Clauses.Choosing.{Chooses, RaisesChoice}
use Rattle.plans.proofs.Clauses.TryingLaws.{row_low, second_low, marks_added}
use Rattle.plans.proofs.Clauses.NextPlansLaws.{child_planned, child_above}
use Rattle.plans.specs.declared.day.Day.{Day}
use Rattle.solver.specs.Search.Neighbourhood.{Searchable, CanKeep, Leads, WithChoice, OnSegment, OnLayout, way_for, OrderToKeep}

-- ---- steps

module _ (Among : Line → Type 0) (marks m : List ℕ) (cost : ℕ) where
  pub leads_nowhere : Leads Among marks m cost marks m cost
  leads_nowhere = record { leads = λ l _ h. h }

  pub leads_then : (marks₁ m₁ : List ℕ) (c₁ : ℕ) (marks₂ m₂ : List ℕ) (c₂ : ℕ) → Leads Among marks m cost marks₁ m₁ c₁ →
      Leads Among marks₁ m₁ c₁ marks₂ m₂ c₂ → Leads Among marks m cost marks₂ m₂ c₂
  leads_then marks₁ m₁ c₁ marks₂ m₂ c₂ f g = record { leads = λ l a h. g.leads l a (f.leads l a h) }

  pub keep_after : CanKeep Among marks m cost → (marks₁ m₁ : List ℕ) (c₁ : ℕ) → Leads Among marks m cost marks₁ m₁ c₁ →
      CanKeep Among marks₁ m₁ c₁
  keep_after h marks₁ m₁ c₁ f =
      record { line = h.line; among = h.among; searchable = f.leads h.line h.among h.searchable }

  -- among fewer lines
  module _ (Fewer : Line → Type 0) where
    pub leads_among : ((l : Line) → Fewer l → Among l) → (marks₁ m₁ : List ℕ) (c₁ : ℕ) → Leads Among marks m cost marks₁ m₁ c₁ →
        Leads Fewer marks m cost marks₁ m₁ c₁
    leads_among f marks₁ m₁ c₁ h = record { leads = λ l a. h.leads l (f l a) }

    pub keep_among : ((l : Line) → Fewer l → Among l) → CanKeep Fewer marks m cost → CanKeep Among marks m cost
    keep_among f h = record { line = h.line; among = f h.line h.among; searchable = h.searchable }

-- ---- a choice more

module _ (d : Day) (p i j : ℕ) where
  pub row_few : (l : Line) → WithChoice d p i j l → 16 * p + i < 368
  row_few l h = row_low l h.tabled.within (on_segment p i j) h.fitting

  pub second_few : (l : Line) → WithChoice d p i j l → j < 16
  second_few l h = second_low l h.tabled.within (on_segment p i j) h.fitting

  module _ (marks m : List ℕ) (cost v : ℕ) (v-is : v ≡ with_bit j (get_or marks (16 * p + i) 0)) where
    added : (l : Line) → WithChoice d p i j l → Searchable l marks m cost → set marks (16 * p + i) v ≡ also (on_segment p i j) marks
    added l h s =
        marks_added (on_segment p i j) marks (16 * p + i) j v refl refl v-is (omega (arith, row_few l h, s.planned.tidy.size))

    pub chooses_first : (l : Line) → WithChoice d p i j l → Searchable l marks m cost →
        Chooses l (on_segment p i j) marks m (set marks (16 * p + i) v) d.tables d.ds (way_for (16 * p + i) j) cost
    chooses_first l h s =
        record {
          raisable = h.tabled.raisable;
          planned = s.planned;
          fitting = h.fitting;
          marks_are = added l h s;
          told = record { station = refl; row = refl; leg = refl; second = refl };
        }

    -- where raising finds minutes they are the least of the plan with the choice
    pub leads_first : (cut : ℕ) (n : List ℕ) (r : Option ℕ) → RaisesChoice m (set marks (16 * p + i) v) d.tables d.ds (way_for (16 * p + i) j) cost cut n r → Alive r →
        Leads (WithChoice d p i j) marks m cost (set marks (16 * p + i) v) n (told_cost r)
    leads_first cut n r h alive = record { leads = λ l a s. subst (λ (q : List ℕ). Searchable l q n (told_cost r)) (sym (added l a s)) (more l a s) }
      where
        more : (l : Line) → WithChoice d p i j l → Searchable l marks m cost → Searchable l (also (on_segment p i j) marks) n (told_cost r)
        more l a s =
            let c = on_segment p i j in
            let w = a.tabled.within in
            let L = planning_laws l w a.tabled.raisable.arrays in
            let k = h l c marks (chooses_first l a s) in
            record {
              planned = child_planned l c marks m cost s.planned cut n r k w a.fitting alive;
              under = under_least (planning l) L (also c marks) m n (under_also (planning l) L c marks m s.under)
                  (child_above l c marks m cost s.planned cut n r k alive);
            }

-- ---- an order to keep fits the line

module _ (g : Segment) (d : Day) (p : ℕ) where
  pub order_other : (i j : ℕ) → OrderToKeep g d.ds p i j → OrderToKeep g d.ds p j i
  order_other i j h = record { one = h.other; other = h.one; asks = λ e. sym (h.asks e) }

  module _ (l : Line) (h : OnSegment d g p l) where
    few : l.traffic.train_count ≤ 12
    few = h.tabled.within.trains.1

    pub segment_low : p < 11
    segment_low = omega (arith, h.place, h.tabled.within.stations.1)

    -- a train with a direction there is one of the line, and goes over the segment
    train-on : (i : ℕ) → i < 12 → (way d.ds p i ≡ 0 → ⊥) → (i < l.traffic.train_count) × Uses (train l i) p
    train-on i low on = (known, (decides_on l few p segment_low i known).yea (is_true (decides_not (decides_eq _ _)) on'))
      where
        on' : way (directions_of l) p i ≡ 0 → ⊥
        on' z = on (ap (λ (x : List ℕ). way x p i) h.tabled.raisable.directions ∙ z)

        known : i < l.traffic.train_count
        known = elim (dec_lt i l.traffic.train_count) [
          | yes k ↦ k
          | no k ↦ absurd (on' (way_past l (16 * p + i) (omega (arith, segment_low)) (omega arith)))
        ]

    pub order_fits : (i j : ℕ) → i < 12 → j < 12 → OrderToKeep g d.ds p i j → WithChoice d p i j l
    order_fits i j a b o =
        let (i-known, i-on) = train-on i a o.one in
        let (j-known, j-on) = train-on j b o.other in
        record {
          tabled = h.tabled;
          fitting = (
            (h.place, i-known, j-known),
            (i-on, j-on),
            λ double apart.
                true≢false
                (sym (alike (ap (λ (x : Segment). x.kind) h.segment_is ∙ double)) ∙ same_way_lem l few p segment_low i j i-known j-known i-on j-on ∙ apart),
          );
        }
      where
        alike : g.kind ≡ Kind.D → eqb (way (directions_of l) p i) (way (directions_of l) p j) ≡ true
        alike double = subst (λ (x : List ℕ). eqb (way x p i) (way x p j) ≡ true) h.tabled.raisable.directions (eq-eqb _ _ (o.asks double))

-- ---- the segments of a layout

pub segment_among : (d : Day) (g : Segment) (p : ℕ) → g ≡ get_or d.layout.segments p no_segment → p < d.layout.stations - 1 →
    (l : Line) → OnLayout d l → OnSegment d g p l
segment_among d g p g-is low l h =
    record {
      tabled = h.tabled;
      place = subst (λ (x : Layout). p < x.stations - 1) h.layout_is low;
      segment_is = g-is ∙ ap (λ (x : Layout). get_or x.segments p no_segment) h.layout_is;
    }

-- they are the line's, and so many
pub layout_segments : (d : Day) (l : Line) → OnLayout d l → (d.layout.segments ≡ l.track.segments) × (d.layout.stations - 1 ≡ segment_count l)
layout_segments d l h = (ap (λ (x : Layout). x.segments) h.layout_is, ap (λ (x : Layout). x.stations - 1) h.layout_is)

-- its numbers
pub layout_few : (d : Day) (l : Line) → OnLayout d l →
    (2 ≤ d.layout.stations) × (d.layout.stations ≤ 12) × (d.layout.trains ≤ 12)
layout_few d l h =
    let w = h.tabled.within in (rw h.layout_is w.stations.0, rw h.layout_is w.stations.1, rw h.layout_is w.trains.1)
