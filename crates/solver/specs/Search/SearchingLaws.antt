-- The laws of searching in the terms of the search's contracts: each is what one way out of a function, or one call in it, asks for.
use Rattle.std.specs.Prelude.{ℕ, ◌+◌, ◌≤◌, ◌<◌, ◌≡◌, refl, Bool, true, false, not, get_or, set, Option, Some, None}
use Rattle.std.proofs.Common.{sym, ◌∙◌, ap, subst, inl, ⊎_elim, arith}
use mathlib.Core.List.Memᴰ
use mathlib.Core.List.{List, [], ◌∷◌, Memᴰ}
use Rattle.std.proofs.lemmas.Bool.{not-true, not-false}
use Rattle.line.specs.declared.Line.{Line}
use Rattle.rules.specs.declared.conflicts.Conflict.{Conflict}
use Rattle.orders.specs.Plan.Bits.{with_bit}
use Rattle.orders.specs.Plan.Choices.{Choice}
use Rattle.orders.specs.Plan.Marks.{Plan, also}
use Rattle.orders.specs.Lift.Lifting.{Alive, told_cost}
use Rattle.plans.specs.Theory.Problem.{Laws}
use Rattle.plans.specs.Theory.BestSoFar.{improves_true, improves_false}
use Rattle.plans.specs.Theory.Search.{Under, NoneBetter}
use Rattle.plans.specs.Theory.SearchLaws.{onward_then, none_onward, none_worse, searched_clear, none_split, under_least, under_also}
use Rattle.plans.specs.Conflict.Ways.{way_of, way_count, ways_of}
use Rattle.plans.proofs.Conflict.WaysLaws.{way-number}
use Rattle.plans.specs.Conflict.RealConflicts.{Real}
use Rattle.plans.proofs.Conflict.SplitsLaws.{conflict_splits}
use Rattle.plans.specs.Instance.Planning.{planning}
use Rattle.plans.proofs.Instance.LineSearchedLaws.{planning_laws, clear_lawful}
use Rattle.plans.specs.Clauses.Keys.{better_by}
use Rattle.plans.specs.Clauses.Tallies.{best_of, cut_of, cut_off, DelayLow, Tallied}
use Rattle.plans.specs.Clauses.TalliesLaws.{onward_low}
use Rattle.plans.specs.Clauses.Choosing.{Planned, Given, NoRaise, RaisesChoice, IsWay}
use Rattle.plans.proofs.Clauses.TryingLaws.{put_back}
use Rattle.plans.proofs.Clauses.NextPlansLaws.{recounted, recounted_best, none_raised, way_added, way_raises, way-least, next_planned}
use Rattle.plans.proofs.Clauses.GivenLaws.{told}
use Rattle.plans.specs.declared.day.Day.{Day}
use Rattle.plans.specs.declared.tally.Tally.{Tally}
use Rattle.plans.specs.declared.ways.Way.{Way}
use Rattle.solver.specs.Selection.Pricing.{Cheapest}
use Rattle.solver.specs.Selection.PricingLaws.{set_cases, only}
use Rattle.solver.specs.Selection.Selecting.{Chosen}
use Rattle.solver.specs.Search.Searching.{Held, Whole, Sought, WaysSought}
use Rattle.solver.specs.Lookahead.Ahead.{PricesBetterBelow}

-- ---- the plans that are counted

-- what is whole at its end was whole before
pub whole_before : (limit : Option ℕ) (y r : Tally) → y.steps ≤ r.steps → Whole limit r → Whole limit y
whole_before None y r rise h = tt
whole_before (Some n) y r rise h = omega arith

-- the tally with one plan more
abbrev pub CountedOf : Tally → Tally → Type 0
CountedOf y b = (b.delay ≡ y.delay) × (b.steps ≡ cut_off (y.steps + 1))

module _ (l : Line) (best : List ℕ) (y b : Tally) (t : Tallied l best y) (counted : CountedOf y b) where
  pub counted_tallied : Tallied l best b
  counted_tallied = recounted l best y b counted.0 (omega (arith, counted.1)) t

  counted_rise : y.steps ≤ b.steps
  counted_rise = omega (arith, counted.1, t.steps_low)

  counted_best : best_of b best ≡ best_of y best
  counted_best = recounted_best l best y b counted.0

-- ---- taking up a plan

module _ (l : Line) (m marks best : List ℕ) (d : Day) (cost : ℕ) (limit : Option ℕ) (y : Tally) (h : Held l m marks best d cost y) where
  abbrev g : Given l m marks best d.tables d.ds d.key d.layout cost y
  g = h.given

  abbrev L : Laws (planning l)
  L = planning_laws l g.tabled.within g.tabled.raisable.arrays

  -- nothing was done, as nothing better is there or the limit is reached
  pub sought_none : (Whole limit y → NoneBetter (planning l) marks (best_of y best)) → Sought l marks marks best limit y marks best y
  sought_none n = record { marks_same = refl; tallied = g.tallied; steps_rise = omega arith; onward = inl refl; none_better = n }

  pub sought_spent : (r : Bool) → r ≡ true → (r ≡ true → Whole limit y → ⊥) → Sought l marks marks best limit y marks best y
  sought_spent r e over = sought_none (λ whole. absurd (over e whole))

  module _ (r : Bool) (r-is : r ≡ better_by d.key m cost best y) where
    pub sought_cut : not r ≡ true → Sought l marks marks best limit y marks best y
    sought_cut n =
        sought_none
        (λ _. none_worse (planning l) L marks m (best_of y best) h.under
        (improves_false (planning l) m (best_of y best) (told l m marks best d.tables d.ds d.key d.layout cost y g r r-is ∙ not-true r n)))

    pub sought_clear : not r ≡ false → (conflict : Option Conflict) → Chosen d m conflict → way_count conflict ≡ 0 → (best' : List ℕ) → best' ≡ m →
        Sought l marks marks best limit y marks best' (record { delay = Some cost; steps = y.steps })
    sought_clear better conflict chosen empty best' same =
        let p = g.planned in
        let w = g.tabled.within in
        let a = g.tabled.raisable.arrays in
        let c = chosen l w a g.layout_is g.tabled.raisable.directions in
        let lawful = clear_lawful l w a marks m p.carried.least.fit p.carried.least.keeps p.timely (c.none (nothing_of conflict empty)) in
        let i = improves_true (planning l) m (best_of y best) (told l m marks best d.tables d.ds d.key d.layout cost y g r r-is ∙ not-false r better) in
        let s = searched_clear (planning l) L marks m (best_of y best) h.under lawful i in
        record {
          marks_same = refl;
          tallied = record {
            size = rw same p.carried.least.fit.size;
            delay_is = λ c e. let now : c ≡ cost = cc in rw (now, same) p.carried.cost_is;
            steps_low = g.tallied.steps_low;
          };
          steps_rise = omega arith;
          onward = rw same s.onward;
          none_better = λ _. rw same s.none_better;
        }
      where
        nothing_of : (c : Option Conflict) → way_count c ≡ 0 → c ≡ None
        nothing_of None e = refl
        nothing_of (Some (Conflict.OnSegment x)) e = absurd (omega arith)
        nothing_of (Some (Conflict.AtStation x)) e = absurd (omega arith)

  -- the delay stays below the last number of its type, where it was
  pub sought_low : (marks' best' : List ℕ) (r : Tally) → Sought l marks marks best limit y marks' best' r →
      Sought l marks marks best limit y marks' best' r × (DelayLow y → DelayLow r)
  sought_low marks' best' r s = (s, onward_low l g.tabled.within best best' y r g.tallied s.tallied s.onward)

  -- what is held stays so
  pub held_after : (marks' best' : List ℕ) (r : Tally) → marks' ≡ marks → Tallied l best' r → Held l m marks' best' d cost r
  held_after marks' best' r same tallied =
      record {
        given = record {
          tabled = g.tabled;
          keys = g.keys;
          layout_is = g.layout_is;
          planned = subst (λ (q : List ℕ). Planned l q m cost) (sym same) g.planned;
          tallied = tallied;
        };
        under = subst (λ (q : List ℕ). Under (planning l) q m) (sym same) h.under;
      }

  pub held_by : (marks' : List ℕ) → marks' ≡ marks → Held l m marks' best d cost y
  held_by marks' same = held_after marks' best y same g.tallied

  -- ---- trying a way

  module _ (c : Choice) (way : Way) (i : IsWay l m d.ds c way) (b : Tally) (counted : CountedOf y b)
      (v : ℕ) (v-is : v ≡ with_bit way.second (get_or marks way.row 0)) (q : List ℕ) (same : q ≡ m) (cut : ℕ) (cut-is : cut ≡ cut_of b)
      (n : List ℕ) (r : Option ℕ) (raised : RaisesChoice q (set marks way.row v) d.tables d.ds way cost cut n r) where
    tallied : Tallied l best b
    tallied = counted_tallied l best y b g.tallied counted

    added : set marks way.row v ≡ also c marks
    added = way_added l m marks d.tables d.ds cost g.tabled g.planned c way i v v-is

    -- there are no minutes
    pub sought_dead : r ≡ None → Sought l (also c marks) marks best limit y (set (set marks way.row v) way.row (get_or marks way.row 0)) best b
    sought_dead dead =
        record {
          marks_same = put_back marks way.row v;
          tallied = tallied;
          steps_rise = counted_rise l best y b g.tallied counted;
          onward = inl (counted_best l best y b g.tallied counted);
          none_better = λ _.
              none_raised l g.tabled.within g.tabled.raisable.arrays c marks m best b h.under tallied
              (subst (NoRaise l c marks m) cut-is ((way_raises l m marks d.tables d.ds cost g.tabled g.planned c way i v v-is q same cut n r raised).none dead));
        }

    -- there are: the plan with the choice is one to search
    pub next_held : Alive r → Held l n (set marks way.row v) best d (told_cost r) b
    next_held alive =
        let least = way-least l m marks d.tables d.ds cost g.tabled g.planned c way i v v-is q same cut n r raised alive in
        record {
          given = record {
            tabled = g.tabled;
            keys = g.keys;
            layout_is = g.layout_is;
            planned = next_planned l m marks d.tables d.ds cost g.tabled g.planned c way i v v-is q same cut n r raised alive;
            tallied = tallied;
          };
          under =
              subst (λ (x : List ℕ). Under (planning l) x n) (sym added)
              (under_least (planning l) L (also c marks) m n (under_also (planning l) L c marks m h.under) least);
        }

    pub sought_alive : (marks₂ best₂ : List ℕ) (z : Tally) → Sought l (set marks way.row v) (set marks way.row v) best limit b marks₂ best₂ z →
        Sought l (also c marks) marks best limit y (set marks₂ way.row (get_or marks way.row 0)) best₂ z
    sought_alive marks₂ best₂ z s =
        record {
          marks_same = ap (λ (x : List ℕ). set x way.row (get_or marks way.row 0)) s.marks_same ∙ put_back marks way.row v;
          tallied = s.tallied;
          steps_rise = omega (arith, counted_rise l best y b g.tallied counted, s.steps_rise);
          onward = rw (← counted_best l best y b g.tallied counted) s.onward;
          none_better = λ whole. subst (λ (p : Plan). NoneBetter (planning l) p (best_of z best₂)) added (s.none_better whole);
        }

  -- ---- trying all ways

  module _ (conflict : Option Conflict) (real : Real l m conflict) where
    -- before the first: the marks are those after pricing, which are those of before
    pub ways_priced : (marks₀ : List ℕ) (prices : List (Option ℕ)) (k : ℕ) → PricesBetterBelow m marks₀ best d cost y conflict k marks prices →
        (n : ℕ) → n ≤ k → WaysSought l marks best limit y conflict n prices marks best y
    ways_priced marks₀ prices k e n few =
        record {
          marks_same = refl;
          tallied = g.tallied;
          steps_rise = omega arith;
          onward = inl refl;
          done = λ _ j b dead c there.
              subst (λ (q : List ℕ). NoneBetter (planning l) (also c q) (best_of y best)) (sym e.marks_same)
              (e.dead l (held_by marks₀ (sym e.marks_same)) real j (omega arith) dead c there);
        }

    -- with none left the plan is searched, where there is a conflict
    pub ways_done : (conflict ≡ None → ⊥) → (n : ℕ) → n ≡ way_count conflict → (prices : List (Option ℕ)) (marks' best' : List ℕ) (r : Tally) →
        WaysSought l marks best limit y conflict n prices marks' best' r → Cheapest prices n None → Sought l marks marks best limit y marks' best' r
    ways_done some n n-is prices marks' best' r s next =
        record {
          marks_same = s.marks_same;
          tallied = s.tallied;
          steps_rise = s.steps_rise;
          onward = s.onward;
          none_better = λ whole.
              none_split (planning l) L marks m (ways_of conflict)
              (conflict_splits l g.tabled.within g.tabled.raisable.arrays marks m conflict real some)
              (best_of r best')
              (λ c there.
              let (k, low, here) = way-number conflict c there in
              let low' : k < n = omega arith in
              s.done whole k low' (next.none_left refl k low') c here);
        }

-- the marks are as before, whichever of the two names them
pub sought_marks : (l : Line) (p : Plan) (marks best : List ℕ) (limit : Option ℕ) (y : Tally) (marks' best' : List ℕ) (r : Tally) → marks' ≡ marks →
    Sought l p marks best limit y marks best' r → Sought l p marks best limit y marks' best' r
sought_marks l p marks best limit y marks' best' r same s = subst (λ (q : List ℕ). Sought l p marks best limit y q best' r) (sym same) s

pub sought_by : (l : Line) (marks₀ marks best : List ℕ) (limit : Option ℕ) (y : Tally) (marks' best' : List ℕ) (r : Tally) → marks ≡ marks₀ →
    Sought l marks marks best limit y marks' best' r → Sought l marks₀ marks₀ best limit y marks' best' r
sought_by l marks₀ marks best limit y marks' best' r same s = subst (λ (q : List ℕ). Sought l q q best limit y marks' best' r) same s

-- ---- one way more

module _ (l : Line) (marks best : List ℕ) (limit : Option ℕ) (y : Tally) (conflict : Option Conflict) (n : ℕ)
    (prices : List (Option ℕ)) (marks₁ best₁ : List ℕ) (r₁ : Tally)
    (s : WaysSought l marks best limit y conflict n prices marks₁ best₁ r₁) (w : ℕ) where
  -- there is no such way
  pub ways_skip : way_of conflict w ≡ [] → WaysSought l marks best limit y conflict n (set prices w None) marks₁ best₁ r₁
  ways_skip none =
      record {
        marks_same = s.marks_same;
        tallied = s.tallied;
        steps_rise = s.steps_rise;
        onward = s.onward;
        done = λ whole k b dead c there.
            ⊎_elim
            (λ e. absurd (Memᴰ.not-nil (subst (Memᴰ c) none (subst (λ (j : ℕ). Memᴰ c (way_of conflict j)) e.0 there))))
            (λ e. s.done whole k b (sym e ∙ dead) c there)
            (set_cases prices w None k);
      }

  -- it was tried: it holds nothing better, and the ways before it do not as the best goes on
  pub ways-more : (c : Choice) → way_of conflict w ≡ c ∷ [] → (marks₂ best₂ : List ℕ) (r₂ : Tally) →
      Sought l (also c marks₁) marks₁ best₁ limit r₁ marks₂ best₂ r₂ →
      WaysSought l marks best limit y conflict n (set prices w None) marks₂ best₂ r₂
  ways-more c one marks₂ best₂ r₂ k =
      record {
        marks_same = k.marks_same ∙ s.marks_same;
        tallied = k.tallied;
        steps_rise = omega (arith, s.steps_rise, k.steps_rise);
        onward = onward_then (planning l) _ _ _ s.onward k.onward;
        done = λ whole j b dead d there.
            ⊎_elim
            (λ e.
            let same : d ≡ c = only (subst (Memᴰ d) one (subst (λ (j : ℕ). Memᴰ d (way_of conflict j)) e.0 there)) in
            subst (λ (x : Choice). NoneBetter (planning l) (also x marks) (best_of r₂ best₂)) (sym same)
            (subst (λ (p : Plan). NoneBetter (planning l) (also c p) (best_of r₂ best₂)) s.marks_same (k.none_better whole)))
            (λ e.
            none_onward (planning l) (also d marks) _ _ k.onward
            (s.done (whole_before limit r₁ r₂ k.steps_rise whole) j b (sym e ∙ dead) d there))
            (set_cases prices w None j);
      }
