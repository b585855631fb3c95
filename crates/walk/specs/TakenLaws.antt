-- The laws of the walk's parts in the terms of its contracts: each is what one way out of a function, or one call in it, asks for.
use Rattle.std.specs.Prelude.{ℕ, ◌+◌, ◌-◌, ◌<◌, ◌≡◌, refl, Bool, true, false, not, List, [], get_or, set, Option, Some, None}
use Rattle.std.proofs.Common.{sym, ◌∙◌, ap, subst, arith}
use Rattle.std.proofs.lemmas.Bool.{not-true, not-false}
use Rattle.line.specs.declared.Line.{Line}
use Rattle.rules.specs.declared.conflicts.Conflict.{Conflict}
use Rattle.rules.specs.declared.conflicts.Layout.{Layout}
use Rattle.rules.specs.Conflict.Conflicts.{conflict_of, conflict_in}
use Rattle.orders.specs.Plan.Bits.{with_bit}
use Rattle.orders.specs.Plan.Choices.{Choice}
use Rattle.orders.specs.Lift.Lifting.{Alive, told_cost}
use Rattle.walk.specs.Walk.{Walked}
use Rattle.plans.specs.Theory.BestSoFar.{improves}
use Rattle.plans.specs.Conflict.Ways.{way_of, way_count}
use Rattle.plans.specs.Instance.Planning.{planning}
use Rattle.plans.specs.Clauses.Keys.{better_by}
use Rattle.plans.specs.Clauses.Tallies.{best_of, cut_of, cut_off, DelayLow, Tallied}
use Rattle.plans.specs.Clauses.TalliesLaws.{onward_low}
use Rattle.plans.specs.Clauses.WaysTold.{TellsWay, Steps}
use Rattle.walk.specs.Scanning.{ClearBelow, clear_segments}
use Rattle.walk.specs.ScanningLaws.{clear_told}
use Rattle.plans.specs.Clauses.Choosing.{Planned, Given, NoRaise, Fails, RaisesChoice, Raises, IsWay}
use Rattle.walk.specs.Taking.{Tries, TriesFirst, Walks, plan_part, way_part, ways_part}
use Rattle.plans.proofs.Clauses.TryingLaws.{way_there, way_absent, is_way, put_back}
use Rattle.plans.proofs.Clauses.NextPlansLaws.{way_added, way_chooses, way_raises, way-least, next_planned, next_falls}
use Rattle.plans.proofs.Clauses.GivenLaws.{conflict_known, told}
use Rattle.walk.specs.WalksLaws.{walks_cut, walks_clear, walks_split, walks_onward, counted_tallied, walks_dead, walks_alive, walks_skip, walks_more}
use Rattle.plans.specs.declared.tally.Tally.{Tally}
use Rattle.plans.specs.declared.ways.Way.{Way}

-- a conflict has ways out
pub some_ways : (c : Conflict) → way_count (Some c) ≡ 0 → ⊥
some_ways (Conflict.OnSegment x) e = omega arith
some_ways (Conflict.AtStation x) e = omega arith

module _ (l : Line) (m marks best t ds key : List ℕ) (layout : Layout) (cost : ℕ) (y : Tally) (g : Given l m marks best t ds key layout cost y) where
  -- ---- taking up a plan

  -- the segments below its lowest conflict have none
  pub clear_known : (conflict : Option Conflict) → conflict ≡ conflict_of l m → (clear : ℕ) → clear ≡ clear_segments layout conflict → ClearBelow layout ds m clear
  clear_known conflict is clear e =
      subst (ClearBelow layout ds m) (sym e)
      (clear_told layout ds m conflict (is ∙ sym (conflict_known l m marks best t ds key layout cost y g (conflict_in layout ds m) refl)))

  module _ (r : Bool) (r-is : r ≡ better_by key m cost best y) where
    better_told : improves (planning l) m (best_of y best) ≡ r
    better_told = told l m marks best t ds key layout cost y g r r-is

    pub given_cut : not r ≡ true → Walks l m marks y (plan_part l m marks best y) marks best y
    given_cut n = walks_cut l g.tabled.within g.tabled.raisable.arrays m marks best cost y g.planned g.tallied (better_told ∙ not-true r n)

    module _ (better : not r ≡ false) where
      pub given_clear : (conflict : Option Conflict) → conflict ≡ conflict_in layout ds m → way_count conflict ≡ 0 → (best' : List ℕ) → best' ≡ m →
          Walks l m marks y (plan_part l m marks best y) marks best' (record { delay = Some cost; steps = y.steps })
      given_clear conflict is empty best' same =
          walks_clear l g.tabled.within g.tabled.raisable.arrays m marks best cost y g.planned g.tallied (better_told ∙ not-false r better)
          conflict (conflict_known l m marks best t ds key layout cost y g conflict is) empty best' same

      pub given_split : (conflict : Option Conflict) → conflict ≡ conflict_in layout ds m → (way_count conflict ≡ 0 → ⊥) → (marks' best' : List ℕ) (r : Tally) →
          Walks l m marks y (ways_part l m marks best y conflict (way_count conflict)) marks' best' r →
          Walks l m marks y (plan_part l m marks best y) marks' best' r
      given_split conflict is some =
          walks_split l g.tabled.within g.tabled.raisable.arrays m marks best cost y g.planned g.tallied (better_told ∙ not-false r better)
          conflict (conflict_known l m marks best t ds key layout cost y g conflict is) some

  -- so the delay stays below the last number of its type, where it was
  pub given_taken : (marks' best' : List ℕ) (r : Tally) → Walks l m marks y (plan_part l m marks best y) marks' best' r →
      Walks l m marks y (plan_part l m marks best y) marks' best' r × (DelayLow y → DelayLow r)
  given_taken marks' best' r h = (
    h,
    onward_low l g.tabled.within best best' y r g.tallied h.tallied
        (walks_onward l g.tabled.within g.tabled.raisable.arrays m marks best cost y g.planned g.tallied marks' best' r h),
  )

  -- ---- trying the ways: the same is given after some of them

  pub given_after : (part : ℕ → Walked) (marks' best' : List ℕ) (r : Tally) → Walks l m marks y part marks' best' r →
      Given l m marks' best' t ds key layout cost r
  given_after part marks' best' r h =
      record {
        tabled = g.tabled;
        keys = g.keys;
        layout_is = g.layout_is;
        planned = subst (λ (q : List ℕ). Planned l q m cost) (sym h.marks_same) g.planned;
        tallied = h.tallied;
      }

  -- ---- trying a way

  module _ (c : Choice) (way : Way) (i : IsWay l m ds c way) where
    module _ (v : ℕ) (v-is : v ≡ with_bit way.second (get_or marks way.row 0)) where
      module _ (b : Tally) (counted : (b.delay ≡ y.delay) × (b.steps ≡ cut_off (y.steps + 1))) where
        tallied : Tallied l best b
        tallied =
            counted_tallied l g.tabled.within g.tabled.raisable.arrays m marks best cost y g.planned g.tallied c b counted.0 counted.1

        no_raise : NoRaise l c marks m (cut_of b) →
            Walks l m marks y (way_part l m marks best y c) (set (set marks way.row v) way.row (get_or marks way.row 0)) best b
        no_raise none =
            walks_dead l g.tabled.within g.tabled.raisable.arrays m marks best cost y g.planned g.tallied c b counted.0 counted.1
            none _ (put_back marks way.row v)

        -- there are no minutes: as a first look shows, or as raising finds
        pub given_fails : (cut : ℕ) → cut ≡ cut_of b → Fails m (set marks way.row v) t ds way cost cut →
            Walks l m marks y (way_part l m marks best y c) (set (set marks way.row v) way.row (get_or marks way.row 0)) best b
        given_fails cut cut-is h =
            no_raise
            (subst (NoRaise l c marks m) cut-is (h l c marks (way_chooses l m marks t ds cost g.tabled g.planned c way i v v-is m refl)))

      module _ (b : Tally) (counted : (b.delay ≡ y.delay) × (b.steps ≡ cut_off (y.steps + 1))) (q : List ℕ) (q-is : q ≡ m)
          (cut : ℕ) (cut-is : cut ≡ cut_of b) (n : List ℕ) (r : Option ℕ) (h : RaisesChoice q (set marks way.row v) t ds way cost cut n r) where
        raises : Raises l c marks m (cut_of b) n r
        raises =
            subst (λ (x : ℕ). Raises l c marks m x n r) cut-is
            (way_raises l m marks t ds cost g.tabled g.planned c way i v v-is q q-is cut n r h)

        pub given_dead : r ≡ None →
            Walks l m marks y (way_part l m marks best y c) (set (set marks way.row v) way.row (get_or marks way.row 0)) best b
        given_dead dead = no_raise b counted (raises.none dead)

        pub next_given : Alive r → Given l n (set marks way.row v) best t ds key layout (told_cost r) b
        next_given alive =
            record {
              tabled = g.tabled;
              keys = g.keys;
              layout_is = g.layout_is;
              planned = next_planned l m marks t ds cost g.tabled g.planned c way i v v-is q q-is cut n r h alive;
              tallied = tallied b counted;
            }

        pub given_alive : Alive r → (marks₂ best₂ : List ℕ) (z : Tally) →
            Walks l n (set marks way.row v) b (plan_part l n (set marks way.row v) best b) marks₂ best₂ z →
            Walks l m marks y (way_part l m marks best y c) (set marks₂ way.row (get_or marks way.row 0)) best₂ z
        given_alive alive marks₂ best₂ z k =
            walks_alive l g.tabled.within g.tabled.raisable.arrays m marks best cost y g.planned g.tallied c b counted.0 counted.1
            n (way-least l m marks t ds cost g.tabled g.planned c way i v v-is q q-is cut n r h alive)
            (next_falls l m marks t ds cost g.tabled g.planned c way i v v-is q q-is cut n r h alive)
            (set marks way.row v) (way_added l m marks t ds cost g.tabled g.planned c way i v v-is) marks₂ best₂ z k _
            (ap (λ (x : List ℕ). set x way.row (get_or marks way.row 0)) k.marks_same ∙ put_back marks way.row v)

-- ---- the next number, as the loop over the ways leaves it: the way was tried, or there is none

module _ (m marks best t ds key : List ℕ) (layout : Layout) (cost : ℕ) (y : Tally) (conflict : Option Conflict) (n : ℕ) (count_is : n ≡ way_count conflict)
    (k : ℕ) (low : k < n) (marks₁ best₁ : List ℕ) (r₁ : Tally) (inv : TriesFirst m marks best t ds key layout cost y conflict k marks₁ best₁ r₁)
    (way : Option Way) (told : TellsWay ds (way_of conflict k) way) (step : ℕ) (steps : Steps conflict k step) (marks₂ best₂ : List ℕ) (r₂ : Tally) where
  on_to : (l : Line) (marks' best' : List ℕ) (r' : Tally) → Walks l m marks y (ways_part l m marks best y conflict (k + 1)) marks' best' r' →
      Walks l m marks y (ways_part l m marks best y conflict (k + step)) marks' best' r'
  on_to l marks' best' r' h =
      let next : k + 1 + (step - 1) ≡ k + step = omega (arith, steps.on) in
      subst (λ (e : ℕ). Walks l m marks y (ways_part l m marks best y conflict e) marks' best' r') next
      (walks_skip l m marks best y conflict (k + 1) marks' best' r' h (step - 1) (λ j a b. steps.none_between j (omega arith) (omega arith)))

  pub tries_more : (one : Way) → way ≡ Some one → (marks' best' : List ℕ) (r' : Tally) → Tries m marks₁ best₁ t ds key layout cost r₁ one marks' best' r' →
      marks₂ ≡ marks' → best₂ ≡ best' → r₂ ≡ r' → TriesFirst m marks best t ds key layout cost y conflict (k + step) marks₂ best₂ r₂
  tries_more way some marks' best' r' h e f i l g is =
      let (c, one, tells) = way_there ds way (way_of conflict k) (subst (TellsWay ds (way_of conflict k)) some told) in
      let before = inv l g is in
      let there = is_way l g.tabled.within g.tabled.raisable.arrays m conflict is ds way n k count_is low c one tells in
      let again = given_after l m marks best t ds key layout cost y g _ marks₁ best₁ r₁ before in
      rw (e, f, i) (on_to l marks' best' r' (walks_more l m marks best y conflict k marks₁ best₁ r₁ before c one marks' best' r' (h l c again there)))

  pub tries_skip : way ≡ None → marks₂ ≡ marks₁ → best₂ ≡ best₁ → r₂ ≡ r₁ →
      TriesFirst m marks best t ds key layout cost y conflict (k + step) marks₂ best₂ r₂
  tries_skip none e f i l g is =
      let here : (j : ℕ) → j ≡ k → way_of conflict j ≡ [] = λ j same. rw same (way_absent ds (way_of conflict k) (subst (TellsWay ds (way_of conflict k)) none told)) in
      rw (e, f, i)
      (on_to l marks₁ best₁ r₁ (walks_skip l m marks best y conflict k marks₁ best₁ r₁ (inv l g is) 1 (λ j a b. here j (omega arith))))
