-- The laws of forced choices: each is what one way out of a function, or one call in it, asks for.
use Rattle.std.specs.Prelude.{ℕ, ◌<◌, ◌≡◌, ◌⊎◌, refl, Bool, true, not, get_or, set, Option, Some, None}
use Rattle.std.proofs.Common.{sym, ◌∙◌, subst, inl, inr, ⊎_elim, arith}
use mathlib.Core.List.Memᴰ
use mathlib.Core.List.{List, Memᴰ}
use Rattle.std.proofs.lemmas.Bool.{not-true}
use Rattle.line.specs.declared.Line.{Line}
use Rattle.rules.specs.declared.conflicts.Conflict.{Conflict}
use Rattle.rules.specs.Conflict.Conflicts.{layout_of}
use Rattle.orders.specs.Plan.Choices.{Choice}
use Rattle.orders.specs.Plan.Marks.{Plan, also}
use Rattle.orders.specs.Lift.Lifting.{Alive}
use Rattle.orders.specs.Lift.LiftingLaws.{some_alive}
use Rattle.plans.specs.Theory.Problem.{Laws}
use Rattle.plans.specs.Theory.BestSoFar.{improves_false}
use Rattle.plans.specs.Theory.Search.{NoneBetter, Narrows}
use Rattle.plans.specs.Theory.SearchLaws.{none_worse, none_split, narrows_forced, narrows_all, narrows_rest, narrows_then, none_narrows, under_least, under_also}
use Rattle.plans.specs.Conflict.Ways.{way_of, way_count, ways_of}
use Rattle.plans.proofs.Conflict.WaysLaws.{way-number}
use Rattle.plans.specs.Clauses.WaysTold.{TellsWay}
use Rattle.plans.specs.Conflict.RealConflicts.{Real}
use Rattle.plans.proofs.Conflict.SplitsLaws.{conflict_splits}
use Rattle.plans.specs.Instance.Planning.{planning}
use Rattle.plans.proofs.Instance.LineSearchedLaws.{planning_laws}
use Rattle.plans.specs.Clauses.Keys.{better_by}
use Rattle.plans.specs.Clauses.Tallies.{best_of, cut_of}
use Rattle.plans.specs.Clauses.Choosing.{Tabled, Planned, Given, NoRaise, Raises, IsWay}
use Rattle.plans.proofs.Clauses.TryingLaws.{way_there, way_absent, way_of_real}
use Rattle.plans.proofs.Clauses.NextPlansLaws.{none_raised, child_planned, child_above}
use Rattle.plans.proofs.Clauses.GivenLaws.{told}
use Rattle.plans.specs.declared.day.Day.{Day}
use Rattle.plans.specs.declared.tally.Tally.{Tally}
use Rattle.plans.specs.declared.ways.Way.{Way}
use Rattle.solver.specs.Selection.Pricing.{PricesWays, Cheapest}
use Rattle.solver.specs.Selection.PricingLaws.{set_cases, only}
use Rattle.solver.specs.Selection.Selecting.{ChoosesOne}
use Rattle.solver.specs.Search.Searching.{Held, CanTry}
use Rattle.solver.specs.Lookahead.Forcing.{CanSettle, Settles, AllDead, OneLeft, Narrowed, Says, Forces}
use Rattle.solver.specs.declared.forcing.Forced.{Forced}

-- ---- a choice is made

pub can_settle : (m marks best : List ℕ) (d : Day) (cost : ℕ) (y : Tally) (way : Way) → CanTry m marks best d cost y way → CanSettle m marks d way cost
can_settle m marks best d cost y way h =
    record {
      line = h.line;
      choice = h.choice;
      tabled = h.held.given.tabled;
      planned = h.held.given.planned;
      is_way = h.is_way;
    }

-- ---- the next forced choice

-- none is
pub forces_none : (m marks : List ℕ) (d : Day) (cost cut : ℕ) (marks' : List ℕ) (r : Forced) → marks' ≡ marks → r ≡ Forced.Over →
    Forces m marks d cost cut marks' r
forces_none m marks d cost cut marks' r same not-forced =
    record { marks_same = same; says = λ l _ _ _. subst (λ (x : Forced). Says l m marks d.ds cut x) (sym not-forced) tt }

module _ (m marks : List ℕ) (d : Day) (cost cut : ℕ) (marks₁ : List ℕ) (conflict : Conflict) (chosen : ChoosesOne m marks d marks₁ (Some conflict))
    (n : ℕ) (n-is : n ≡ way_count (Some conflict)) (marks₂ : List ℕ) (prices : List (Option ℕ))
    (priced : PricesWays m marks₁ d cost cut (Some conflict) marks₂ prices)
    (l : Line) (tabled : Tabled l d.tables d.ds) (planned : Planned l marks m cost) (layout_is : d.layout ≡ layout_of l) where
  pub real_of : Real l m (Some conflict)
  real_of = (chosen.chosen l tabled.within tabled.raisable.arrays layout_is tabled.raisable.directions).real

  dead_at : (k : ℕ) → k < n → get_or prices k None ≡ None → (c : Choice) → Memᴰ c (way_of (Some conflict) k) → NoRaise l c marks m cut
  dead_at k low dead c there =
      subst (λ (q : List ℕ). NoRaise l c q m cut) chosen.marks_same
      (priced.dead l tabled (subst (λ (q : List ℕ). Planned l q m cost) (sym chosen.marks_same) planned) real_of k (omega arith) dead c there)

  -- no number is alive
  pub all_dead : Cheapest prices n None → AllDead l m marks cut
  all_dead next =
      record {
        conflict = conflict;
        real = real_of;
        dead = λ c there. let (k, low, here) = way-number (Some conflict) c there in
            let low' : k < n = omega arith in
            dead_at k low' (next.none_left refl k low') c here;
      }

  -- but for number w none is alive
  module _ (w : ℕ) (low : w < n) (next : Cheapest (set prices w None) n None) where
    other_dead : (c : Choice) → Memᴰ c (ways_of (Some conflict)) → Memᴰ c (way_of (Some conflict) w) ⊎ NoRaise l c marks m cut
    other_dead c there =
        let (k, few, here) = way-number (Some conflict) c there in
        let few' : k < n = omega arith in
        ⊎_elim
        (λ e. inl (subst (λ (j : ℕ). Memᴰ c (way_of (Some conflict) j)) e.0 here))
        (λ e. inr (dead_at k few' (sym e ∙ next.none_left refl k few') c here))
        (set_cases prices w None k)

    pub none_left : TellsWay d.ds (way_of (Some conflict) w) None → AllDead l m marks cut
    none_left tells =
        record {
          conflict = conflict;
          real = real_of;
          dead = λ c there.
              ⊎_elim (λ h. absurd (Memᴰ.not-nil (subst (Memᴰ c) (way_absent d.ds (way_of (Some conflict) w) tells) h))) (λ h. h) (other_dead c there);
        }

    pub one_left : (way : Way) → TellsWay d.ds (way_of (Some conflict) w) (Some way) → OneLeft l m marks d.ds cut way
    one_left way tells =
        let (x, one, tells-x) = way_there d.ds way (way_of (Some conflict) w) tells in
        record {
          conflict = conflict;
          real = real_of;
          choice = x;
          is_way = way_of_real l tabled.within tabled.raisable.arrays m (Some conflict) real_of d.ds way n w n-is low x one tells-x;
          others = λ c there. ⊎_elim (λ h. inl (only (subst (Memᴰ c) one h))) (λ h. inr h) (other_dead c there);
        }

-- ---- a plan with its forced choices

module _ (l : Line) (p : Plan) (m marks best : List ℕ) (d : Day) (cost : ℕ) (y : Tally) (followed : Narrowed l p m marks best d (Some cost) y) where
  abbrev h : Held l m marks best d cost y
  h = followed.0

  abbrev g : Given l m marks best d.tables d.ds d.key d.layout cost y
  g = h.given

  abbrev L : Laws (planning l)
  L = planning_laws l g.tabled.within g.tabled.raisable.arrays

  -- nothing better keeps its marks, so nothing better is in it
  nothing_in : NoneBetter (planning l) marks (best_of y best) → NoneBetter (planning l) p (best_of y best)
  nothing_in n = none_narrows (planning l) L p marks (best_of y best) followed.1 n

  pub followed_worse : (r : Bool) → r ≡ better_by d.key m cost best y → not r ≡ true → NoneBetter (planning l) p (best_of y best)
  followed_worse r r-is n =
      nothing_in
      (none_worse (planning l) L marks m (best_of y best) h.under
      (improves_false (planning l) m (best_of y best) (told l m marks best d.tables d.ds d.key d.layout cost y g r r-is ∙ not-true r n)))

  module _ (cut : ℕ) (cut-is : cut ≡ cut_of y) where
    none_of : (c : Choice) → NoRaise l c marks m cut → NoneBetter (planning l) (also c marks) (best_of y best)
    none_of c none =
        none_raised l g.tabled.within g.tabled.raisable.arrays c marks m best y h.under g.tallied (subst (NoRaise l c marks m) cut-is none)

    pub followed_dead : AllDead l m marks cut → NoneBetter (planning l) p (best_of y best)
    followed_dead a =
        nothing_in
        (none_split (planning l) L marks m (ways_of (Some a.conflict))
        (conflict_splits l g.tabled.within g.tabled.raisable.arrays marks m (Some a.conflict) a.real (λ e. absurd (cc))) (best_of y best)
        (λ c there. none_of c (a.dead c there)))

    -- a choice that narrows the plan no further is made
    module _ (c : Choice) (way : Way) (i : IsWay l m d.ds c way) (in-child : Narrows (planning l) p (also c marks) (best_of y best))
        (m' marks' : List ℕ) where
      followed_choice : (r : Option ℕ) → Raises l c marks m cut m' r → marks' ≡ also c marks → Narrowed l p m' marks' best d r y
      followed_choice None raises same = none_narrows (planning l) L p (also c marks) (best_of y best) in-child (none_of c (raises.none refl))
      followed_choice (Some v) raises same =
          let alive : Alive (Some v) = some_alive refl in (
            subst (λ (q : List ℕ). Held l m' q best d v y) (sym same)
                (record {
                  given = record {
                    tabled = g.tabled;
                    keys = g.keys;
                    layout_is = g.layout_is;
                    planned = child_planned l c marks m cost g.planned cut m' (Some v) raises g.tabled.within i.fitting alive;
                    tallied = g.tallied;
                  };
                  under =
                      under_least (planning l) L (also c marks) m m' (under_also (planning l) L c marks m h.under)
                      (child_above l c marks m cost g.planned cut m' (Some v) raises alive);
                }),
            subst (λ (q : Plan). Narrows (planning l) p q (best_of y best)) (sym same) in-child,
          )

    -- it is the forced one
    pub followed_more : (way : Way) → OneLeft l m marks d.ds cut way → (marks₁ : List ℕ) → marks₁ ≡ marks → (m' marks' : List ℕ) (r : Option ℕ) →
        Settles m marks₁ d way cost cut m' marks' r → Narrowed l p m' marks' best d r y
    followed_more way one marks₁ same m' marks' r settles =
        let settles' : Settles m marks d way cost cut m' marks' r = subst (λ (q : List ℕ). Settles m q d way cost cut m' marks' r) same settles in
        let settled = settles' l one.choice g.tabled g.planned one.is_way in
        followed_choice one.choice way one.is_way
        (narrows_then (planning l) L p marks (also one.choice marks) (best_of y best) followed.1
        (narrows_forced (planning l) L marks m (ways_of (Some one.conflict))
        (conflict_splits l g.tabled.within g.tabled.raisable.arrays marks m (Some one.conflict) one.real (λ e. absurd (cc))) (best_of y best) one.choice
        (λ c there. ⊎_elim (λ e. inl e) (λ none. inr (none_of c none)) (one.others c there))))
        m' marks' r settled.0 settled.1

-- the choice that is looked at
pub followed_first : (l : Line) (m marks best : List ℕ) (d : Day) (cost : ℕ) (y : Tally) → Held l m marks best d cost y → (cut : ℕ) → cut ≡ cut_of y →
    (c : Choice) (way : Way) → IsWay l m d.ds c way → (m' marks' : List ℕ) (r : Option ℕ) → Settles m marks d way cost cut m' marks' r →
    Narrowed l (also c marks) m' marks' best d r y
followed_first l m marks best d cost y h cut cut-is c way i m' marks' r settles =
    let L = planning_laws l h.given.tabled.within h.given.tabled.raisable.arrays in
    let settled = settles l c h.given.tabled h.given.planned i in
    followed_choice l (also c marks) m marks best d cost y (h, narrows_rest (planning l) L c marks (best_of y best)) cut cut-is c way i
    (narrows_all (planning l) L (also c marks) (best_of y best)) m' marks' r settled.0 settled.1

-- what is not dead is a plan to search
pub followed_alive : (l : Line) (p : Plan) (m marks best : List ℕ) (d : Day) (r : Option ℕ) (cost : ℕ) (y : Tally) → r ≡ Some cost →
    Narrowed l p m marks best d r y → Held l m marks best d cost y × Narrows (planning l) p marks (best_of y best)
followed_alive l p m marks best d r cost y alive f = subst (λ (x : Option ℕ). Narrowed l p m marks best d x y) alive f

-- what is dead holds nothing better
pub followed_none : (l : Line) (p : Plan) (m marks best : List ℕ) (d : Day) (r : Option ℕ) (y : Tally) → r ≡ None →
    Narrowed l p m marks best d r y → NoneBetter (planning l) p (best_of y best)
followed_none l p m marks best d r y dead f = subst (λ (x : Option ℕ). Narrowed l p m marks best d x y) dead f
