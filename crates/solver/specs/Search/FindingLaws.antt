-- The laws of finding the best timetable in the terms of its contracts: each is what one way out of a function, or one call in it, asks for.
use Rattle.std.specs.Prelude.{ℕ, ◌<◌, ◌≡◌, refl, Option, Some, None, List}
use Rattle.std.proofs.Common.{sym, ◌∙◌, ap, subst, inl, arith}
use Rattle.line.specs.declared.Line.{Line}
use Rattle.line.specs.Within.{Within, Arrays}
use Rattle.rules.specs.Statement.Paths.{EachTrain}
use Rattle.rules.specs.Statement.Rules.{NotLate}
use Rattle.orders.specs.LeastMinutes.Least.{Fit}
use Rattle.orders.specs.Plan.Marks.{Plan, free}
use Rattle.orders.specs.Plan.Plans.{Keeps}
use Rattle.orders.specs.declared.first.FirstPlan.{FirstPlan}
use Rattle.plans.specs.Theory.BestSoFar.{BestSoFar, nothing}
use Rattle.plans.specs.Theory.Search.{Onward, Searched}
use Rattle.plans.specs.Theory.SearchLaws.{onward_then, searched_dead}
use Rattle.plans.specs.Instance.Planning.{planning}
use Rattle.plans.proofs.Instance.LineSearchedLaws.{searched_best, searched_nothing}
use Rattle.plans.specs.Clauses.FoundBest.{found_of, Finds}
use Rattle.plans.specs.Clauses.FoundBestLaws.{finds_of}
use Rattle.plans.proofs.Clauses.FirstLaws.{first_late}
use Rattle.plans.proofs.Clauses.NextPlansLaws.{recounted, recounted_best}
use Rattle.plans.specs.Clauses.Tallies.{best_by, best_of, Tallied}
use Rattle.plans.specs.declared.day.Day.{Day}
use Rattle.plans.specs.declared.found.Found.{Found}
use Rattle.plans.specs.declared.tally.Tally.{Tally}
use Rattle.solver.specs.Search.Searching.{Held, Sought}
use Rattle.solver.specs.Search.SearchingLaws.{held_after}
use Rattle.solver.specs.Search.Neighbourhood.{Searchable}
use Rattle.solver.specs.Search.Finding.{FirstHeld, CanFind, FindsBest, Improved, MayImprove, SearchedTo, Searches}

-- ---- a tally with no plan counted

abbrev pub AfreshOf : Tally → Tally → Type 0
AfreshOf y b = (b.delay ≡ y.delay) × (b.steps ≡ 0)

module _ (l : Line) (best : List ℕ) (y b : Tally) (afresh : AfreshOf y b) where
  afresh_tallied : Tallied l best y → Tallied l best b
  afresh_tallied = recounted l best y b afresh.0 (omega (arith, afresh.1))

  afresh_best : best_of b best ≡ best_of y best
  afresh_best = recounted_best l best y b afresh.0

  pub afresh_held : (m marks : List ℕ) (d : Day) (cost : ℕ) → Held l m marks best d cost y →
      Held l m marks best d cost b
  afresh_held m marks d cost h = held_after l m marks best d cost None y h marks best b refl (afresh_tallied h.given.tallied)

  -- a plan made from the first is one to search
  pub near_held : (f : FirstPlan) (d : Day) → FirstHeld l f best d y → (marks q : List ℕ) (c : ℕ) →
      Searchable l marks q c → Held l q marks best d c b
  near_held f d h marks q c s =
      let g = h.given in
      record {
        given = record {
          tabled = g.tabled;
          keys = g.keys;
          layout_is = g.layout_is;
          planned = s.planned;
          tallied = afresh_tallied g.tallied;
        };
        under = s.under;
      }

  -- nothing was found
  pub improved_none : Tallied l best y → Improved l best y best b
  improved_none t = record { tallied = afresh_tallied t; onward = inl afresh_best }

  -- what a search of any plan found
  pub improved_sought : (p : Plan) (marks : List ℕ) (limit : Option ℕ) (marks' best' : List ℕ) (r : Tally) → Sought l p marks best limit b marks' best' r →
      Improved l best y best' r
  improved_sought p marks limit marks' best' r s =
      record { tallied = s.tallied; onward = subst (λ (x : BestSoFar). Onward (planning l) x (best_of r best')) afresh_best s.onward }

  pub searched_sought : (limit : Option ℕ) (marks' best' : List ℕ) (r : Tally) → Sought l free free best limit b marks' best' r → SearchedTo l best limit y best' r
  searched_sought limit marks' best' r s = record { improved = improved_sought free free limit marks' best' r s; none_better = s.none_better }

pub first_searchable : (l : Line) (f : FirstPlan) (best : List ℕ) (d : Day) (y : Tally) → FirstHeld l f best d y → (q : List ℕ) → q ≡ f.minutes →
    Searchable l free q f.cost
first_searchable l f best d y h q same =
    subst (λ (x : List ℕ). Searchable l free x f.cost) (sym same) (record { planned = h.given.planned; under = h.under })

-- ---- one after another

pub improves-same : (f : FirstPlan) (best : List ℕ) (d : Day) (y : Tally) → MayImprove f best d y best y
improves-same f best d y l h = record { tallied = h.given.tallied; onward = inl refl }

module _ (f : FirstPlan) (best : List ℕ) (d : Day) (y : Tally) where
  pub searches_improves : (limit : Option ℕ) (best₁ : List ℕ) (r₁ : Tally) → Searches f best d limit y best₁ r₁ →
      MayImprove f best d y best₁ r₁
  searches_improves limit best₁ r₁ s l h = (s l h).improved

  -- a search that ended below its limit went to its end
  pub searches_below : (limit : ℕ) (best₁ : List ℕ) (r₁ : Tally) → r₁.steps < limit → Searches f best d (Some limit) y best₁ r₁ →
      Searches f best d None y best₁ r₁
  searches_below limit best₁ r₁ low s l h = record { improved = (s l h).improved; none_better = λ _. (s l h).none_better low }

  module _ (best₁ : List ℕ) (r₁ : Tally) (i : MayImprove f best d y best₁ r₁) where
    first-after : (l : Line) → FirstHeld l f best d y → FirstHeld l f best₁ d r₁
    first-after l h = held_after l f.minutes free best d f.cost None y h free best₁ r₁ refl (i l h).tallied

    pub find_after : CanFind f best d y → CanFind f best₁ d r₁
    find_after h = record { line = h.line; first = first-after h.line h.first }

    pub improves_then : (best₂ : List ℕ) (r₂ : Tally) → MayImprove f best₁ d r₁ best₂ r₂ → MayImprove f best d y best₂ r₂
    improves_then best₂ r₂ j l h =
        let after = j l (first-after l h) in
        record {
          tallied = after.tallied;
          onward = onward_then (planning l) (best_of y best) (best_of r₁ best₁) (best_of r₂ best₂) (i l h).onward after.onward;
        }

    pub searches_then : (limit : Option ℕ) (best₂ : List ℕ) (r₂ : Tally) → Searches f best₁ d limit r₁ best₂ r₂ →
        Searches f best d limit y best₂ r₂
    searches_then limit best₂ r₂ s l h =
        record {
          improved = improves_then best₂ r₂ (λ k g. (s k g).improved) l h;
          none_better = (s l (first-after l h)).none_better;
        }

-- ---- the line

module _ (l : Line) (w : Within l) (a : Arrays l) where
  -- what a search of everything ends with
  pub finds_searched : (best : List ℕ) (y : Tally) (best' : List ℕ) (r : Tally) → y.delay ≡ None → SearchedTo l best None y best' r →
      FindsBest l (found_of r best').best
  finds_searched best y best' r none_yet s = go r.delay refl
    where
      searched : (delay : Option ℕ) → r.delay ≡ delay → Searched (planning l) free nothing (best_by delay best')
      searched delay e =
          subst (λ (x : BestSoFar). Searched (planning l) free nothing x) (ap (λ (x : Option ℕ). best_by x best') e)
          (subst (λ (x : BestSoFar). Searched (planning l) free x (best_of r best')) (ap (λ (x : Option ℕ). best_by x best) none_yet)
          (record { onward = s.improved.onward; none_better = s.none_better tt }))

      go : (delay : Option ℕ) → r.delay ≡ delay → FindsBest l (found_of r best').best
      go delay e =
          subst (λ (x : Option ℕ). FindsBest l (found_of (record { delay = x; steps = 0 }) best').best) (sym e)
          (finds_of l best' 0 delay
          (λ c is. searched_best l w a best' (subst (λ (x : Option ℕ). Searched (planning l) free nothing (best_by x best')) is (searched delay e)))
          (λ c is. s.improved.tallied.delay_is c (e ∙ is))
          (λ is. searched_nothing l w a (subst (λ (x : Option ℕ). Searched (planning l) free nothing (best_by x best')) is (searched delay e))))

  -- no minutes of the first plan are in time
  pub finds_nothing : ((m : List ℕ) → Fit 352 m → Keeps l free m → EachTrain l (NotLate l m) → ⊥) → (r : Found) → r.best ≡ None → Finds l r
  finds_nothing late r none_found =
      record {
        best = λ x e. absurd (cc);
        delay_is = λ x e. absurd (cc);
        none = λ _. searched_nothing l w a (searched_dead (planning l) free nothing (first_late l w a late));
      }
