-- The laws of looking ahead: each is what one way out of a function, or one call in it, asks for.
use Rattle.std.specs.Prelude.{ℕ, ◌≡◌, List, Option, Some, None}
use Rattle.std.proofs.Common.{◌∙◌, subst}
use Rattle.rules.specs.declared.conflicts.Conflict.{Conflict}
use Rattle.plans.specs.Clauses.Choosing.{NoRaise}
use Rattle.plans.specs.Clauses.Tallies.{cut_of}
use Rattle.plans.proofs.Clauses.NextPlansLaws.{none_raised}
use Rattle.plans.specs.declared.day.Day.{Day}
use Rattle.plans.specs.declared.tally.Tally.{Tally}
use Rattle.solver.specs.Selection.Pricing.{CanPriceWays, PricesBelow}
use Rattle.solver.specs.Selection.Selecting.{CanSelect, ChoosesOne, KnownReal, FindsReal}
use Rattle.solver.specs.Selection.SelectingLaws.{some_chosen}
use Rattle.solver.specs.Search.Searching.{CanTakeUp, CanTryAll}
use Rattle.solver.specs.Search.SearchingLaws.{held_by}
use Rattle.solver.specs.Lookahead.Ahead.{PricesBetterBelow}

-- ---- a plan to look ahead from

module _ (m marks best : List ℕ) (d : Day) (cost : ℕ) (y : Tally) (h : CanTakeUp m marks best d cost y) where
  pub look_select : CanSelect m marks d cost
  look_select =
      let g = h.held.given in
      record { line = h.line; tabled = g.tabled; planned = g.planned; layout_is = g.layout_is }

  -- its marks may come back
  pub look-after : (marks' : List ℕ) → marks' ≡ marks → CanTakeUp m marks' best d cost y
  look-after marks' same = record { line = h.line; held = held_by h.line m marks best d cost None y h.held marks' same }

  -- the ways out of its conflicts may be tried
  pub look_try : (conflict : Conflict) → KnownReal m d (Some conflict) → CanTryAll m marks best d cost y conflict
  look_try conflict real =
      let g = h.held.given in
      record {
        line = h.line;
        held = h.held;
        real = real h.line g.tabled.within g.tabled.raisable.arrays g.layout_is g.tabled.raisable.directions;
      }

-- ---- what is found

module _ (m marks : List ℕ) (d : Day) where
  -- the marks were as before already
  pub finds_from : (marks₁ : List ℕ) → marks₁ ≡ marks → (marks₂ : List ℕ) (c : Option Conflict) → FindsReal m marks₁ d marks₂ c →
      FindsReal m marks d marks₂ c
  finds_from marks₁ same marks₂ c h = record { marks_same = h.marks_same ∙ same; real = h.real }

  -- one that is there is one to settle
  pub finds_chosen : (marks₁ marks₂ : List ℕ) → marks₁ ≡ marks → (c : Option Conflict) → FindsReal m marks₁ d marks₂ c → (c ≡ None → ⊥) →
      ChoosesOne m marks d marks₂ c
  finds_chosen marks₁ marks₂ same c h some = record { marks_same = h.marks_same ∙ same; chosen = some_chosen d m c h.real some }

  -- it stays so with the same marks
  pub chosen_after : (marks₁ : List ℕ) (c : Option Conflict) → ChoosesOne m marks d marks₁ c → (marks₂ : List ℕ) → marks₂ ≡ marks₁ →
      ChoosesOne m marks d marks₂ c
  chosen_after marks₁ c h marks₂ same = record { marks_same = same ∙ h.marks_same; chosen = h.chosen }

-- ---- prices

pub try_price : (m marks best : List ℕ) (d : Day) (cost : ℕ) (y : Tally) (conflict : Conflict) → CanTryAll m marks best d cost y conflict →
    CanPriceWays m marks d cost (Some conflict)
try_price m marks best d cost y conflict h =
    let g = h.held.given in record { line = h.line; tabled = g.tabled; planned = g.planned; real = h.real }

-- a way that is dead within the cut holds nothing better
pub prices_better : (m marks best : List ℕ) (d : Day) (cost cut : ℕ) (y : Tally) → cut ≡ cut_of y → (conflict : Option Conflict)
    (n : ℕ) (marks' : List ℕ) (prices : List (Option ℕ)) → PricesBelow m marks d cost cut conflict n marks' prices →
    PricesBetterBelow m marks best d cost y conflict n marks' prices
prices_better m marks best d cost cut y cut-is conflict n marks' prices e =
    record {
      marks_same = e.marks_same;
      dead = λ l h real k b dead c there.
          let g = h.given in
          none_raised l g.tabled.within g.tabled.raisable.arrays c marks m best y h.under g.tallied
          (subst (NoRaise l c marks m) cut-is (e.dead l g.tabled g.planned real k b dead c there));
    }
