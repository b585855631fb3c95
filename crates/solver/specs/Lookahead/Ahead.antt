-- The contracts of looking ahead: what is chosen is a conflict, and a way priced as dead holds nothing better than the best so far.
use Rattle.std.specs.Prelude.{ℕ, ◌≡◌, List, Option}
use Rattle.rules.specs.declared.conflicts.Conflict.{Conflict}
use Rattle.plans.specs.Conflict.Ways.{way_count}
use Rattle.plans.specs.declared.day.Day.{Day}
use Rattle.plans.specs.declared.tally.Tally.{Tally}
use Rattle.solver.specs.Lookahead.Forcing.{PricesForcedBelow}

-- of the first n numbers those priced as dead have ways that hold nothing better
pub record PricesBetterBelow (m marks best : List ℕ) (d : Day) (cost : ℕ) (y : Tally) (conflict : Option Conflict) (n : ℕ) (marks' : List ℕ)
    (prices : List (Option ℕ)) : Type 0 where
  pub marks_same : marks' ≡ marks
  pub dead : PricesForcedBelow m marks best d cost y conflict n prices

-- of all
abbrev pub PricesBetter : List ℕ → List ℕ → List ℕ → Day → ℕ → Tally → Option Conflict → List ℕ → List (Option ℕ) → Type 0
PricesBetter m marks best d cost y conflict marks' prices = PricesBetterBelow m marks best d cost y conflict (way_count conflict) marks' prices
