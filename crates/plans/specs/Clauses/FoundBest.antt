-- What is found of a line: its best timetable with its delay, or that no timetable keeps every rule.
use Rattle.std.specs.Prelude.{ℕ, ◌≡◌, List, Some, None, option_map}
use Rattle.line.specs.declared.Line.{Line}
use Rattle.rules.specs.Statement.Rules.{Lawful}
use Rattle.rules.specs.Statement.Delay.{weighted_delay, Best}
use Rattle.plans.specs.declared.tally.Tally.{Tally}
use Rattle.plans.specs.declared.found.Best.{Best as FoundBest}
use Rattle.plans.specs.declared.found.Found.{Found}

-- by a search that ends with this tally and these minutes beside it
abbrev pub found_of : Tally → List ℕ → Found
found_of y best = record { best = option_map (λ (c : ℕ). record { minutes = best; delay = c }) y.delay; steps = y.steps }

pub record Finds (l : Line) (r : Found) : Type 0 where
  pub best : (x : FoundBest) → r.best ≡ Some x → Best l x.minutes
  pub delay_is : (x : FoundBest) → r.best ≡ Some x → x.delay ≡ weighted_delay l x.minutes
  pub none : r.best ≡ None → (m : List ℕ) → Lawful l m → ⊥
