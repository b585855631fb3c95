-- The best so far as the program carries it: a tally, and the minutes beside it.
use Rattle.std.specs.Prelude.{ℕ, ◌≤◌, ◌<◌, min, ◌≡◌, List, length, Option, Some, None, unwrap_or}
use Rattle.line.specs.declared.Line.{Line}
use Rattle.rules.specs.Statement.Delay.{weighted_delay}
use Rattle.plans.specs.Theory.BestSoFar.{BestSoFar, nothing, found}
use Rattle.plans.specs.declared.tally.Tally.{Tally}

abbrev pub best_by : Option ℕ → List ℕ → BestSoFar
best_by (Some c) best = found best
best_by None best = nothing

abbrev pub best_of : Tally → List ℕ → BestSoFar
best_of y best = best_by y.delay best

-- the delay that a timetable may have at most to be looked at
abbrev pub cut_of : Tally → ℕ
cut_of y = unwrap_or y.delay 4294967294

-- a number of plans, cut off where the program's numbers end
abbrev pub cut_off : ℕ → ℕ
cut_off n = min n 4294967295

-- the delay of the best so far, if there is one, is not the last number of its type; no timetable costs as much
abbrev pub DelayLow : Tally → Type 0
DelayLow y = (c : ℕ) → y.delay ≡ Some c → c < 4294967295

-- the tally is that of these minutes, if there is a best so far
pub record Tallied (l : Line) (best : List ℕ) (y : Tally) : Type 0 where
  pub size : length best ≡ 352
  pub delay_is : (c : ℕ) → y.delay ≡ Some c → c ≡ weighted_delay l best
  pub steps_low : y.steps ≤ 4294967295
