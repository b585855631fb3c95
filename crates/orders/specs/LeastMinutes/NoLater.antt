-- Minutes, one entry to an event, compared event by event; the slack, which falls as minutes rise.
use Rattle.std.specs.Prelude.{ℕ, ◌+◌, ◌-◌, ◌≤◌, List, [], ◌∷◌, get_or}

infix 40 ◌⊑◌
-- no event of `a` is later than it is in `b`
abbrev pub ◌⊑◌ : List ℕ → List ℕ → Type 0
a ⊑ b = (e : ℕ) → get_or a e 0 ≤ get_or b e 0

-- every event lies in the two days: "whole minutes from 0 to 2,879"
abbrev pub WithinDays : List ℕ → Type 0
WithinDays m = (e : ℕ) → get_or m e 0 ≤ 2879

-- how far the minutes, all together, can still rise
unfoldable pub slack : List ℕ → ℕ
slack [] = 0
slack (x ∷ xs) = (2880 - x) + slack xs
