-- Rules of the form "this event is at least so long after that one", less a leeway, and a round of raising for a list of them.
use Rattle.std.specs.Prelude.{ℕ, ◌+◌, ◌-◌, ◌≤◌, ◌<◌, max, List, [], ◌∷◌, get_or, set}
use Rattle.finite.specs.Each.{Each}

-- `to` is at least `wait` after `from`, less what is allowed: from + wait ≤ to + allow
pub record Arc : Type 0 where
  pub from : ℕ
  pub to : ℕ
  pub wait : ℕ
  pub allow : ℕ

abbrev pub KeepsArc : List ℕ → Arc → Type 0
KeepsArc m a = get_or m a.from 0 + a.wait ≤ get_or m a.to 0 + a.allow

abbrev pub KeepsArcs : List Arc → List ℕ → Type 0
KeepsArcs rs m = Each (KeepsArc m) rs

-- every arc ends at one of n events
abbrev pub AllIn : List Arc → ℕ → Type 0
AllIn rs n = Each (λ a. a.to < n) rs

-- when the arc lets its end be, at the earliest
abbrev pub due : Arc → List ℕ → ℕ
due a m = max (get_or m a.to 0) (get_or m a.from 0 + a.wait - a.allow)

unfoldable pub pull : Arc → List ℕ → List ℕ
pull a m = set m a.to (due a m)

-- one round: each arc in turn
unfoldable pub pull_all : List Arc → List ℕ → List ℕ
pull_all [] m = m
pull_all (a ∷ rs) m = pull_all rs (pull a m)
