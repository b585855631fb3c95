-- What may be asked (document 02, K5): "A list that is empty, too long, not rising or past 2,879, fewer lent entries than minutes, or a train not in the file,
-- is 22 with place 0".
use Rattle.std.specs.Prelude.{ℕ, ◌+◌, ◌≤◌, ◌<◌, List, length, get_or}
use Rattle.finite.specs.Below.{EachBelow}

-- "up to 24 earliest departures"
abbrev pub most_minutes : ℕ
most_minutes = 24

-- "the rising list of minutes": of the first n, each is before the next
abbrev pub RisingTo : ℕ → List ℕ → Type 0
RisingTo n minutes = (k : ℕ) → k + 1 < n → get_or minutes k 0 < get_or minutes (k + 1) 0

abbrev pub Rising : List ℕ → Type 0
Rising minutes = RisingTo (length minutes) minutes

-- "past 2,879" it has none
abbrev pub AllTimes : List ℕ → Type 0
AllTimes minutes = EachBelow (length minutes) (λ k. get_or minutes k 0 ≤ 2879)

-- a list of minutes that may be asked for a train, by its number, on a line of so many trains, with so many entries lent
pub record Asked (trains train : ℕ) (minutes : List ℕ) (entries : ℕ) : Type 0 where
  pub some : 1 ≤ length minutes
  pub few : length minutes ≤ most_minutes
  pub rising : Rising minutes
  pub days : AllTimes minutes
  pub room : length minutes ≤ entries
  pub there : (1 ≤ train) × (train ≤ trains)
