-- The least minutes that keep something, if there are any; `Keeps` says what is to be kept, and n is how many events there are.
use Rattle.std.specs.Prelude.{ℕ, ◌≡◌, List, length}
use Rattle.orders.specs.LeastMinutes.NoLater.{◌⊑◌, WithinDays}

pub data Least : Type 0 where
  minutes : List ℕ → Least
  none : Least

-- one minute for each event, all within the two days
pub record Fit (n : ℕ) (m : List ℕ) : Type 0 where
  pub size : length m ≡ n
  pub within : WithinDays m

-- `m` is the least at or above `s` that keeps it
pub record IsLeast (n : ℕ) (Keeps : List ℕ → Type 0) (s m : List ℕ) : Type 0 where
  pub fit : Fit n m
  pub keeps : Keeps m
  pub above : s ⊑ m
  pub first : (m' : List ℕ) → Fit n m' → Keeps m' → s ⊑ m' → m ⊑ m'

-- none at or above `s` keeps it
abbrev pub NoneKeeps : ℕ → (List ℕ → Type 0) → List ℕ → Type 0
NoneKeeps n Keeps s = (m' : List ℕ) → Fit n m' → Keeps m' → s ⊑ m' → ⊥
