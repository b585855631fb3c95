-- What the steps of raising one leg answer: its new departure and arrival, whether the source rises, and when another train may go behind it.
use Rattle.std.specs.Prelude.{ℕ, ◌+◌, ◌*◌, ◌-◌, ◌≤◌, ◌<◌, ◌≡◌, ◌⊎◌, Bool, true, false, cond, List, length, get_or}
use Rattle.orders.specs.LeastMinutes.NoLater.{WithinDays}
use Rattle.orders.specs.LineTables.Tables.{table_size, weight_in, due_in, following_in, opposing_in}
use Rattle.orders.specs.Graph.LegGraph.{doubled, gap_in}

-- r is the least departure, no earlier than d and v, from which the run arrives at w or later
pub record Departs (d v w run r : ℕ) : Type 0 where
  pub old : d ≤ r
  pub asked : v ≤ r
  pub near : w ≤ r + run
  pub one : (r ≡ d) ⊎ ((r ≡ v) ⊎ (r + run ≡ w))

-- r is the least arrival, no earlier than a and w and the end of the run from departure d
pub record Arrives (a w d run r : ℕ) : Type 0 where
  pub old : a ≤ r
  pub asked : w ≤ r
  pub ran : d + run ≤ r
  pub one : (r ≡ a) ⊎ ((r ≡ w) ⊎ (r ≡ d + run))

-- the answer r tells whether the event `src` is one of leg e's two and rises with them
pub record SourceRises (src e d departure a arrival : ℕ) (r : Bool) : Type 0 where
  pub yes : r ≡ true → ((src ≡ e) × (d < departure)) ⊎ ((src ≡ 176 + e) × (a < arrival))
  pub no : r ≡ false → (src ≡ e → departure ≤ d) × (src ≡ 176 + e → arrival ≤ a)

-- what it costs more that leg e arrives at b and not at a
abbrev pub more_cost : List ℕ → ℕ → ℕ → ℕ → ℕ
more_cost t e a b = weight_in t e * ((b - due_in t e) - (a - due_in t e))

-- ---- train j behind the train of leg e

-- the tables are of a shape by which a train behind another can be told its minutes
pub record CanGoBehind (m t ds : List ℕ) (e j : ℕ) : Type 0 where
  pub size : length m ≡ 352
  pub tables_size : length t ≡ table_size
  pub directions_size : length ds ≡ 176
  pub within : WithinDays m
  pub gap-most : (p : ℕ) → p < 11 → (following_in t p ≤ 60) × (opposing_in t p ≤ 60)
  pub leg : e < 176
  pub train : j < 12

-- train j may depart at v, and arrive at w (0: whenever)
abbrev pub GoesBehind : List ℕ → List ℕ → List ℕ → ℕ → ℕ → ℕ → ℕ → Type 0
GoesBehind m t ds e j v w =
    ((doubled t ds e j ≡ true) × (v ≡ get_or m e 0 + gap_in t ds e j) × (w ≡ get_or m (176 + e) 0 + gap_in t ds e j)) ⊎
    ((doubled t ds e j ≡ false) × (v ≡ get_or m (176 + e) 0 + gap_in t ds e j) × (w ≡ 0))

-- the event from which the choice "train j behind that of leg e" asks for a departure
abbrev pub source_of : List ℕ → List ℕ → ℕ → ℕ → ℕ
source_of t ds e j = cond (doubled t ds e j) e (176 + e)
