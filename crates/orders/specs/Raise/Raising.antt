-- What raising minutes over arcs promises, for any graph of arcs, any limits and any cost.
use Rattle.std.specs.Prelude.{ℕ, ◌+◌, ◌≤◌, ◌<◌, ◌≡◌, ◌⊎◌, List, length, get_or}
use Rattle.orders.specs.LeastMinutes.NoLater.{◌⊑◌, WithinDays}

-- arcs by name, which of them are there, and what they ask: from + wait ≤ to + allow; and which of them a raising from a source may leave to one of their
-- own that follows it
pub record Graph : Type 1 where
  pub Arc : Type 0
  pub Used : Arc → Type 0
  pub from : Arc → ℕ
  pub to : Arc → ℕ
  pub wait : Arc → ℕ
  pub allow : Arc → ℕ
  pub Later : ℕ → Arc → Type 0

abbrev pub Kept : (G : Graph) → List ℕ → G.Arc → Type 0
Kept G m a = get_or m (G.from a) 0 + G.wait a ≤ get_or m (G.to a) 0 + G.allow a

unfoldable pub KeepsAll : Graph → List ℕ → Type 0
KeepsAll G m = (a : G.Arc) → G.Used a → Kept G m a

abbrev pub Nothing : (G : Graph) → G.Arc → Type 0
Nothing G a = ⊥

-- The minutes rose from m to n. Each arc that is due, that was kept, or whose source rose, is kept in n, or is still to do.
pub record Grown (G : Graph) (Due Todo : G.Arc → Type 0) (m n : List ℕ) : Type 0 where
  pub size : length n ≡ length m
  pub up : m ⊑ n
  pub within : WithinDays n
  pub due : (a : G.Arc) → G.Used a → Due a → Kept G n a ⊎ Todo a
  pub stays : (a : G.Arc) → G.Used a → Kept G m a → Kept G n a ⊎ Todo a
  pub rose : (a : G.Arc) → G.Used a → get_or m (G.from a) 0 < get_or n (G.from a) 0 → Kept G n a ⊎ Todo a

-- a minute v at x is no further from the source's than it is in y
abbrev pub Reach : ℕ → List ℕ → List ℕ → ℕ → ℕ → Type 0
Reach src m y x v = v + get_or y src 0 ≤ get_or y x 0 + get_or m src 0

-- y is at or above m and keeps all arcs; and an arc that m does not keep starts no further from the source than in y, or is left for later
pub record Solves (G : Graph) (src : ℕ) (m y : List ℕ) : Type 0 where
  pub above : m ⊑ y
  pub keeps : KeepsAll G y
  pub near : (a : G.Arc) → G.Used a → Kept G m a ⊎ (Reach src m y (G.from a) (get_or m (G.from a) 0) ⊎ G.Later src a)

-- none of the arcs of D has to be left for later: those that might be start no further from the source than in y
abbrev pub Clear : (G : Graph) → ℕ → (G.Arc → Type 0) → List ℕ → List ℕ → Type 0
Clear G src D m y = (a : G.Arc) → G.Used a → D a → G.Later src a → Reach src m y (G.from a) (get_or m (G.from a) 0)

-- where each event is that rose, y has it too
unfoldable pub AllReached : ℕ → List ℕ → List ℕ → List ℕ → Type 0
AllReached src m n y = (x : ℕ) → (get_or n x 0 ≡ get_or m x 0) ⊎ Reach src m y x (get_or n x 0)

-- raising from m to n for the solutions y with H y: all that is promised of an answer that is alive
pub record Raised (G : Graph) (src : ℕ) (H : List ℕ → Type 0) (Due Todo : G.Arc → Type 0) (m n : List ℕ) : Type 0 where
  pub grown : Grown G Due Todo m n
  pub source : get_or n src 0 ≡ get_or m src 0
  pub first : (y : List ℕ) → Solves G src m y → H y → AllReached src m n y

-- and of one that is dead and leaves the minutes n: every solution is at or above them, and none in time costs no more than the cut; `InTime` and `cost` are
-- those of the tables
unfoldable pub NoneFor : (G : Graph) → (List ℕ → Type 0) → (List ℕ → ℕ) → ℕ → ℕ → (List ℕ → Type 0) → List ℕ → List ℕ → Type 0
NoneFor G InTime cost cut src H m n = (y : List ℕ) → Solves G src m y → H y → (n ⊑ y) × (WithinDays y → InTime y → cost y ≤ cut → ⊥)
