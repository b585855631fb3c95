-- The problem that the search solves, as a record of its parts, and the laws of these parts as a second record. The walk names only the parts, so that
-- what a contract cites carries no proof.
use Rattle.std.specs.Prelude.{ℕ, ◌≤◌, ◌≡◌, Bool, true}
use mathlib.Core.List.{List, [], ◌∷◌, Memᴰ}
use Rattle.orders.specs.LeastMinutes.NoLater.{◌⊑◌}
use Rattle.orders.specs.LeastMinutes.Least.{Least, minutes, none, Fit, IsLeast, NoneKeeps}
use Rattle.plans.specs.Theory.Ranking.{Ahead}

pub record Problem : Type 1 where
  -- a choice settles one conflict
  pub Choice : Type 0
  -- a plan is a set of them: `free` has none, and `also c p` has `c` besides those of `p`
  pub Plan : Type 0
  pub free : Plan
  pub also : Choice → Plan → Plan
  -- how many events there are
  pub events : ℕ
  -- where the minutes of the empty plan start
  pub start : List ℕ
  -- the minutes keep the basic rules and these choices
  pub Keeps : Plan → List ℕ → Type 0
  pub Lawful : List ℕ → Type 0
  -- the least minutes at or above these that keep the choices
  pub least : Plan → List ℕ → Least
  -- what is compared, the lower the better: the cost first, and then the key
  pub cost : List ℕ → ℕ
  pub key : List ℕ → List ℕ
  -- a test that every lawful timetable passes, and that only fails more as minutes rise: no event is after its latest minute
  pub allowed : List ℕ → Bool
  -- the choices that would settle the first conflict; [] if there is no conflict
  pub ways : List ℕ → List Choice

-- by what timetables are compared
abbrev pub rank : Problem → List ℕ → List ℕ
rank P m = P.cost m ∷ P.key m

-- the first timetable is strictly better
abbrev pub Better : Problem → List ℕ → List ℕ → Type 0
Better P m m' = Ahead (rank P m) (rank P m')

-- the ways out of a conflict of the minutes `m`: whatever lawful timetable keeps the plan goes one of them, and `m` goes none
pub record Splits (P : Problem) (cs : P.Plan) (m : List ℕ) (ws : List P.Choice) : Type 0 where
  pub complete : (m' : List ℕ) → P.Lawful m' → P.Keeps cs m' → (c : P.Choice) × Memᴰ c ws × P.Keeps (P.also c cs) m'
  pub progress : (c : P.Choice) → Memᴰ c ws → P.Keeps (P.also c cs) m → ⊥

pub record Laws (P : Problem) : Type 0 where
  pub start_fit : Fit P.events P.start
  pub start_low : (m : List ℕ) → P.Lawful m → P.start ⊑ m
  pub least_is : (cs : P.Plan) (s m : List ℕ) → Fit P.events s → P.least cs s ≡ minutes m → IsLeast P.events (P.Keeps cs) s m
  pub least_none : (cs : P.Plan) (s : List ℕ) → Fit P.events s → P.least cs s ≡ none → NoneKeeps P.events (P.Keeps cs) s
  pub cost_up : (m m' : List ℕ) → m ⊑ m' → P.cost m ≤ P.cost m'
  pub key_up : (m m' : List ℕ) → m ⊑ m' → P.key m ⊑ P.key m'
  pub allowed_down : (m m' : List ℕ) → m ⊑ m' → P.allowed m' ≡ true → P.allowed m ≡ true
  pub lawful_fit : (m : List ℕ) → P.Lawful m → Fit P.events m
  pub lawful_allowed : (m : List ℕ) → P.Lawful m → P.allowed m ≡ true
  pub lawful_keeps : (m : List ℕ) → P.Lawful m → P.Keeps P.free m
  pub keeps_rest : (c : P.Choice) (cs : P.Plan) (m : List ℕ) → P.Keeps (P.also c cs) m → P.Keeps cs m
  -- with no conflict left, minutes that are allowed are lawful
  pub clear : (cs : P.Plan) (m : List ℕ) → Fit P.events m → P.Keeps cs m → P.allowed m ≡ true → P.ways m ≡ [] → P.Lawful m
  -- where there is a conflict, these are ways out of one
  pub ways_split : (cs : P.Plan) (m : List ℕ) → (P.ways m ≡ [] → ⊥) → Splits P cs m (P.ways m)
