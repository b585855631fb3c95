-- A search of a plan, as a relation between the best so far and what becomes of it: which conflict is settled, and in what order its ways are tried, is left
-- open. The best timetable is one, so that what is found does not depend on either.
use Rattle.std.specs.Prelude.{◌≡◌, ◌⊎◌, List, [], ◌∷◌, ℕ, get_or}
use Rattle.orders.specs.LeastMinutes.NoLater.{◌⊑◌}
use Rattle.plans.specs.Theory.Problem.{Problem, Better}
use Rattle.plans.specs.Theory.BestSoFar.{BestSoFar, nothing, found, Improves}

-- the best so far, if there is one, is lawful
abbrev pub Fine : Problem → BestSoFar → Type 0
Fine P nothing = Unit {0}
Fine P (found m) = P.Lawful m

-- the second is a lawful timetable and better than the first
abbrev pub Gains : Problem → BestSoFar → BestSoFar → Type 0
Gains P b nothing = ⊥
Gains P b (found m) = P.Lawful m × Improves P m b

-- what the best so far can become: it stays, or a better one takes its place
abbrev pub Onward : Problem → BestSoFar → BestSoFar → Type 0
Onward P b r = (r ≡ b) ⊎ Gains P b r

-- no lawful timetable that keeps the plan lies below `s`
abbrev pub Under : (P : Problem) → P.Plan → List ℕ → Type 0
Under P cs s = (m' : List ℕ) → P.Lawful m' → P.Keeps cs m' → s ⊑ m'

-- no lawful timetable that keeps the plan is better than the best so far
unfoldable pub NoneBetter : (P : Problem) → P.Plan → BestSoFar → Type 0
NoneBetter P cs b = (m' : List ℕ) → P.Lawful m' → P.Keeps cs m' → Improves P m' b → ⊥

-- the plan is searched: `b` was the best before, and `r` is the best with its timetables
pub record Searched (P : Problem) (cs : P.Plan) (b r : BestSoFar) : Type 0 where
  pub onward : Onward P b r
  pub none_better : NoneBetter P cs r

-- whatever is better than the best so far and keeps the plan `cs` keeps `ds` too: what is left to search there is left of it here
unfoldable pub Narrows : (P : Problem) → P.Plan → P.Plan → BestSoFar → Type 0
Narrows P cs ds b = (m' : List ℕ) → P.Lawful m' → P.Keeps cs m' → Improves P m' b → P.Keeps ds m'

-- some ways of the plan one after another, each from the best that the one before left: searched, or known to hold nothing better
pub data Tried (P : Problem) (cs : P.Plan) : List P.Choice → BestSoFar → BestSoFar → Type 0 where
  tried_none : (b : BestSoFar) → Tried P cs [] b b
  tried_dead : (c : P.Choice) (ws : List P.Choice) (b r : BestSoFar) → NoneBetter P (P.also c cs) b → Tried P cs ws b r → Tried P cs (c ∷ ws) b r
  tried_searched : (c : P.Choice) (ws : List P.Choice) (b b₁ r : BestSoFar) → Searched P (P.also c cs) b b₁ → Tried P cs ws b₁ r → Tried P cs (c ∷ ws) b r

-- what a search of everything says: `m` is lawful and none is better; or nothing is lawful
abbrev pub SearchSays : Problem → BestSoFar → Type 0
SearchSays P nothing = (m' : List ℕ) → P.Lawful m' → ⊥
SearchSays P (found m) = P.Lawful m × ((m' : List ℕ) → P.Lawful m' → Better P m' m → ⊥)

-- lawful timetables that are ranked alike are the same
abbrev pub ToldApart : Problem → (List ℕ → List ℕ → Type 0) → Type 0
ToldApart P Same =
    (m m' : List ℕ) → P.Lawful m → P.Lawful m' → P.cost m ≡ P.cost m' → ((e : ℕ) → get_or (P.key m) e 0 ≡ get_or (P.key m') e 0) → Same m m'
