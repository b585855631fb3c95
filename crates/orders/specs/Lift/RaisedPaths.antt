-- A train raised along its path, before anything else follows: the contracts of raising one leg, and the legs of a path as far as they must be later.
use Rattle.std.specs.Prelude.{ℕ, zero, suc, ◌≡◌, ◌⊎◌, List, Option, Some, None}
use Rattle.orders.specs.declared.raising.Path.{Path}
use Rattle.orders.specs.LineTables.Tables.{next_in}
use Rattle.orders.specs.Graph.LegGraph.{LegArc}
use Rattle.orders.specs.Lift.Lifting.{Alive, told_cost, Asks, ToNext, After, Gone, NoWay, Stepped}

-- what leaves leg e: to its train's next leg, and to other trains
abbrev pub Aside : ℕ → LegArc → Type 0
Aside e a = After e a ⊎ Gone e a

abbrev pub Outward : ℕ → LegArc → Type 0
Outward e a = ToNext e a ⊎ Aside e a

-- leg e is later and what leaves it is to do; or there are no such minutes
pub record LegRaised (marks t ds : List ℕ) (src cut e v w : ℕ) (m n : List ℕ) (r : Option ℕ) : Type 0 where
  pub stepped : Alive r → Stepped marks t ds (Outward e) src cut e v w m n (told_cost r)
  pub none : r ≡ None → NoWay marks t ds src cut (Asks src e v w m) m n

-- what leaves the n legs of a path from e on to other trains
unfoldable pub AsideOf : List ℕ → ℕ → ℕ → LegArc → Type 0
AsideOf t zero e a = ⊥
AsideOf t (suc n) e a = Aside e a ⊎ AsideOf t n (next_in t e) a

-- so many legs from e on are later, the path's own arcs are kept, and what leaves these legs to other trains is to do; or there are no such minutes
pub record PathRaised (marks t ds : List ℕ) (src cut e v w : ℕ) (m n : List ℕ) (r : Option Path) : Type 0 where
  pub stepped : (p : Path) → r ≡ Some p → Stepped marks t ds (AsideOf t p.legs e) src cut e v w m n p.cost
  pub none : r ≡ None → NoWay marks t ds src cut (Asks src e v w m) m n
