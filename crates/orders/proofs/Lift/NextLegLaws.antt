-- Laws of the arc to a train's next leg: there is none, it is kept as the minutes are, or it is kept when the next leg is raised.
use Rattle.std.specs.Prelude.{ℕ, ◌+◌, ◌≤◌, ◌≡◌, ◌⊎◌, List, get_or}
use Rattle.std.proofs.Common.{sym, ◌∙◌, subst, arith}
use Rattle.std.proofs.Math.Path.{subst⁻¹}
use Rattle.orders.specs.LineTables.Tables.{stop_in, next_in}
use Rattle.orders.specs.Raise.Raising.{Kept, Solves, Clear}
use Rattle.orders.specs.Graph.LegGraph.{LegArc, runs, slow, next, depart, arrive, after, gone, UsedLeg, UsedArc, leg_graph, Shaped}
use Rattle.orders.specs.Lift.Lifting.{Asks, ToNext, Stepped}
use Rattle.orders.proofs.Lift.ServingLaws.{Serves, serves_next, serves_asks, serves_there, serves_stepped}

module _ (marks t ds : List ℕ) (e f : ℕ) (leg : UsedLeg ds e) (next_is : f ≡ next_in t e) where
  pub onward_leg : Shaped marks t ds → UsedLeg ds f
  onward_leg s = subst⁻¹ (λ (x : ℕ). UsedLeg ds x) next_is (s.next_used e leg)

  pub onward_none : f ≡ e → (a : LegArc) → UsedArc marks t ds a → ToNext e a → ⊥
  onward_none q (runs x) u d = d
  onward_none q (slow x) u d = d
  onward_none q (next x) u d = subst (λ (z : ℕ). next_in t z ≡ z → ⊥) d u.1 (sym next_is ∙ q)
  onward_none q (depart x i) u d = d
  onward_none q (arrive x i) u d = d
  onward_none q (after x i) u d = d
  onward_none q (gone x i) u d = d

  module _ (m : List ℕ) (v : ℕ) (other : f ≡ e → ⊥) (v-is : v ≡ get_or m (176 + e) 0 + stop_in t e) where
    serves : Serves marks t ds (ToNext e) m f v 0
    serves = serves_next marks t ds m e f v (leg, λ q. other (next_is ∙ q)) next_is v-is

    -- it is never left for later
    clear : (src : ℕ) (y : List ℕ) → Clear (leg_graph marks t ds) src (ToNext e) m y
    clear src y (runs x) u d l = absurd l
    clear src y (slow x) u d l = absurd l
    clear src y (next x) u d l = absurd l
    clear src y (depart x i) u d l = absurd l
    clear src y (arrive x i) u d l = absurd d
    clear src y (after x i) u d l = absurd l
    clear src y (gone x i) u d l = absurd l

    pub onward_still : v ≤ get_or m f 0 → (a : LegArc) → UsedArc marks t ds a → ToNext e a → Kept (leg_graph marks t ds) m a
    onward_still l = serves_there marks t ds (ToNext e) m f v 0 serves l (omega arith)

    pub onward_asks : (src : ℕ) (y : List ℕ) → Solves (leg_graph marks t ds) src m y → Asks src f v 0 m y
    onward_asks src y s = serves_asks marks t ds (ToNext e) m f v 0 serves src y s (clear src y)

    pub onward_stepped : (T : LegArc → Type 0) (src cut : ℕ) (n : List ℕ) (r : ℕ) → Stepped marks t ds T src cut f v 0 m n r →
        (a : LegArc) → UsedArc marks t ds a → ToNext e a → Kept (leg_graph marks t ds) n a ⊎ T a
    onward_stepped = serves_stepped marks t ds (ToNext e) m f v 0 serves
