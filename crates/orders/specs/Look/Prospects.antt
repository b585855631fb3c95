-- The contract of a first look at a choice.
use Rattle.std.specs.Prelude.{ℕ, ◌+◌, ◌%◌, ◌≤◌, ◌<◌, ◌≡◌, ◌⊎◌, true, List, get_or}
use Rattle.orders.specs.LeastMinutes.NoLater.{◌⊑◌, WithinDays}
use Rattle.orders.specs.Plan.Bits.{in_mask}
use Rattle.orders.specs.LineTables.Tables.{next_in, cost_in}
use Rattle.orders.specs.Raise.Raising.{KeepsAll}
use Rattle.orders.specs.Graph.LegGraph.{beside, leg_graph, InLimits}

-- no minutes at or above m at which leg e departs at v and arrives at w or later keep all arcs, are in time and cost no more than the cut
unfoldable pub NoneFrom : List ℕ → List ℕ → List ℕ → ℕ → ℕ → ℕ → ℕ → List ℕ → Type 0
NoneFrom marks t ds cut e v w m =
    (y : List ℕ) → WithinDays y → KeepsAll (leg_graph marks t ds) y → m ⊑ y → v ≤ get_or y e 0 → w ≤ get_or y (176 + e) 0 → InLimits t ds y →
    cost_in t y ≤ cut → ⊥

-- train j is marked to go before that of leg e on its segment, and goes over it the other way by leg f, or by the next leg after f
pub record GoesBefore (marks t ds : List ℕ) (e f j : ℕ) : Type 0 where
  pub train : e % 16 < 12
  pub marked : in_mask (get_or marks (beside e j) 0) (e % 16) ≡ true
  pub goes : ((f ≡ beside e j) × (get_or ds f 0 ≡ get_or ds e 0 → ⊥)) ⊎ ((f ≡ beside e j → ⊥) × (next_in t f ≡ beside e j))
