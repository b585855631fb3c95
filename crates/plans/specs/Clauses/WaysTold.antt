-- A way out of a conflict as the program has it: the choice by its mark and by the leg of the train that goes first.
use Rattle.std.specs.Prelude.{ℕ, ◌+◌, ◌*◌, ◌/◌, ◌%◌, ◌-◌, ◌≤◌, ◌<◌, ◌≡◌, Bool, true, false, cond, List, [], ◌∷◌, eqb, Option, Some, None}
use Rattle.rules.specs.declared.conflicts.Conflict.{Conflict}
use Rattle.rules.specs.declared.conflicts.SegmentConflict.{SegmentConflict}
use Rattle.rules.specs.Conflict.Directions.{way}
use Rattle.orders.specs.Plan.Choices.{Choice, on_segment, at_station}
use Rattle.orders.specs.Plan.Marks.{row, second}
use Rattle.plans.specs.Conflict.Ways.{two_of, way_of}
use Rattle.plans.specs.declared.ways.Way.{Way}

-- the leg on which train a leaves its middle station s, by the table of directions
unfoldable pub leg_out : List ℕ → ℕ → ℕ → ℕ
leg_out ds s a = cond (eqb (way ds s a) 1) (16 * s + a) (16 * (s - 1) + a)

-- the leg of the train that goes first
abbrev pub leg_in : List ℕ → Choice → ℕ
leg_in ds (on_segment p i j) = 16 * p + i
leg_in ds (at_station s a b) = leg_out ds s a

abbrev pub is_station : Choice → Bool
is_station (on_segment p i j) = false
is_station (at_station s a b) = true

pub record Tells (ds : List ℕ) (c : Choice) (r : Way) : Type 0 where
  pub station : r.station ≡ is_station c
  pub row : r.row ≡ row c
  pub leg : r.leg ≡ leg_in ds c
  pub second : r.second ≡ second c

-- there is a way exactly where there is a choice, and it tells the choice
abbrev pub TellsWay : List ℕ → List Choice → Option Way → Type 0
TellsWay ds [] None = Unit {0}
TellsWay ds [] (Some r) = ⊥
TellsWay ds (c ∷ []) None = ⊥
TellsWay ds (c ∷ []) (Some r) = Tells ds c r
TellsWay ds (c ∷ d ∷ cs) r = ⊥

-- on a segment the table of directions does not matter
abbrev pub TellsOnSegment : SegmentConflict → ℕ → Way → Type 0
TellsOnSegment x w r = (ds : List ℕ) → TellsWay ds (way_of (Some (Conflict.OnSegment x)) w) (Some r)

-- from number w to the next that may have a way there is none but w's
pub record Steps (conflict : Option Conflict) (w step : ℕ) : Type 0 where
  pub on : 1 ≤ step
  pub up_to : w + step ≤ 144
  pub none_between : (i : ℕ) → w < i → i < w + step → way_of conflict i ≡ []

-- the same of a station's trains: between the number of two of them and the next there is no pair
pub record NextPair (mask w r : ℕ) : Type 0 where
  pub on : 1 ≤ r
  pub up_to : w + r ≤ 144
  pub none_between : (i : ℕ) → w < i → i < w + r → two_of mask (i / 12) (i % 12) ≡ false

-- the numbers of a conflict are those of some line
abbrev pub InRange : Conflict → Type 0
InRange (Conflict.OnSegment x) = (x.segment < 11) × (x.lower < 12) × (x.higher < 12)
InRange (Conflict.AtStation x) = (1 ≤ x.station) × (x.station ≤ 10)
