-- The ways out of a conflict, by number (document 01, "The search").
use Rattle.std.specs.Prelude.{ℕ, ◌/◌, ◌%◌, Bool, cond, not, ◌&&◌, List, [], ◌∷◌, eqb, Option, Some, None}
use Rattle.finite.specs.Below.{gather}
use Rattle.line.specs.declared.Line.{Line}
use Rattle.rules.specs.declared.conflicts.Conflict.{Conflict}
use Rattle.rules.specs.Conflict.Conflicts.{conflict_of}
use Rattle.orders.specs.Plan.Bits.{in_mask}
use Rattle.orders.specs.Plan.Choices.{Choice, on_segment, at_station}

-- two different trains of a mask
abbrev pub two_of : ℕ → ℕ → ℕ → Bool
two_of mask a b = in_mask mask a && (in_mask mask b && not (eqb a b))

-- "on a segment one or the other goes first; at a station one of those trains has left before another arrives": way w, where there is one; at a station
-- number w is that of the leaving train w / 12 and the arriving train w % 12
unfoldable pub way_of : Option Conflict → ℕ → List Choice
way_of None w = []
way_of (Some (Conflict.OnSegment x)) w =
    cond (eqb w 0) (on_segment x.segment x.lower x.higher ∷ []) (on_segment x.segment x.higher x.lower ∷ [])
way_of (Some (Conflict.AtStation x)) w = cond (two_of x.trains (w / 12) (w % 12)) (at_station x.station (w / 12) (w % 12) ∷ []) []

abbrev pub way_count : Option Conflict → ℕ
way_count None = 0
way_count (Some (Conflict.OnSegment x)) = 2
way_count (Some (Conflict.AtStation x)) = 144

unfoldable pub ways_of : Option Conflict → List Choice
ways_of c = gather (way_of c) (way_count c)

-- those of the lowest conflict
unfoldable pub ways : Line → List ℕ → List Choice
ways l m = ways_of (conflict_of l m)
