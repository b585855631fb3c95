-- A set of choices as marks: 368 masks, one for each segment and first train and then one for each station and leaving train; bit j of a mask says that
-- the choice with train j second is in the set.
use Rattle.std.specs.Prelude.{ℕ, ◌+◌, ◌*◌, ◌<◌, Bool, List, get_or, replicate}
use Rattle.orders.specs.Plan.Bits.{in_mask, with_bit, change}
use Rattle.orders.specs.Plan.Choices.{Choice, on_segment, at_station}

abbrev pub Plan : Type 0
Plan = List ℕ

abbrev pub row : Choice → ℕ
row (on_segment p i j) = 16 * p + i
row (at_station s a b) = 176 + (16 * s + a)

abbrev pub second : Choice → ℕ
second (on_segment p i j) = j
second (at_station s a b) = b

-- its row is that of no other place and first train: there are 11 segments, 12 stations and room for 16 trains
abbrev pub Placed : Choice → Type 0
Placed (on_segment p i j) = (p < 11) × (i < 16)
Placed (at_station s a b) = (s < 12) × (a < 16)

-- no choice
unfoldable pub free : Plan
free = replicate 368 0

-- `c` besides those of `p`
unfoldable pub also : Choice → Plan → Plan
also c p = change (with_bit (second c)) (row c) p

-- `c` is in the set
unfoldable pub marked : Plan → Choice → Bool
marked p c = in_mask (get_or p (row c) 0) (second c)
