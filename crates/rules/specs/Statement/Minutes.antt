-- The minutes of a timetable: 352 entries. Train i departs on segment p at entry 16 p + i and arrives at entry 176 + 16 p + i; entries that no train's
-- leg has are there and nothing is said of them.
use Rattle.std.specs.Prelude.{ℕ, ◌+◌, ◌-◌, ◌*◌, List, slice_index}
use Rattle.line.specs.declared.Line.{Line}
use Rattle.rules.specs.Statement.Paths.{train, legs, segment_of}

abbrev pub departs : ℕ → ℕ → ℕ
departs p i = 16 * p + i

abbrev pub arrives : ℕ → ℕ → ℕ
arrives p i = 176 + (16 * p + i)

-- by segment
abbrev pub departs_on : List ℕ → ℕ → ℕ → ℕ
departs_on m p i = slice_index m (departs p i)

abbrev pub arrives_on : List ℕ → ℕ → ℕ → ℕ
arrives_on m p i = slice_index m (arrives p i)

-- by leg, in travel order
abbrev pub departure : Line → List ℕ → ℕ → ℕ → ℕ
departure l m i k = departs_on m (segment_of (train l i) k) i

abbrev pub arrival : Line → List ℕ → ℕ → ℕ → ℕ
arrival l m i k = arrives_on m (segment_of (train l i) k) i

abbrev pub last_arrival : Line → List ℕ → ℕ → ℕ
last_arrival l m i = arrival l m i (legs l i - 1)
