-- Choices: "this one first" (document 01, "The search").
use Rattle.std.specs.Prelude.{ℕ, ◌<◌, List}
use Rattle.line.specs.declared.Line.{Line}
use Rattle.rules.specs.Statement.Paths.{train, segment_count, Uses, Middle}
use Rattle.rules.specs.Statement.Rules.{Before, came, goes}

-- "on a segment one or the other goes first": on segment p train i does, and j keeps its gap; "at a station one of those trains has left before another
-- arrives": at station s train a has left before b arrives
pub data Choice : Type 0 where
  on_segment : ℕ → ℕ → ℕ → Choice
  at_station : ℕ → ℕ → ℕ → Choice

-- it is about a segment or a station and trains of the line
abbrev pub Of : Line → Choice → Type 0
Of l (on_segment p i j) = (p < segment_count l) × (i < l.traffic.train_count) × (j < l.traffic.train_count)
Of l (at_station s a b) = (s < l.track.station_count) × (a < l.traffic.train_count) × (b < l.traffic.train_count)

-- both trains go over the segment; both have the station as a middle one
abbrev pub Shared : Line → Choice → Type 0
Shared l (on_segment p i j) = Uses (train l i) p × Uses (train l j) p
Shared l (at_station s a b) = Middle (train l a) s × Middle (train l b) s

-- the minutes keep the choice; at a station "its departure minute below that arrival minute"
abbrev pub KeepsChoice : Line → List ℕ → Choice → Type 0
KeepsChoice l m (on_segment p i j) = Before l m p i j
KeepsChoice l m (at_station s a b) = goes l m s a < came l m s b
