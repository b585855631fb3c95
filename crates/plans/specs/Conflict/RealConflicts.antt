-- What a conflict says of the minutes: "A conflict is on a segment between two trains, or at a station among several: one more train than tracks, all
-- standing at one minute" (document 01, "The search").
use Rattle.std.specs.Prelude.{ℕ, ◌<◌, ◌≡◌, ◌⊎◌, true, List, Option, Some, None}
use Rattle.finite.specs.Below.{count}
use Rattle.line.specs.declared.Line.{Line}
use Rattle.rules.specs.declared.conflicts.Conflict.{Conflict}
use Rattle.rules.specs.declared.conflicts.SegmentConflict.{SegmentConflict}
use Rattle.rules.specs.declared.conflicts.StationConflict.{StationConflict}
use Rattle.rules.specs.Statement.Paths.{train, segment_count, tracks_at, Uses}
use Rattle.rules.specs.Statement.Rules.{Before, Stands}
use Rattle.orders.specs.Plan.Bits.{in_mask}

-- two trains share a segment and neither goes first
pub record Clashing (l : Line) (m : List ℕ) (x : SegmentConflict) : Type 0 where
  pub place : x.segment < segment_count l
  pub trains : (x.lower < l.traffic.train_count) × (x.higher < l.traffic.train_count)
  pub order : x.lower < x.higher
  pub shared : Uses (train l x.lower) x.segment × Uses (train l x.higher) x.segment
  pub neither : Before l m x.segment x.lower x.higher ⊎ Before l m x.segment x.higher x.lower → ⊥

-- the trains of the mask stand at the station at one minute, and are more than its tracks
pub record Crowded (l : Line) (m : List ℕ) (x : StationConflict) : Type 0 where
  pub place : x.station < l.track.station_count
  pub trains : (i : ℕ) → in_mask x.trains i ≡ true → (i < l.traffic.train_count) × Stands l m x.station x.minute i
  pub many : tracks_at l x.station < count (in_mask x.trains) l.traffic.train_count

abbrev pub Real : Line → List ℕ → Option Conflict → Type 0
Real l m None = Unit {0}
Real l m (Some (Conflict.OnSegment x)) = Clashing l m x
Real l m (Some (Conflict.AtStation x)) = Crowded l m x
