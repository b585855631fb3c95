-- The line file in two parts, between which the reader moves on: its stations and segments, and from where those
-- end its trains and the sections past them.
use Rattle.std.specs.Prelude.{ℕ, ◌≤◌, List, length, ltb}
use Rattle.text.specs.declared.Cursor.{Cursor}
use Rattle.text.specs.Reading.Choice.{pick}
use Rattle.text.specs.Reading.Parsed.{Parsed, then_read}
use Rattle.text.specs.Places.Lines.{Counted}
use Rattle.line.specs.declared.Track.{Track}
use Rattle.line.specs.declared.Line.{Line}
use Rattle.line.specs.declared.reading.FurtherSections.{FurtherSections}
use Rattle.line.specs.Record.{Further, track_with, traffic_with, booked_with, list_with}
use Rattle.line.specs.File.{station_section, segment_section, train_section, further_at}

-- the first two sections
unfoldable pub track_at : List ℕ → Cursor → Parsed Track
track_at s c =
    then_read (station_section s c) (λ stations c₁.
    then_read (segment_section stations.count s c₁) (λ segments c₂.
    Parsed.got (track_with stations.count stations.entries segments.entries) c₂))

-- the sections past the third, as the record has them
abbrev pub sections_with : Further → FurtherSections
sections_with x = record { booked = booked_with x.bookings; dues = list_with x.dues }

-- this track completed to a line: the third section, those that may be left off, and no bytes after the last line
unfoldable pub completed_at : Track → List ℕ → Cursor → Parsed Line
completed_at t s c =
    then_read (train_section t.station_count s c) (λ trains c₁.
    then_read (further_at t.station_count trains s c₁) (λ x c₂.
    pick (ltb c₂.at (length s)) (Parsed.bad 2 c₂.line)
    (Parsed.got
    (record { track = t; traffic = traffic_with trains.count trains.entries; booked = booked_with x.bookings; dues = list_with x.dues }) c₂)))

-- the first part from position i on, which is on line 1, of a text that is not too long
unfoldable pub track_from : List ℕ → ℕ → Parsed Track
track_from s i = pick (ltb 4096 (length s)) (Parsed.bad 1 0) (track_at s (record { at = i; line = 1 }))

-- where a reader stands after a part that it began at position i: behind what was read, and still there where it was refused
abbrev pub end_of : {A : Type 0} → ℕ → Parsed A → ℕ
end_of i (Parsed.got x c) = c.at
end_of i (Parsed.bad n p) = i

-- the second part from position i on, after what the first gave: on the line on which that ended
abbrev pub completed_from : List ℕ → ℕ → Parsed Track → Parsed Line
completed_from s i (Parsed.got t c) = completed_at t s (record { at = i; line = c.line })
completed_from s i (Parsed.bad n p) = Parsed.bad n p

-- position i can be where the second part begins: the count of stations is within the limits, and there are no more lines than bytes
abbrev pub CanComplete : ℕ → Parsed Track → Type 0
CanComplete i (Parsed.got t c) = (t.station_count ≤ 12) × Counted (record { at = i; line = c.line })
CanComplete i (Parsed.bad n p) = Unit {0}
