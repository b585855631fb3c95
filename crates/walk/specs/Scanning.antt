-- What the walk's scan for the lowest conflict may leave out: what was clear at the former minutes, and whose minutes changed.
use Rattle.std.specs.Prelude.{ℕ, ◌+◌, ◌*◌, ◌-◌, ◌≤◌, ◌<◌, ◌≡◌, true, false, ◌⊎◌, List, length, get_or, Option, Some, None}
use Rattle.line.specs.declared.Segment.{Segment}
use Rattle.rules.specs.declared.conflicts.Conflict.{Conflict}
use Rattle.rules.specs.declared.conflicts.Layout.{Layout}
use Rattle.rules.specs.Statement.Minutes.{departs_on, arrives_on}
use Rattle.rules.specs.Conflict.Directions.{on}
use Rattle.rules.specs.Conflict.Conflicts.{passage, neither_first}
use Rattle.rules.specs.Scan.Scanning.{Scans}
use Rattle.rules.specs.Conflict.ConflictsLaws.{NoSegment}

-- the 16 entries from b on are the same in both
unfoldable pub SameRow : List ℕ → List ℕ → ℕ → Type 0
SameRow m former b = (i : ℕ) → i < 16 → get_or m (b + i) 0 ≡ get_or former (b + i) 0

-- departures and arrivals on segment p
abbrev pub SameOn : List ℕ → List ℕ → ℕ → Type 0
SameOn m former p = SameRow m former (16 * p) × SameRow m former (176 + 16 * p)

-- train i goes over segment p at the same minutes
abbrev pub SameTimes : List ℕ → List ℕ → ℕ → ℕ → Type 0
SameTimes m former p i = (departs_on m p i ≡ departs_on former p i) × (arrives_on m p i ≡ arrives_on former p i)

-- train i is in conflict with none of the n on segment p, which is g
unfoldable pub InNoConflict : Segment → List ℕ → List ℕ → ℕ → ℕ → ℕ → Type 0
InNoConflict g ds m p n i =
    (j : ℕ) → j < n → (j ≡ i → ⊥) → on ds p i ≡ true → on ds p j ≡ true → neither_first g (passage ds m p i) (passage ds m p j) ≡ false

-- each of the first k trains has its former minutes there or is in no conflict
unfoldable pub ChangedApart : Segment → List ℕ → List ℕ → List ℕ → ℕ → ℕ → ℕ → Type 0
ChangedApart g ds m former p n k = (i : ℕ) → i < k → SameTimes m former p i ⊎ InNoConflict g ds m p n i

-- no conflict on the segments below `clear` at these minutes
unfoldable pub ClearBelow : Layout → List ℕ → List ℕ → ℕ → Type 0
ClearBelow y ds m clear = (clear ≤ y.stations - 1) × NoSegment y.segments ds m y.trains clear

-- what the scan starts from
pub record ScansAgain (y : Layout) (ds m former : List ℕ) (clear : ℕ) : Type 0 where
  pub scans : Scans y ds m
  pub former_size : length former ≡ 352
  pub known : ClearBelow y ds former clear

-- the segments below the lowest conflict have none; those that it is not on have none at all
abbrev pub clear_segments : Layout → Option Conflict → ℕ
clear_segments y None = y.stations - 1
clear_segments y (Some (Conflict.OnSegment x)) = x.segment
clear_segments y (Some (Conflict.AtStation x)) = y.stations - 1
