-- The contracts of selecting a conflict: any conflict of a plan's minutes may be settled, and there is none only where the minutes have none. The line is not
-- among the parameters: what is promised holds for every line of which what is asked for holds.
use Rattle.std.specs.Prelude.{ℕ, ◌<◌, ◌≡◌, ◌⊎◌, List, Option, None}
use Rattle.line.specs.declared.Line.{Line}
use Rattle.line.specs.declared.Segment.{Segment}
use Rattle.line.specs.Within.{Within, Arrays}
use Rattle.rules.specs.declared.conflicts.Conflict.{Conflict}
use Rattle.rules.specs.Statement.Paths.{segment_count, segment}
use Rattle.rules.specs.Conflict.Directions.{directions_of}
use Rattle.rules.specs.Conflict.Conflicts.{conflict_of, layout_of}
use Rattle.plans.specs.Conflict.RealConflicts.{Real}
use Rattle.plans.specs.Clauses.Choosing.{Tabled, Planned}
use Rattle.plans.specs.declared.day.Day.{Day}
use Rattle.solver.specs.declared.selecting.Scored.{Scored}

-- ---- the conflict that is settled

pub record ConflictOf (l : Line) (m : List ℕ) (c : Option Conflict) : Type 0 where
  pub real : Real l m c
  pub none : c ≡ None → conflict_of l m ≡ None

abbrev pub Chosen : Day → List ℕ → Option Conflict → Type 0
Chosen d m c = (l : Line) → Within l → Arrays l → d.layout ≡ layout_of l → d.ds ≡ directions_of l → ConflictOf l m c

pub record CanSelect (m marks : List ℕ) (d : Day) (cost : ℕ) : Type 0 where
  pub line : Line
  pub tabled : Tabled line d.tables d.ds
  pub planned : Planned line marks m cost
  pub layout_is : d.layout ≡ layout_of line

pub record ChoosesOne (m marks : List ℕ) (d : Day) (marks' : List ℕ) (c : Option Conflict) : Type 0 where
  pub marks_same : marks' ≡ marks
  pub chosen : Chosen d m c

-- ---- what the scan finds

-- a conflict, if any, on every line of this layout
abbrev pub KnownReal : List ℕ → Day → Option Conflict → Type 0
KnownReal m d c = (l : Line) → Within l → Arrays l → d.layout ≡ layout_of l → d.ds ≡ directions_of l → Real l m c

pub record FindsReal (m marks : List ℕ) (d : Day) (marks' : List ℕ) (c : Option Conflict) : Type 0 where
  pub marks_same : marks' ≡ marks
  pub real : KnownReal m d c

-- ---- the score of one conflict

pub record CanScore (m marks : List ℕ) (d : Day) (cost : ℕ) (conflict : Option Conflict) : Type 0 where
  pub line : Line
  pub tabled : Tabled line d.tables d.ds
  pub planned : Planned line marks m cost
  pub real : Real line m conflict

pub record HigherScored (marks : List ℕ) (x : Option Conflict) (old : Scored) (marks' : List ℕ) (r : Scored) : Type 0 where
  pub marks_same : marks' ≡ marks
  pub pick : (r.conflict ≡ old.conflict) ⊎ (r.conflict ≡ x)

-- ---- the conflicts on a segment

-- segment p of the line is g, and the line has n trains
pub record SegmentOf (l : Line) (g : Segment) (n p : ℕ) : Type 0 where
  pub place : p < segment_count l
  pub segment_is : g ≡ segment l p
  pub trains_are : n ≡ l.traffic.train_count

pub record CanScoreOn (m marks : List ℕ) (d : Day) (cost : ℕ) (g : Segment) (n p : ℕ) : Type 0 where
  pub line : Line
  pub tabled : Tabled line d.tables d.ds
  pub planned : Planned line marks m cost
  pub on : SegmentOf line g n p

pub record ScoresOn (m marks : List ℕ) (d : Day) (g : Segment) (n p : ℕ) (old : Scored) (marks' : List ℕ) (r : Scored) : Type 0 where
  pub marks_same : marks' ≡ marks
  pub real : (l : Line) → Within l → Arrays l → d.ds ≡ directions_of l → SegmentOf l g n p → Real l m old.conflict → Real l m r.conflict
