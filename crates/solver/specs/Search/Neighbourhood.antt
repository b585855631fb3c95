-- The contracts of keeping a timetable's orders. Choice by choice a plan to search becomes one with a choice more, or is given up; which timetable the
-- orders come from is left open. As in the walk the line is not among the parameters: what is needed holds of some line among those that the parameters
-- fit, and what is given holds of all of them.
use Rattle.std.specs.Prelude.{ℕ, ◌<◌, ◌≡◌, false, List}
use Rattle.line.specs.declared.Kind.{Kind}
use Rattle.line.specs.declared.Line.{Line}
use Rattle.line.specs.declared.Segment.{Segment}
use Rattle.rules.specs.Statement.Paths.{segment_count, segment}
use Rattle.rules.specs.Conflict.Directions.{way}
use Rattle.rules.specs.Conflict.Conflicts.{layout_of}
use Rattle.orders.specs.Plan.Choices.{on_segment}
use Rattle.orders.specs.Plan.TidyPlans.{Fitting}
use Rattle.plans.specs.Instance.Planning.{planning}
use Rattle.plans.specs.Theory.Search.{Under}
use Rattle.plans.specs.Clauses.Choosing.{Tabled, Planned}
use Rattle.plans.specs.declared.day.Day.{Day}
use Rattle.plans.specs.declared.ways.Way.{Way}

-- ---- a plan to search, and what becomes of it

-- a plan whose minutes lie below every lawful timetable that keeps it
pub record Searchable (l : Line) (marks m : List ℕ) (cost : ℕ) : Type 0 where
  pub planned : Planned l marks m cost
  pub under : Under (planning l) marks m

-- a plan to search on some line among these
pub record CanKeep (Among : Line → Type 0) (marks m : List ℕ) (cost : ℕ) : Type 0 where
  pub line : Line
  pub among : Among line
  pub searchable : Searchable line marks m cost

-- on every line among these: where the first is a plan to search, so is the second
pub record Leads (Among : Line → Type 0) (marks m : List ℕ) (cost : ℕ) (marks' m' : List ℕ) (cost' : ℕ) : Type 0 where
  pub leads : (l : Line) → Among l → Searchable l marks m cost → Searchable l marks' m' cost'

-- ---- the lines

-- those with these tables where train i can go before train j on segment p
pub record WithChoice (d : Day) (p i j : ℕ) (l : Line) : Type 0 where
  pub tabled : Tabled l d.tables d.ds
  pub fitting : Fitting l (on_segment p i j)

-- those with these tables whose segment p is g
pub record OnSegment (d : Day) (g : Segment) (p : ℕ) (l : Line) : Type 0 where
  pub tabled : Tabled l d.tables d.ds
  pub place : p < segment_count l
  pub segment_is : g ≡ segment l p

-- those with these tables and this layout
pub record OnLayout (d : Day) (l : Line) : Type 0 where
  pub tabled : Tabled l d.tables d.ds
  pub layout_is : d.layout ≡ layout_of l

-- ---- an order to keep

-- by the table of directions trains i and j both go over segment p, which is g, and ask something of each other there
pub record OrderToKeep (g : Segment) (ds : List ℕ) (p i j : ℕ) : Type 0 where
  pub one : way ds p i ≡ 0 → ⊥
  pub other : way ds p j ≡ 0 → ⊥
  pub asks : g.kind ≡ Kind.D → way ds p i ≡ way ds p j

-- the way that tells the choice that train j comes second, with its mark and its leg at e
abbrev pub way_for : ℕ → ℕ → Way
way_for e j = record { station = false; row = e; leg = e; second = j }
