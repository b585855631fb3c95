-- The laws of selecting a conflict: each is what one way out of a function, or one call in it, asks for.
use Rattle.std.specs.Prelude.{ℕ, ◌+◌, ◌-◌, ◌≤◌, ◌<◌, ◌≡◌, refl, Bool, true, false, not, List, Option, None, get_or}
use Rattle.std.proofs.Common.{sym, ◌∙◌, ap, subst, ⊎_elim, arith}
use Rattle.std.proofs.lemmas.Bool.{not-false}
use Rattle.line.specs.declared.Line.{Line}
use Rattle.line.specs.declared.Segment.{Segment}
use Rattle.line.specs.Record.{no_segment}
use Rattle.line.specs.Within.{Within, Arrays}
use Rattle.rules.specs.declared.conflicts.Conflict.{Conflict}
use Rattle.rules.specs.declared.conflicts.Layout.{Layout}
use Rattle.rules.specs.Statement.Paths.{segment}
use Rattle.rules.specs.Conflict.Conflicts.{conflict_in, layout_of, clash, crowd_at, earliest_crowd}
use Rattle.rules.specs.Conflict.Directions.{directions_of}
use Rattle.rules.specs.Scan.Scanning.{Scans}
use Rattle.rules.specs.Scan.StationLaws.{directions_size}
use Rattle.rules.specs.Conflict.ConflictsLaws.{conflict_told}
use Rattle.plans.specs.Conflict.RealConflicts.{Clashing, Real}
use Rattle.plans.specs.Conflict.RealConflictsLaws.{clashing, crowd_at_real, conflict_real}
use Rattle.plans.specs.declared.day.Day.{Day}
use Rattle.solver.specs.Selection.Selecting.{Chosen, CanSelect, KnownReal, FindsReal, HigherScored, SegmentOf, CanScoreOn, ScoresOn}
use Rattle.solver.specs.declared.selecting.Scored.{Scored}

-- ---- the lowest conflict, and any that was found, is one to settle

pub lowest_chosen : (d : Day) (m : List ℕ) (c : Option Conflict) → c ≡ conflict_in d.layout d.ds m → Chosen d m c
lowest_chosen d m c e l w a f g =
    let is = conflict_told l m d.ds d.layout c f g e in
    record { real = rw is (conflict_real l w a m); none = λ n. sym is ∙ n }

pub some_chosen : (d : Day) (m : List ℕ) (c : Option Conflict) → KnownReal m d c → (c ≡ None → ⊥) → Chosen d m c
some_chosen d m c real some l w a f g = record { real = real l w a f g; none = λ e. absurd (some e) }

-- ---- what can be selected from

pub select_scans : (m marks : List ℕ) (d : Day) (cost : ℕ) → CanSelect m marks d cost → Scans d.layout d.ds m
select_scans m marks d cost h =
    let w = h.tabled.within in
    record {
      laid_out = (rw h.layout_is w.stations.0, rw h.layout_is w.stations.1, rw h.layout_is w.trains.1);
      directions = directions_size _ _ h.tabled.raisable.directions;
      size = h.planned.carried.least.fit.size;
    }

pub can_select_after : (m marks : List ℕ) (d : Day) (cost : ℕ) → CanSelect m marks d cost → (marks' : List ℕ) →
    marks' ≡ marks → CanSelect m marks' d cost
can_select_after m marks d cost h marks' e = subst (λ (q : List ℕ). CanSelect m q d cost) (sym e) h

-- ---- two trains on a segment

-- there are at most 11 segments and 12 trains
pub on_low : (m marks : List ℕ) (d : Day) (cost : ℕ) (g : Segment) (n p : ℕ) → CanScoreOn m marks d cost g n p → (p < 11) × (n ≤ 12)
on_low m marks d cost g n p h =
    let w = h.tabled.within in (omega (arith, h.on.place, w.stations.1), omega (arith, h.on.trains_are, w.trains.1))

-- any two that the test finds in conflict
pub clash-on : (l : Line) → Within l → Arrays l → (d : Day) (m : List ℕ) → d.ds ≡ directions_of l → (g : Segment) (n p : ℕ) → SegmentOf l g n p →
    (i j : ℕ) → i < n → j < n → (r : Bool) → (r ≡ true → clash g d.ds m p i j ≡ true) → not r ≡ false →
    Clashing l m (record { segment = p; lower = i; higher = j })
clash-on l w a d m ds g n p on i j b c r h e =
    clashing l w a m p on.place i j (omega (arith, on.trains_are)) (omega (arith, on.trains_are))
    (subst (λ (x : List ℕ). clash (segment l p) x m p i j ≡ true) ds
    (subst (λ (x : Segment). clash x d.ds m p i j ≡ true) on.segment_is (h (not-false r e))))

-- the higher scored of two is in conflict where both are
pub higher_real : (l : Line) (m marks marks' : List ℕ) (x : Option Conflict) (old r : Scored) → HigherScored marks x old marks' r → Real l m old.conflict →
    Real l m x → Real l m r.conflict
higher_real l m marks marks' x old r h a b =
    ⊎_elim (λ e. subst (Real l m) (sym e) a) (λ e. subst (Real l m) (sym e) b) h.pick

-- ---- the conflicts on a segment, one after another

pub scores_on_none : (m marks : List ℕ) (d : Day) (g : Segment) (n p : ℕ) (old : Scored) → ScoresOn m marks d g n p old marks old
scores_on_none m marks d g n p old = record { marks_same = refl; real = λ _ _ _ _ _ h. h }

pub scores_on_then : (m marks : List ℕ) (d : Day) (g : Segment) (n p : ℕ) (old : Scored) (marks₁ : List ℕ) (b : Scored) (marks₂ : List ℕ) (r : Scored) →
    ScoresOn m marks d g n p old marks₁ b → ScoresOn m marks₁ d g n p b marks₂ r → ScoresOn m marks d g n p old marks₂ r
scores_on_then m marks d g n p old marks₁ b marks₂ r h k =
    record { marks_same = k.marks_same ∙ h.marks_same; real = λ l w a d on o. k.real l w a d on (h.real l w a d on o) }

pub can_score_on-after : (m marks : List ℕ) (d : Day) (cost : ℕ) (g : Segment) (n p : ℕ) → CanScoreOn m marks d cost g n p → (marks' : List ℕ) →
    marks' ≡ marks → CanScoreOn m marks' d cost g n p
can_score_on-after m marks d cost g n p h marks' e = subst (λ (q : List ℕ). CanScoreOn m q d cost g n p) (sym e) h

-- ---- the places of a layout

pub finds_nothing : (m marks : List ℕ) (d : Day) → FindsReal m marks d marks None
finds_nothing m marks d = record { marks_same = refl; real = λ l _ _ _ _. tt }

pub finds_then : (m marks : List ℕ) (d : Day) (marks₁ : List ℕ) (b : Option Conflict) (marks₂ : List ℕ) (r : Option Conflict) →
    FindsReal m marks d marks₁ b → FindsReal m marks₁ d marks₂ r → FindsReal m marks d marks₂ r
finds_then m marks d marks₁ b marks₂ r h k = record { marks_same = k.marks_same ∙ h.marks_same; real = k.real }

-- the segment at a place below the number of segments
module _ (m marks : List ℕ) (d : Day) (cost : ℕ) (g : Segment) (p : ℕ) (g-is : g ≡ get_or d.layout.segments p no_segment)
    (low : p < d.layout.stations - 1) where
  place_on : (l : Line) → d.layout ≡ layout_of l → SegmentOf l g d.layout.trains p
  place_on l e =
      record {
        place = subst (λ (x : Layout). p < x.stations - 1) e low;
        segment_is = g-is ∙ ap (λ (x : Layout). get_or x.segments p no_segment) e;
        trains_are = ap (λ (x : Layout). x.trains) e;
      }

  pub can_score_on : CanSelect m marks d cost → CanScoreOn m marks d cost g d.layout.trains p
  can_score_on h =
      record {
        line = h.line;
        tabled = h.tabled;
        planned = h.planned;
        on = place_on h.line h.layout_is;
      }

  pub finds_on : (old : Scored) → KnownReal m d old.conflict → (marks' : List ℕ) (r : Scored) →
      ScoresOn m marks d g d.layout.trains p old marks' r → FindsReal m marks d marks' r.conflict
  finds_on old known marks' r h =
      record { marks_same = h.marks_same; real = λ l w a e d. h.real l w a d (place_on l e) (known l w a e d) }

-- the trains at a middle station that are too many for its tracks
pub crowd-on_real : (m : List ℕ) (d : Day) (s tracks : ℕ) → 1 ≤ s → s + 1 < d.layout.stations → tracks ≡ get_or d.layout.tracks s 0 →
    (x : Option Conflict) → x ≡ crowd_at d.ds m d.layout.trains tracks s (earliest_crowd d.ds m d.layout.trains tracks s) → KnownReal m d x
crowd-on_real m d s tracks low high t x e l w a f g =
    let high' : s + 1 < l.track.station_count = subst (λ (y : Layout). s + 1 < y.stations) f high in
    subst (Real l m)
    (sym
    (e ∙ ap (λ (k : ℕ). crowd_at d.ds m d.layout.trains k s (earliest_crowd d.ds m d.layout.trains k s)) t
    ∙ ap (λ (y : Layout). crowd_at d.ds m y.trains (get_or y.tracks s 0) s (earliest_crowd d.ds m y.trains (get_or y.tracks s 0) s)) f
    ∙ ap (λ (z : List ℕ). crowd_at z m l.traffic.train_count (get_or l.track.tracks s 0) s (earliest_crowd z m l.traffic.train_count (get_or l.track.tracks s 0) s)) g))
    (crowd_at_real l w a m s low high')
