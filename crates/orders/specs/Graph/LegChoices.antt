-- The choices that the marks at a leg stand for, and what the arcs of one ask.
use Rattle.std.specs.Prelude.{ℕ, ◌+◌, ◌/◌, ◌%◌, ◌≤◌, ◌≡◌, Bool, true, false, List, get_or}
use Rattle.line.specs.declared.Line.{Line}
use Rattle.rules.specs.Statement.Paths.{train, out_of}
use Rattle.rules.specs.Statement.Minutes.{departs}
use Rattle.orders.specs.Plan.Choices.{Choice, on_segment, at_station}
use Rattle.orders.specs.Graph.LegGraph.{LegArc, runs, slow, next, depart, arrive, after, gone, beside, doubled, gap_in, station_of, comes_on}
use Rattle.orders.specs.Lift.Lifting.{Follows, Comes}

-- train j goes after that of leg e on its segment; train j comes to the station of leg e's departure after its train has left
abbrev pub segment_choice : ℕ → ℕ → Choice
segment_choice e j = on_segment (e / 16) (e % 16) j

abbrev pub station_choice : List ℕ → ℕ → ℕ → Choice
station_choice ds e j = at_station (station_of ds e) (e % 16) j

-- what P says of the choice that an arc stands for, if it does
abbrev pub ByChoice : List ℕ → (Choice → Type 0) → LegArc → Type 0
ByChoice ds P (runs e) = Unit {0}
ByChoice ds P (slow e) = Unit {0}
ByChoice ds P (next e) = Unit {0}
ByChoice ds P (depart e j) = P (segment_choice e j)
ByChoice ds P (arrive e j) = P (segment_choice e j)
ByChoice ds P (after e j) = P (segment_choice e j)
ByChoice ds P (gone e j) = P (station_choice ds e j)

-- the first departs at d and arrives at a, the other at d' and a': the gap counts at both where it is doubled, else from arrival to departure
abbrev pub Gap : Bool → ℕ → ℕ → ℕ → ℕ → ℕ → Type 0
Gap c g d a d' a' = (c ≡ true → (d + g ≤ d') × (a + g ≤ a')) × (c ≡ false → a + g ≤ d')

-- the arcs `depart`, `arrive` and `after` of leg e and train j
abbrev pub KeptBehind : List ℕ → List ℕ → List ℕ → ℕ → ℕ → Type 0
KeptBehind t ds m e j =
    Gap (doubled t ds e j) (gap_in t ds e j) (get_or m e 0) (get_or m (176 + e) 0) (get_or m (beside e j) 0) (get_or m (176 + beside e j) 0)

-- the arc `gone`
abbrev pub KeptGone : List ℕ → List ℕ → ℕ → ℕ → Type 0
KeptGone ds m e j = get_or m e 0 + 1 ≤ get_or m (176 + comes_on ds (station_of ds e) j) 0

-- the arcs of a choice
abbrev pub ArcOf : Line → Choice → LegArc → Type 0
ArcOf l (on_segment p i j) = Follows (departs p i) j
ArcOf l (at_station s a b) = Comes (departs (out_of (train l a) s) a) b

-- the leg that goes first by the choice
abbrev pub first_leg : Line → Choice → ℕ
first_leg l (on_segment p i j) = departs p i
first_leg l (at_station s a b) = departs (out_of (train l a) s) a
