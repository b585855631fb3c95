-- The arcs of a line's legs, as raising sees them: from the tables, the directions and the marks. Entry e is leg e's departure, entry 176 + e its arrival.
use Rattle.std.specs.Prelude.{ℕ, ◌+◌, ◌*◌, ◌-◌, ◌/◌, ◌%◌, ◌≤◌, ◌<◌, ◌≡◌, Bool, true, false, cond, ◌&&◌, ◌⊎◌, List, length, get_or, eqb}
use Rattle.orders.specs.Plan.Bits.{in_mask}
use Rattle.orders.specs.LineTables.Tables.{table_size, run_in, stop_in, next_in, limit_in, weight_in, rest_in, last_in, shared_in, following_in, opposing_in}
use Rattle.orders.specs.Raise.Raising.{Graph}

-- a leg of a train takes its run, no less (`runs`) and no more (`slow`); the train's next leg; train j after the train of this leg on the segment, by
-- departure and arrival (`depart`, `arrive`) or from its arrival (`after`); train j comes to the station of departure after the train of this leg has left
pub data LegArc : Type 0 where
  runs : ℕ → LegArc
  slow : ℕ → LegArc
  next : ℕ → LegArc
  depart : ℕ → ℕ → LegArc
  arrive : ℕ → ℕ → LegArc
  after : ℕ → ℕ → LegArc
  gone : ℕ → ℕ → LegArc

-- leg e is one of a train: it goes over the segment, 1 outbound, 2 inbound
abbrev pub way_in : List ℕ → ℕ → ℕ
way_in ds e = get_or ds e 0

-- the leg of train j on the segment of leg e
abbrev pub beside : ℕ → ℕ → ℕ
beside e j = 16 * (e / 16) + j

-- the two go the same way
abbrev pub alike : List ℕ → ℕ → ℕ → Bool
alike ds e j = eqb (way_in ds e) (way_in ds (beside e j))

-- the gap counts at departure and at arrival
abbrev pub doubled : List ℕ → List ℕ → ℕ → ℕ → Bool
doubled t ds e j = alike ds e j && eqb (shared_in t (e / 16)) 1

abbrev pub gap_in : List ℕ → List ℕ → ℕ → ℕ → ℕ
gap_in t ds e j = cond (alike ds e j) (following_in t (e / 16)) (opposing_in t (e / 16))

-- the station that leg e departs from: segment p joins the stations p and p + 1
abbrev pub station_of : List ℕ → ℕ → ℕ
station_of ds e = cond (eqb (way_in ds e) 1) (e / 16) (e / 16 + 1)

-- the row of the marks of leg e's departure
abbrev pub leaving : List ℕ → ℕ → ℕ
leaving ds e = 176 + (16 * station_of ds e + e % 16)

-- the leg on which train j, which has station s as a middle one, comes to it
abbrev pub comes_on : List ℕ → ℕ → ℕ → ℕ
comes_on ds s j = cond (eqb (way_in ds (16 * s + j)) 1) (16 * (s - 1) + j) (16 * s + j)

-- a train has leg e
abbrev pub UsedLeg : List ℕ → ℕ → Type 0
UsedLeg ds e = (e < 176) × (way_in ds e ≡ 0 → ⊥)

module _ (marks t ds : List ℕ) where
  abbrev pub UsedArc : LegArc → Type 0
  UsedArc (runs e) = UsedLeg ds e
  UsedArc (slow e) = UsedLeg ds e
  UsedArc (next e) = UsedLeg ds e × (next_in t e ≡ e → ⊥)
  UsedArc (depart e j) = UsedLeg ds e × (j < 12) × (in_mask (get_or marks e 0) j ≡ true) × (doubled t ds e j ≡ true)
  UsedArc (arrive e j) = UsedLeg ds e × (j < 12) × (in_mask (get_or marks e 0) j ≡ true) × (doubled t ds e j ≡ true)
  UsedArc (after e j) = UsedLeg ds e × (j < 12) × (in_mask (get_or marks e 0) j ≡ true) × (doubled t ds e j ≡ false)
  UsedArc (gone e j) = UsedLeg ds e × (j < 12) × (in_mask (get_or marks (leaving ds e) 0) j ≡ true)

  abbrev pub from_leg : LegArc → ℕ
  from_leg (runs e) = e
  from_leg (slow e) = 176 + e
  from_leg (next e) = 176 + e
  from_leg (depart e j) = e
  from_leg (arrive e j) = 176 + e
  from_leg (after e j) = 176 + e
  from_leg (gone e j) = e

  abbrev pub to_leg : LegArc → ℕ
  to_leg (runs e) = 176 + e
  to_leg (slow e) = e
  to_leg (next e) = next_in t e
  to_leg (depart e j) = beside e j
  to_leg (arrive e j) = 176 + beside e j
  to_leg (after e j) = beside e j
  to_leg (gone e j) = 176 + comes_on ds (station_of ds e) j

  abbrev pub wait_leg : LegArc → ℕ
  wait_leg (runs e) = run_in t e
  wait_leg (slow e) = 0
  wait_leg (next e) = stop_in t e
  wait_leg (depart e j) = gap_in t ds e j
  wait_leg (arrive e j) = gap_in t ds e j
  wait_leg (after e j) = gap_in t ds e j
  wait_leg (gone e j) = 1

  abbrev pub allow_leg : LegArc → ℕ
  allow_leg (runs e) = 0
  allow_leg (slow e) = run_in t e
  allow_leg (next e) = 0
  allow_leg (depart e j) = 0
  allow_leg (arrive e j) = 0
  allow_leg (after e j) = 0
  allow_leg (gone e j) = 0

  -- from the departure of a leg as the source: the arcs from its arrival to that of a train behind it, which are raised for by themselves
  abbrev pub LaterLeg : ℕ → LegArc → Type 0
  LaterLeg src (runs e) = ⊥
  LaterLeg src (slow e) = ⊥
  LaterLeg src (next e) = ⊥
  LaterLeg src (depart e j) = ⊥
  LaterLeg src (arrive e j) = e ≡ src
  LaterLeg src (after e j) = ⊥
  LaterLeg src (gone e j) = ⊥

abbrev pub leg_graph : List ℕ → List ℕ → List ℕ → Graph
leg_graph marks t ds =
    record {
      Arc = LegArc;
      Used = UsedArc marks t ds;
      from = from_leg marks t ds;
      to = to_leg marks t ds;
      wait = wait_leg marks t ds;
      allow = allow_leg marks t ds;
      Later = LaterLeg marks t ds;
    }

-- no arrival is past its limit
abbrev pub InLimits : List ℕ → List ℕ → List ℕ → Type 0
InLimits t ds m = (e : ℕ) → UsedLeg ds e → get_or m (176 + e) 0 ≤ limit_in t e

-- leg e is its train's last: nothing is left after it
abbrev pub Ends : List ℕ → ℕ → Type 0
Ends t e = (next_in t e ≡ e) × (rest_in t e ≡ 0) × (last_in t e ≡ e)

-- after leg e its train stops, runs over leg f, and has what is left from there
abbrev pub GoesOn : List ℕ → ℕ → ℕ → Type 0
GoesOn t e f = (1 ≤ run_in t f) × (rest_in t e ≡ stop_in t e + run_in t f + rest_in t f) × (last_in t e ≡ last_in t f)

-- the tables and marks are of a shape that raising can go by: lengths and bounds, every arc that is there ends at a leg of a train, and what is left of a
-- train gets less from leg to leg. A stop may take 480 minutes, twice what a file may say, and so ten stops and runs 7,200.
pub record Shaped (marks t ds : List ℕ) : Type 0 where
  pub marks_size : length marks ≡ 368
  pub tables_size : length t ≡ table_size
  pub directions_size : length ds ≡ 176
  pub run-most : (e : ℕ) → e < 176 → run_in t e ≤ 240
  pub stop-most : (e : ℕ) → e < 176 → stop_in t e ≤ 480
  pub limit_most : (e : ℕ) → e < 176 → limit_in t e ≤ 2879
  pub weight-most : (e : ℕ) → e < 176 → weight_in t e ≤ 99
  pub gap-most : (p : ℕ) → p < 11 → (following_in t p ≤ 60) × (opposing_in t p ≤ 60)
  pub next_used : (e : ℕ) → UsedLeg ds e → UsedLeg ds (next_in t e)
  pub last_used : (e : ℕ) → UsedLeg ds e → UsedLeg ds (last_in t e)
  pub rest_most : (e : ℕ) → UsedLeg ds e → rest_in t e ≤ 7200
  pub rest_falls : (e : ℕ) → UsedLeg ds e → Ends t e ⊎ GoesOn t e (next_in t e)
  pub beside_used : (e j : ℕ) → UsedLeg ds e → j < 12 → in_mask (get_or marks e 0) j ≡ true → UsedLeg ds (beside e j)
  pub comes_used : (e j : ℕ) → UsedLeg ds e → j < 12 → in_mask (get_or marks (leaving ds e) 0) j ≡ true →
      UsedLeg ds (comes_on ds (station_of ds e) j)
