-- The text of stop_times.txt is short: 4,096 lent bytes always suffice. A line takes at most 28 bytes: the letter (1), three numbers below 100, each with
-- the byte after it (3), and two times (9). At most 12 trains have at most 12 stops each, so that with the header there are at most
-- 58 + 12 · 12 · 28 = 4,090 bytes. The minutes do not matter: a time takes nine bytes whatever it is.
use Prim.Native.Nat.{ℕ, zero, suc, ◌+◌, ◌-◌, ◌*◌, ◌≤◌, ◌<◌}
use Rattle.std.proofs.Common.{ap, ⊎_elim}
use Rattle.std.specs.Prelude.{true, false, cond, ltb, length}
use mathlib.Core.List.{List, []}
use native.Mathlib.Omega.{arith}
use Rattle.line.specs.declared.Train.{Train}
use Rattle.line.specs.declared.Line.{Line}
use Rattle.line.specs.Within.{Within}
use Rattle.line.specs.RunnableLaws.{within_runnable}
use Rattle.line.specs.LengthLaws.{field_short}
use Rattle.line.specs.Spell.{field}
use Rattle.rules.specs.Statement.Paths.{train, legs}
use Rattle.rules.specs.StatementLaws.PathsLaws.{train_or_past, routed_runnable, legs-most}
use Rattle.rules.specs.Check.Tests.{departure_of, arrival_of}
use Rattle.gtfs.specs.declared.stops.StopTime.{StopTime}
use Rattle.gtfs.specs.Stops.{station_between, stop_on, timed, leaves_after}
use Rattle.gtfs.specs.Spell.{clock_text, stop_time_text, stops_text, trip_text, trips_text, stop_times_text}

-- ---- each part, where at most n bytes follow it

line_length : (x : StopTime) (n : ℕ) (rest : List ℕ) → x.trip < 100 → x.station < 100 → x.sequence < 100 → length rest ≤ n →
    length (stop_time_text x rest) ≤ n + 28
unfolding stop_time_text
line_length x n rest trip station sequence h =
    let stop = field x.station 44 (field x.sequence 10 rest) in
    let last : length stop ≤ n + 3 + 3 = field_short x.station 44 _ _ station (field_short x.sequence 10 n rest sequence h) in
    let times : length (clock_text x.arrival (clock_text x.departure stop)) ≤ n + 24 = omega (arith, last) in
    omega (arith, field_short x.trip 44 (n + 24) (clock_text x.arrival (clock_text x.departure stop)) trip times)

-- a path of at most 12 stations, from an origin that is one of 12, has small numbers, whichever way it leads
station_small : (o d k : ℕ) → o ≤ 12 → k ≤ 11 → station_between o d k < 100
unfolding station_between
station_small o d k from path = elim (ltb o d) as (λ c. cond c (o + k) (o - k) < 100) [ true ↦ omega arith | false ↦ omega arith ]

module _ (t : Train) (from : t.origin ≤ 12) (i : ℕ) (few : i < 12) where
  stop-length : (k a d n : ℕ) (rest : List ℕ) → k ≤ 11 → length rest ≤ n → length (stop_time_text (timed (stop_on t i k) a d) rest) ≤ n + 28
  unfolding stop_on
  stop-length k a d n rest path h =
      line_length (timed (stop_on t i k) a d) n rest (omega arith) (station_small t.origin t.destination k from path) (omega arith) h

  stops_length : (m : List ℕ) (k j n : ℕ) (rest : List ℕ) → j + k ≤ 11 → length rest ≤ n → length (stops_text k t m i j rest) ≤ n + k * 28
  unfolding stops_text
  stops_length m zero j n rest path h = omega arith
  stops_length m (suc k) j n rest path h =
      let others = stops_length m k (j + 1) n rest (omega arith) h in
      omega (arith, stop-length (j + 1) (arrival_of t m i j) (leaves_after t m i j) (n + k * 28) (stops_text k t m i (j + 1) rest) (omega arith) others)

  trip_length : (m : List ℕ) (k n : ℕ) (rest : List ℕ) → k ≤ 11 → length rest ≤ n → length (trip_text k t m i rest) ≤ n + 336
  unfolding trip_text
  trip_length m k n rest path h =
      let others = stops_length m k 0 n rest (omega arith) h in
      omega (arith, stop-length 0 (departure_of t m i 0) (departure_of t m i 0) (n + k * 28) (stops_text k t m i 0 rest) (omega arith) others)

-- ---- the trips of a line, and the whole text

module _ (l : Line) (m : List ℕ) (w : Within l) where
  origin_most : (i : ℕ) → i < l.traffic.train_count → (train l i).origin ≤ 12
  origin_most i h =
      ⊎_elim (λ r. (routed_runnable _ (train l i) r w.stations.1).origin.1) (λ e. omega (arith, ap (λ (t : Train). t.origin) e))
      (train_or_past l i (within_runnable l w) h)

  trips_length : (k i n : ℕ) (rest : List ℕ) → i + k ≤ l.traffic.train_count → length rest ≤ n → length (trips_text k l m i rest) ≤ n + k * 336
  unfolding trips_text
  trips_length zero i n rest count h = omega arith
  trips_length (suc k) i n rest count h =
      let here : i < l.traffic.train_count = omega arith in
      let others = trips_length k (i + 1) n rest (omega arith) h in
      let most = legs-most l i (within_runnable l w) here in
      let few : i < 12 = omega (arith, w.trains) in
      omega (arith, trip_length (train l i) (origin_most i here) i few m (legs l i) (n + k * 336) (trips_text k l m (i + 1) rest) most others)

  pub stop_times_fit : length (stop_times_text l m) ≤ 4096
  unfolding stop_times_text
  stop_times_fit = omega (arith, w.trains, trips_length l.traffic.train_count 0 0 [] (omega arith) (omega arith))
