-- Laws of writing stop_times.txt: each part is its own text and then what follows it, so that parts written one after the other are the whole.
use Prim.Native.Nat.{ℕ, zero, suc, ◌+◌, ◌-◌, ◌≤◌, ◌<◌}
use Rattle.std.specs.Prelude.{◌≡◌, length}
use Rattle.std.proofs.Math.Path.{refl, sym, ap}
use Rattle.std.proofs.Common.{◌∙◌, length-append}
use mathlib.Core.List.{List, [], ◌∷◌, ◌++◌, append_assoc}
use native.Mathlib.Omega.{arith}
use Rattle.text.specs.Writing.SpliceLaws.{part_fits, Putting, putting_room}
use Rattle.text.specs.Writing.Digits.{field_text}
use Rattle.line.specs.declared.Train.{Train}
use Rattle.line.specs.declared.Line.{Line}
use Rattle.rules.specs.Statement.Paths.{train, legs}
use Rattle.gtfs.specs.declared.stops.StopTime.{StopTime}
use Rattle.gtfs.specs.Stops.{origin_time, time_after}
use Rattle.gtfs.specs.Spell.{header, stop_time_text, stops_text, trip_text, trips_text, stop_times_text, clock_text}

-- ---- a line

module _ (x : StopTime) where
  pub time-parts : stop_time_text x [] ≡
      (84 ∷ []) ++ (field_text x.trip 44 ++ (clock_text x.arrival [] ++ (clock_text x.departure [] ++
      (field_text x.station 44 ++ field_text x.sequence 10))))
  unfolding stop_time_text
  time-parts = simp append_assoc

  -- the letter, two times of nine bytes, and three numbers
  pub time_size : length (stop_time_text x []) ≡
      19 + (length (field_text x.trip 44) + (length (field_text x.station 44) + length (field_text x.sequence 10)))
  time_size =
      let last = field_text x.station 44 ++ field_text x.sequence 10 in
      omega (
        arith,
        ap length time-parts,
        length-append (field_text x.trip 44) (clock_text x.arrival (clock_text x.departure last)),
        length-append (field_text x.station 44) (field_text x.sequence 10),
      )

  time_then : (rest : List ℕ) → stop_time_text x rest ≡ stop_time_text x [] ++ rest
  unfolding stop_time_text
  time_then rest = simp append_assoc

-- ---- the stops of a train, which is train i, after its origin

module _ (t : Train) (m : List ℕ) (i : ℕ) where
  stops_then : (k j : ℕ) (rest : List ℕ) → stops_text k t m i j rest ≡ stops_text k t m i j [] ++ rest
  unfolding stops_text
  stops_then zero j rest = refl
  stops_then (suc k) j rest =
      let x = time_after t m i j in
      time_then x (stops_text k t m i (j + 1) rest)
      ∙ ap (λ (y : List ℕ). stop_time_text x [] ++ y) (stops_then k (j + 1) rest)
      ∙ sym (append_assoc (stop_time_text x []) (stops_text k t m i (j + 1) []) rest)
      ∙ ap (λ (y : List ℕ). y ++ rest) (sym (time_then x (stops_text k t m i (j + 1) [])))

  -- of n legs those to j are written
  module _ (n j : ℕ) where
    -- the text yet to write: the stop to which leg j leads, and the others
    pub next-stop : j < n → stops_text (n - j) t m i j [] ≡ stop_time_text (time_after t m i j) [] ++ stops_text (n - (j + 1)) t m i (j + 1) []
    unfolding stops_text
    next-stop h =
        let more : n - j ≡ suc (n - (j + 1)) = omega arith in
        rw more (time_then (time_after t m i j) (stops_text (n - (j + 1)) t m i (j + 1) []))

    pub no_stop : j ≡ n → stops_text (n - j) t m i j [] ≡ []
    unfolding stops_text
    no_stop e =
        let none : n - j ≡ 0 = omega arith in
        rw none refl

    -- a line fits where the whole does
    pub stop_fits : (now : List ℕ) {whole : List ℕ} → now ++ stops_text (n - j) t m i j [] ≡ whole → j < n →
        length now + length (stop_time_text (time_after t m i j) []) ≤ length whole
    stop_fits now left h =
        part_fits now (stop_time_text (time_after t m i j) []) (stops_text (n - (j + 1)) t m i (j + 1) [])
        (ap (λ (x : List ℕ). now ++ x) (sym (next-stop h)) ∙ left)

    pub stop_room : {entry : List ℕ} {start : ℕ} {whole now : List ℕ} {at : ℕ} → Putting entry start whole now at (stops_text (n - j) t m i j []) → j < n →
        start + length whole ≤ length entry → at + length (stop_time_text (time_after t m i j) []) ≤ length now
    stop_room putting h fits = putting_room (stop_time_text (time_after t m i j) []) (stops_text (n - (j + 1)) t m i (j + 1) []) putting (next-stop h) fits

  -- ---- the trip

  module _ (n : ℕ) where
    pub trip_parts : trip_text n t m i [] ≡ stop_time_text (origin_time t m i) [] ++ stops_text n t m i 0 []
    unfolding trip_text
    trip_parts = time_then (origin_time t m i) (stops_text n t m i 0 [])

    pub trip_size : length (trip_text n t m i []) ≡ length (stop_time_text (origin_time t m i) []) + length (stops_text n t m i 0 [])
    trip_size = ap length trip_parts ∙ length-append (stop_time_text (origin_time t m i) []) (stops_text n t m i 0 [])

    trip_then : (rest : List ℕ) → trip_text n t m i rest ≡ trip_text n t m i [] ++ rest
    unfolding trip_text
    trip_then rest =
        let x = origin_time t m i in
        time_then x (stops_text n t m i 0 rest)
        ∙ ap (λ (y : List ℕ). stop_time_text x [] ++ y) (stops_then n 0 rest)
        ∙ sym (append_assoc (stop_time_text x []) (stops_text n t m i 0 []) rest)
        ∙ ap (λ (y : List ℕ). y ++ rest) (sym (time_then x (stops_text n t m i 0 [])))

-- ---- n trips, of which i are written

module _ (l : Line) (m : List ℕ) (n i : ℕ) where
  pub next_trip : i < n → trips_text (n - i) l m i [] ≡ trip_text (legs l i) (train l i) m i [] ++ trips_text (n - (i + 1)) l m (i + 1) []
  unfolding trips_text
  next_trip h =
      let more : n - i ≡ suc (n - (i + 1)) = omega arith in
      rw more (trip_then (train l i) m i (legs l i) (trips_text (n - (i + 1)) l m (i + 1) []))

  pub no_trip : i ≡ n → trips_text (n - i) l m i [] ≡ []
  unfolding trips_text
  no_trip e =
      let none : n - i ≡ 0 = omega arith in
      rw none refl

  pub trip_fits : (now : List ℕ) {whole : List ℕ} → now ++ trips_text (n - i) l m i [] ≡ whole → i < n →
      length now + length (trip_text (legs l i) (train l i) m i []) ≤ length whole
  trip_fits now left h =
      part_fits now (trip_text (legs l i) (train l i) m i []) (trips_text (n - (i + 1)) l m (i + 1) [])
      (ap (λ (x : List ℕ). now ++ x) (sym (next_trip h)) ∙ left)

  pub trip_room : {entry : List ℕ} {start : ℕ} {whole now : List ℕ} {at : ℕ} → Putting entry start whole now at (trips_text (n - i) l m i []) → i < n →
      start + length whole ≤ length entry → at + length (trip_text (legs l i) (train l i) m i []) ≤ length now
  trip_room putting h fits = putting_room (trip_text (legs l i) (train l i) m i []) (trips_text (n - (i + 1)) l m (i + 1) []) putting (next_trip h) fits

-- ---- the whole text

module _ (l : Line) (m : List ℕ) where
  abbrev trips_part : List ℕ
  trips_part = trips_text l.traffic.train_count l m 0 []

  pub stop_times_parts : stop_times_text l m ≡ header ++ trips_part
  unfolding stop_times_text
  stop_times_parts = refl

  -- the header has 58 bytes
  pub stop_times_size : length (stop_times_text l m) ≡ 58 + length trips_part
  stop_times_size = ap length stop_times_parts ∙ length-append header trips_part
