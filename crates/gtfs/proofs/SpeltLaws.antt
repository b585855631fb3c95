-- What is read of stop_times.txt is that text: each line that was read is the line of its stop, and no later line is stored over the minutes of an earlier
-- one. The departure that a line has belongs to the next leg, so it is carried until that leg's arrival is read.
use Prim.Native.Nat.{ℕ, zero, suc, ◌+◌, ◌≤◌, ◌<◌}
use Rattle.std.specs.Prelude.{◌≡◌, Bool, true, false, ◌||◌, ltb, eqb, length, get_or, replicate}
use Rattle.std.proofs.Math.Path.{refl, sym, ap}
use Rattle.std.proofs.Common.{◌∙◌, arith, ltb-false, lt-ltb, le-ltb, eq-eqb}
use mathlib.Core.List.{List, [], ◌++◌}
use Rattle.std.proofs.Math.ListN.{length-replicate, drop_of_length-le}
use Rattle.finite.specs.Below.{EachFrom}
use Rattle.finite.specs.LoopLaws.{each_first}
use Rattle.text.specs.declared.Cursor.{Cursor}
use Rattle.text.specs.Reading.Bytes.{from}
use Rattle.text.specs.Reading.Parsed.{Parsed}
use Rattle.text.proofs.Reading.ParsedLaws.{then_got, pick_got, got_is}
use Rattle.text.specs.Reading.Fixed.{text_at}
use Rattle.text.proofs.Reading.FixedLaws.{text_spelt}
use Rattle.line.specs.declared.Train.{Train}
use Rattle.line.specs.declared.Line.{Line}
use Rattle.line.specs.Record.{legs_of}
use Rattle.rules.specs.Statement.Paths.{train, legs, segment_of, Routed, EachTrain}
use Rattle.rules.specs.Statement.Minutes.{departs, arrives}
use Rattle.rules.specs.Statement.Rules.{InDays}
use Rattle.rules.specs.Check.Tests.{departure_of, arrival_of}
use Rattle.rules.specs.StatementLaws.PathsLaws.{legs_few}
use Rattle.timetable.specs.Reading.{with_leg}
use Rattle.timetable.specs.StoresLaws.{LegsStored, leg_stored, departure_stored, arrival_stored, TrainsStored, earlier_stays, OfNoLeg, idle_zero}
use Rattle.timetable.specs.SpeltLaws.{DaysAt}
use Rattle.gtfs.specs.declared.stops.StopTime.{StopTime}
use Rattle.gtfs.specs.Stops.{stop_on, leaves_after, time_after, origin_time}
use Rattle.gtfs.specs.Spell.{header, stop_time_text, stops_text, trip_text, trips_text, stop_times_text}
use Rattle.gtfs.specs.Reading.{due_at, stops_at, trip_at, trips_at, stop_times_file}
use Rattle.gtfs.specs.LineLaws.{bytes_so, time-spelt}
use Rattle.gtfs.proofs.StopsLaws.{due_got}
use Rattle.gtfs.specs.SameTextLaws.{trip_same}

-- ---- the departure from the stop to which leg j leads

module _ (t : Train) (m : List ℕ) (i j : ℕ) where
  pub leaves_on : j + 1 < legs_of t → leaves_after t m i j ≡ departure_of t m i (j + 1)
  unfolding leaves_after
  leaves_on h = rw (lt-ltb (j + 1) (legs_of t) h) refl

  pub leaves_last : j + 1 ≡ legs_of t → leaves_after t m i j ≡ arrival_of t m i j
  unfolding leaves_after
  leaves_last h = rw (le-ltb (j + 1) (legs_of t) (omega arith)) refl

-- the path ends at the stop to which its last leg leads
pub last_end : (t : Train) (i k : ℕ) → k ≡ legs_of t → (stop_on t i k).end ≡ true
unfolding stop_on
last_end t i k e = rw (eq-eqb k (legs_of t) e) (or_true (eqb k 0))
  where
    or_true : (b : Bool) → b || true ≡ true
    or_true true = refl
    or_true false = refl

pub first-end : (t : Train) (i : ℕ) → (stop_on t i 0).end ≡ true
unfolding stop_on
first-end t i = refl

-- ---- what was stored

module _ (t : Train) (i : ℕ) (s : List ℕ) where
  pub stops_stored : (k j d : ℕ) (m : List ℕ) (c : Cursor) (m' : List ℕ) (next : Cursor) → stops_at k t i j d m s c ≡ Parsed.got m' next → LegsStored t i k j m m'
  unfolding stops_at
  stops_stored zero j d m c m' next e = got_is (λ y _. LegsStored t i 0 j m y) e (record { size = refl; stays = λ x off. refl })
  stops_stored (suc k) j d m c m' next e =
      let a = then_got (due_at (stop_on t i (j + 1)) s c) _ m' next e in
      let h = stops_stored k (j + 1) a.value.departure (with_leg t i j d a.value.arrival m) a.next m' next a.after in
      let one = leg_stored t i j d a.value.arrival m in
      record {
        size = h.size ∙ one.size;
        stays = λ x off. h.stays x (λ q low high. off q (omega arith) (omega arith)) ∙ one.stays x (λ q low high. off q low (omega arith));
      }

  pub trip_stored : (n : ℕ) (m : List ℕ) (c : Cursor) (m' : List ℕ) (next : Cursor) → trip_at n t i m s c ≡ Parsed.got m' next → LegsStored t i n 0 m m'
  unfolding trip_at
  trip_stored n m c m' next e =
      let a = then_got (due_at (stop_on t i 0) s c) _ m' next e in
      stops_stored n 0 a.value.departure m a.next m' next a.after

pub trips_stored : (l : Line) (k i : ℕ) (m s : List ℕ) (c : Cursor) (m' : List ℕ) (next : Cursor) → trips_at k l i m s c ≡ Parsed.got m' next →
    TrainsStored l k i m m'
unfolding trips_at
trips_stored l zero i m s c m' next e = got_is (λ y _. TrainsStored l 0 i m y) e (record { size = refl; stays = λ x off. refl })
trips_stored l (suc k) i m s c m' next e =
    let a = then_got (trip_at (legs l i) (train l i) i m s c) _ m' next e in
    let one = trip_stored (train l i) i s (legs l i) m c a.value a.next a.first in
    let others = trips_stored l k (i + 1) a.value s a.next m' next a.after in
    record {
      size = others.size ∙ one.size;
      stays = λ x off. others.stays x (λ q low high. off q (omega arith) (omega arith)) ∙ one.stays x (off i (omega arith) (omega arith));
    }

-- ---- the stops of a train, which is train i

module _ (t : Train) (r : Routed t) (i : ℕ) (few : i < 16) (s : List ℕ) where
  -- the stops to which k legs from leg j on lead, that were read; the departure before them was d
  record StopsSpelt (k j d : ℕ) (c : Cursor) (m : List ℕ) (next : Cursor) : Type 0 where
    days : d ≤ 2879 → EachFrom k j (DaysAt t m i)
    begun : 1 ≤ k → departure_of t m i j ≡ d
    text : from s c ≡ stops_text k t m i j (from s next)

  -- the departure from a stop that was read is that of the next leg, or repeats the arrival
  left_after : (k j : ℕ) (x : StopTime) (m : List ℕ) → j + suc k ≡ legs_of t → arrival_of t m i j ≡ x.arrival →
      ((stop_on t i (j + 1)).end ≡ true → x.arrival ≡ x.departure) → (1 ≤ k → departure_of t m i (j + 1) ≡ x.departure) → leaves_after t m i j ≡ x.departure
  left_after zero j x m path arrive same on =
      leaves_last t m i j (omega arith) ∙ arrive ∙ same (last_end t i (j + 1) (omega arith))
  left_after (suc k) j x m path arrive same on = leaves_on t m i j (omega arith) ∙ on (omega arith)

  stops_spelt : (k j d : ℕ) (m : List ℕ) (c : Cursor) (m' : List ℕ) (next : Cursor) → length m ≡ 352 → j + k ≡ legs_of t →
      stops_at k t i j d m s c ≡ Parsed.got m' next → StopsSpelt k j d c m' next
  unfolding stops_at stops_text
  stops_spelt zero j d m c m' next size path e =
      got_is (λ y end. StopsSpelt 0 j d c y end) e (record { days = λ _ q low high. absurd (omega arith); begun = λ h. absurd (omega arith); text = refl })
  stops_spelt (suc k) j d m c m' next size path e =
      let a = then_got (due_at (stop_on t i (j + 1)) s c) _ m' next e in
      let x = a.value in
      let due = due_got (stop_on t i (j + 1)) s c x a.next a.first in
      let line = time-spelt s c x a.next due.time in
      let stored = stops_stored t i s k (j + 1) x.departure (with_leg t i j d x.arrival m) a.next m' next a.after in
      let depart = departure_stored t i r few k j d x.arrival m m' size (omega arith) stored in
      let arrive = arrival_stored t i r few k j d x.arrival m m' size (omega arith) stored in
      let long = (leg_stored t i j d x.arrival m).size ∙ size in
      let others = stops_spelt k (j + 1) x.departure (with_leg t i j d x.arrival m) a.next m' next long (omega arith) a.after in
      let leaves = left_after k j x m' path arrive due.same others.begun in
      let is : x ≡ time_after t m' i j = due.is ∙ (rw (arrive, leaves) refl) in
      record {
        days = λ h. each_first (DaysAt t m' i) k j (omega (arith, depart), omega (arith, arrive, line.arrival)) (others.days line.departure);
        begun = λ _. depart;
        text = line.text ∙ ap (λ (y : StopTime). stop_time_text y (from s a.next)) is ∙ ap (stop_time_text (time_after t m' i j)) others.text;
      }

  -- a trip that was read
  record TripSpelt (c : Cursor) (m : List ℕ) (next : Cursor) : Type 0 where
    days : (q : ℕ) → q < legs_of t → DaysAt t m i q
    text : from s c ≡ trip_text (legs_of t) t m i (from s next)

  trip_spelt : (m : List ℕ) (c : Cursor) (m' : List ℕ) (next : Cursor) → length m ≡ 352 → trip_at (legs_of t) t i m s c ≡ Parsed.got m' next → TripSpelt c m' next
  unfolding trip_at trip_text
  trip_spelt m c m' next size e =
      let a = then_got (due_at (stop_on t i 0) s c) _ m' next e in
      let x = a.value in
      let due = due_got (stop_on t i 0) s c x a.next a.first in
      let line = time-spelt s c x a.next due.time in
      let others = stops_spelt (legs_of t) 0 x.departure m a.next m' next size (omega arith) a.after in
      let depart = others.begun (legs_few t r).0 in
      let arrive : x.arrival ≡ x.departure = due.same (first-end t i) in
      let is : x ≡ origin_time t m' i = due.is ∙ (rw (arrive, depart) refl) in
      record {
        days = λ q h. others.days line.departure q (omega arith) (omega arith);
        text = line.text ∙ ap (λ (y : StopTime). stop_time_text y (from s a.next)) is ∙ ap (stop_time_text (origin_time t m' i)) others.text;
      }

-- ---- the trips of a line

module _ (l : Line) (few : l.traffic.train_count ≤ 12) (routes : EachTrain l (λ i. Routed (train l i))) (s : List ℕ) where
  -- k trips from train i's on that were read
  record TripsSpelt (k i : ℕ) (c : Cursor) (m : List ℕ) (next : Cursor) : Type 0 where
    days : EachFrom k i (InDays l m)
    text : from s c ≡ trips_text k l m i (from s next)

  trips_spelt : (k i : ℕ) (m : List ℕ) (c : Cursor) (m' : List ℕ) (next : Cursor) → length m ≡ 352 → i + k ≤ l.traffic.train_count →
      trips_at k l i m s c ≡ Parsed.got m' next → TripsSpelt k i c m' next
  unfolding trips_at trips_text
  trips_spelt zero i m c m' next size count e = got_is (λ y end. TripsSpelt 0 i c y end) e (record { days = λ q low high. absurd (omega arith); text = refl })
  trips_spelt (suc k) i m c m' next size count e =
      let t = train l i in
      let a = then_got (trip_at (legs l i) t i m s c) _ m' next e in
      let one = trip_spelt t (routes i (omega arith)) i (omega arith) s m c a.value a.next size a.first in
      let long = (trip_stored t i s (legs l i) m c a.value a.next a.first).size ∙ size in
      let kept = earlier_stays l (trips_stored l k (i + 1) a.value s a.next m' next a.after) (omega arith) in
      let others = trips_spelt k (i + 1) a.value a.next m' next long (omega arith) a.after in
      let same : (q : ℕ) → (departure_of t a.value i q ≡ departure_of t m' i q) × (arrival_of t a.value i q ≡ arrival_of t m' i q) =
      λ q. (sym (kept (departs (segment_of t q) i) (omega arith)), sym (kept (arrives (segment_of t q) i) (omega arith))) in
      record {
        days = each_first (InDays l m') k i
            (λ j h. let d = one.days j (omega arith) in (omega (arith, d.0, (same j).0), omega (arith, d.1, (same j).1)))
            others.days;
        text = one.text ∙ ap (trip_text (legs l i) t a.value i) others.text ∙ trip_same a.value m' t i same (legs l i) _;
      }

-- ---- the whole text

-- what is known of a text that was read
pub record StopTimesSpelt (l : Line) (s m : List ℕ) : Type 0 where
  pub text : s ≡ stop_times_text l m
  pub days : EachTrain l (InDays l m)
  pub many : length m ≡ 352
  pub idle : (x : ℕ) → OfNoLeg l x → get_or m x 0 ≡ 0

module _ (l : Line) (few : l.traffic.train_count ≤ 12) (routes : EachTrain l (λ i. Routed (train l i))) (s : List ℕ) where
  pub stop_times_spelt : (m : List ℕ) (end : Cursor) → stop_times_file l s ≡ Parsed.got m end → StopTimesSpelt l s m
  unfolding stop_times_file stop_times_text
  stop_times_spelt m end e =
      let start : Cursor = record { at = 0; line = 1 } in
      let n = l.traffic.train_count in
      let a = then_got (text_at 20 header s start) _ m end e in
      let b = then_got (trips_at n l 0 (replicate 352 0) s a.next) _ m end a.after in
      let ended = pick_got (ltb b.next.at (length s)) 20 b.next.line _ m end b.after in
      let none : from s b.next ≡ [] = drop_of_length-le s (ltb-false b.next.at (length s) ended.0) in
      let long = length-replicate {A = ℕ} 352 0 in
      let stored = trips_stored l n 0 (replicate 352 0) s a.next b.value b.next b.first in
      let lines = trips_spelt l few routes s n 0 (replicate 352 0) a.next b.value b.next long (omega arith) b.first in
      got_is (λ x _. StopTimesSpelt l s x) ended.1 (record {
        text =
            text_spelt 20 header s start a.next (bytes_so header refl) a.first
            ∙ ap (λ (y : List ℕ). header ++ y) lines.text
            ∙ ap (λ (y : List ℕ). header ++ trips_text n l b.value 0 y) none;
        days = λ i h. lines.days i (omega arith) (omega arith);
        many = stored.size ∙ long;
        idle = idle_zero l stored;
      })
