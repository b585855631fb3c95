-- The text of minutes is read as those minutes: each line is read as its stop's, which is the one that is due, and stored into entries of its own.
use Prim.Native.Nat.{ℕ, zero, suc, ◌+◌, ◌-◌, ◌≤◌, ◌<◌}
use Rattle.std.specs.Prelude.{◌≡◌, Bool, ◌||◌, List, [], length, replicate}
use Rattle.std.proofs.Math.Path.{refl, sym}
use Rattle.std.proofs.Common.{◌∙◌}
use Rattle.std.proofs.Math.Bool.{true, false, cond}
use Rattle.std.proofs.lemmas.Bool.{false≢true}
use Rattle.std.proofs.Math.Decide.{dec_lt}
use native.Mathlib.Omega.{arith}
use borrow.Author.Tests.{eqb-true, ne_eqb}
use Rattle.std.proofs.Math.Dec.{ltb, eqb}
use Rattle.std.proofs.lemmas.List.{length-replicate}
use Rattle.finite.specs.Below.{EachFrom}
use Rattle.finite.specs.LoopLaws.{each_first}
use Rattle.finite.specs.DecideLaws.{is_true}
use Rattle.text.specs.declared.Cursor.{Cursor}
use Rattle.text.specs.Reading.Bytes.{from}
use Rattle.text.specs.Reading.BytesLaws.{at_length}
use Rattle.text.specs.Reading.Parsed.{Parsed}
use Rattle.text.proofs.Reading.ParsedLaws.{Reads, at_end}
use Rattle.text.proofs.Reading.FixedLaws.{text_reads}
use Rattle.line.specs.declared.Train.{Train}
use Rattle.line.specs.declared.Line.{Line}
use Rattle.line.specs.Record.{legs_of}
use Rattle.rules.specs.Statement.Paths.{train, legs, segment_of, Routed, EachTrain, EachLeg}
use Rattle.rules.specs.Statement.Minutes.{departs, arrives, departure, arrival}
use Rattle.rules.specs.Statement.Rules.{InDays}
use Rattle.rules.specs.Statement.Delay.{Same}
use Rattle.rules.specs.Check.Tests.{departure_of, arrival_of}
use Rattle.rules.specs.StatementLaws.PathsLaws.{legs_few}
use Rattle.timetable.specs.Reading.{with_leg}
use Rattle.timetable.specs.StoresLaws.{leg_stored, departure_stored, arrival_stored, earlier_stays}
use Rattle.timetable.specs.SpeltLaws.{DaysAt}
use Rattle.gtfs.specs.Stops.{station_between, stop_on, timed, leaves_after, time_after}
use Rattle.gtfs.specs.Spell.{header, stop_time_text, stops_text, trip_text, trips_text, stop_times_text}
use Rattle.gtfs.specs.Reading.{due_at, stops_at, trip_at, trips_at, stop_times_file}
use Rattle.gtfs.specs.LineLaws.{Plain, time_reads}
use Rattle.gtfs.proofs.StopsLaws.{Repeats, decides_repeats, decides_next, timed-next, due_value, stops_step, trip_begun, trips_step, file_got}
use Rattle.gtfs.proofs.SpeltLaws.{leaves_on, leaves_last, stops_stored, trip_stored, trips_stored}

-- ---- the line of a stop with its times

module _ (t : Train) (r : Routed t) (i : ℕ) (few : i < 12) where
  station-most : (k : ℕ) → k ≤ legs_of t → station_between t.origin t.destination k ≤ 9999
  unfolding station_between
  station-most k h = go (ltb t.origin t.destination) refl
    where
      go : (b : Bool) → ltb t.origin t.destination ≡ b → cond b (t.origin + k) (t.origin - k) ≤ 9999
      go true e = omega (arith, r.origin, r.destination)
      go false e = omega (arith, r.origin)

  plain_at : (k a d : ℕ) → k ≤ legs_of t → a ≤ 2879 → d ≤ 2879 → Plain (timed (stop_on t i k) a d)
  unfolding stop_on
  plain_at k a d h ha hd = record {
    trip = omega arith;
    arrival = ha;
    departure = hd;
    station = station-most k h;
    sequence = omega (arith, (legs_few t r).1);
  }

  -- stop k with its times, equal where the path begins or ends, is read where it is due
  due_reads : (s : List ℕ) (c : Cursor) (k a d : ℕ) (rest : List ℕ) → k ≤ legs_of t → a ≤ 2879 → d ≤ 2879 → Repeats (stop_on t i k) (timed (stop_on t i k) a d) →
      from s c ≡ stop_time_text (timed (stop_on t i k) a d) rest → Reads (due_at (stop_on t i k) s c) (timed (stop_on t i k) a d) s rest
  due_reads s c k a d rest h ha hd same e =
      let due = stop_on t i k in
      let x = timed due a d in
      let line = time_reads s c x rest (plain_at k a d h ha hd) e in
      record {
        next = line.next;
        reads = due_value due s c line.reads (is_true (decides_repeats due x) same) (is_true (decides_next due x) (timed-next due a d));
        leaves = line.leaves;
      }

-- ---- the stops of a train, which is train i, with the minutes m

module _ (t : Train) (r : Routed t) (i : ℕ) (few : i < 12) (m s : List ℕ) (days : (q : ℕ) → q < legs_of t → DaysAt t m i q) where
  -- the minutes m₀ become others with those of m for k legs from leg j on
  record StopsRead (k j d : ℕ) (m₀ : List ℕ) (c : Cursor) (rest : List ℕ) : Type 0 where
    minutes : List ℕ
    reads : Reads (stops_at k t i j d m₀ s c) minutes s rest
    same : EachFrom k j (λ q. (departure_of t minutes i q ≡ departure_of t m i q) × (arrival_of t minutes i q ≡ arrival_of t m i q))

  -- the departure from the stop to which leg j leads is of the two days, and that of the next leg, if there is one
  leaves_days : (j : ℕ) → j < legs_of t → leaves_after t m i j ≤ 2879
  leaves_days j h = elim (dec_lt (j + 1) (legs_of t)) [
    | yes l ↦ omega (arith, leaves_on t m i j l, (days (j + 1) l).0)
    | no f ↦ omega (arith, leaves_last t m i j (omega arith), (days j h).1)
  ]

  leaves_repeats : (j : ℕ) → j < legs_of t → Repeats (stop_on t i (j + 1)) (time_after t m i j)
  unfolding stop_on
  leaves_repeats j h e = sym (leaves_last t m i j (ends (eqb (j + 1) (legs_of t)) refl e))
    where
      ends : (b : Bool) → eqb (j + 1) (legs_of t) ≡ b → eqb (j + 1) 0 || b ≡ true → j + 1 ≡ legs_of t
      ends true f g = eqb-true (j + 1) (legs_of t) f
      ends false f g = absurd (false≢true (rw (ne_eqb (j + 1) 0 (λ z. omega arith)) at g))

  stops_read : (k j d : ℕ) (m₀ : List ℕ) (c : Cursor) (rest : List ℕ) → length m₀ ≡ 352 → j + k ≡ legs_of t → (1 ≤ k → d ≡ departure_of t m i j) →
      from s c ≡ stops_text k t m i j rest → StopsRead k j d m₀ c rest
  unfolding stops_text
  stops_read zero j d m₀ c rest size path begun e = record { minutes = m₀; reads = unfold stops_at in at_end m₀ c e; same = λ q low high. absurd (omega arith) }
  stops_read (suc k) j d m₀ c rest size path begun e =
      let a = arrival_of t m i j in
      let next = leaves_after t m i j in
      let others = stops_text k t m i (j + 1) rest in
      let here : j < legs_of t = omega arith in
      let line = due_reads t r i few s c (j + 1) a next others (omega arith) (days j here).1 (leaves_days j here) (leaves_repeats j here) e in
      let more = stops_read k (j + 1) next (with_leg t i j d a m₀) line.next rest ((leg_stored t i j d a m₀).size ∙ size) (omega arith)
      (λ h. leaves_on t m i j (omega arith)) line.leaves in
      let stored = stops_stored t i s k (j + 1) next (with_leg t i j d a m₀) line.next more.minutes more.reads.next more.reads.reads in
      let depart = departure_stored t i r (omega arith) k j d a m₀ more.minutes size (omega arith) stored in
      let arrive = arrival_stored t i r (omega arith) k j d a m₀ more.minutes size (omega arith) stored in
      record {
        minutes = more.minutes;
        reads = record {
          next = more.reads.next;
          reads = stops_step (suc k) t i j d m₀ s c k refl (segment_of t j) line.reads refl ∙ more.reads.reads;
          leaves = more.reads.leaves;
        };
        same = each_first _ k j (depart ∙ begun (omega arith), arrive) more.same;
      }

  -- a trip is read
  record TripRead (m₀ : List ℕ) (c : Cursor) (rest : List ℕ) : Type 0 where
    minutes : List ℕ
    reads : Reads (trip_at (legs_of t) t i m₀ s c) minutes s rest
    same : (q : ℕ) → q < legs_of t → (departure_of t minutes i q ≡ departure_of t m i q) × (arrival_of t minutes i q ≡ arrival_of t m i q)

  trip_read : (m₀ : List ℕ) (c : Cursor) (rest : List ℕ) → length m₀ ≡ 352 → from s c ≡ trip_text (legs_of t) t m i rest → TripRead m₀ c rest
  unfolding trip_text
  trip_read m₀ c rest size e =
      let d = departure_of t m i 0 in
      let some = (legs_few t r).0 in
      let line = due_reads t r i few s c 0 d d (stops_text (legs_of t) t m i 0 rest) (omega arith) (days 0 some).0 (days 0 some).0 (λ _. refl) e in
      let more = stops_read (legs_of t) 0 d m₀ line.next rest size (omega arith) (λ _. refl) line.leaves in
      record {
        minutes = more.minutes;
        reads = record {
          next = more.reads.next;
          reads = trip_begun (legs_of t) t i m₀ s c line.reads ∙ more.reads.reads;
          leaves = more.reads.leaves;
        };
        same = λ q h. more.same q (omega arith) (omega arith);
      }

-- ---- the trips of a line

module _ (l : Line) (few : l.traffic.train_count ≤ 12) (routes : EachTrain l (λ i. Routed (train l i))) (m s : List ℕ) (days : EachTrain l (InDays l m)) where
  abbrev SameTimes : List ℕ → ℕ → Type 0
  SameTimes m' i = EachLeg l i (λ k. (departure l m' i k ≡ departure l m i k) × (arrival l m' i k ≡ arrival l m i k))

  record TripsRead (k i : ℕ) (m₀ : List ℕ) (c : Cursor) (rest : List ℕ) : Type 0 where
    minutes : List ℕ
    reads : Reads (trips_at k l i m₀ s c) minutes s rest
    same : EachFrom k i (SameTimes minutes)

  trips_read : (k i : ℕ) (m₀ : List ℕ) (c : Cursor) (rest : List ℕ) → length m₀ ≡ 352 → i + k ≤ l.traffic.train_count → from s c ≡ trips_text k l m i rest →
      TripsRead k i m₀ c rest
  unfolding trips_text
  trips_read zero i m₀ c rest size count e = record { minutes = m₀; reads = unfold trips_at in at_end m₀ c e; same = λ q low high. absurd (omega arith) }
  trips_read (suc k) i m₀ c rest size count e =
      let t = train l i in
      let one = trip_read t (routes i (omega arith)) i (omega arith) m s (days i (omega arith)) m₀ c (trips_text k l m (i + 1) rest) size e in
      let first = one.reads in
      let long = (trip_stored t i s (legs l i) m₀ c one.minutes first.next first.reads).size ∙ size in
      let more = trips_read k (i + 1) one.minutes first.next rest long (omega arith) first.leaves in
      let kept = earlier_stays l (trips_stored l k (i + 1) one.minutes s first.next more.minutes more.reads.next more.reads.reads) (omega arith) in
      record {
        minutes = more.minutes;
        reads = record {
          next = more.reads.next;
          reads = trips_step (suc k) l i m₀ s c k refl first.reads ∙ more.reads.reads;
          leaves = more.reads.leaves;
        };
        same = each_first (SameTimes more.minutes) k i
            (λ j h.
            let read = one.same j (omega arith) in
            (kept (departs (segment_of t j) i) (omega arith) ∙ read.0, kept (arrives (segment_of t j) i) (omega arith) ∙ read.1))
            more.same;
      }

-- ---- the whole text

-- the text of the minutes m is read as these minutes
pub record StopTimesRead (l : Line) (m : List ℕ) : Type 0 where
  pub minutes : List ℕ
  pub end : Cursor
  pub reads : stop_times_file l (stop_times_text l m) ≡ Parsed.got minutes end
  pub same : Same l minutes m

pub stop_times_read : (l : Line) → l.traffic.train_count ≤ 12 → EachTrain l (λ i. Routed (train l i)) → (m : List ℕ) → EachTrain l (InDays l m) →
    StopTimesRead l m
unfolding stop_times_text
stop_times_read l few routes m days =
    let s = stop_times_text l m in
    let n = l.traffic.train_count in
    let start : Cursor = record { at = 0; line = 1 } in
    let begun = text_reads 20 header s start (trips_text n l m 0 []) refl in
    let lines = trips_read l few routes m s days n 0 (replicate 352 0) begun.next [] (length-replicate {A = ℕ} 352 0) (omega arith) begun.leaves in
    record {
      minutes = lines.minutes;
      end = lines.reads.next;
      reads = file_got l s begun.reads lines.reads.reads (at_length s lines.reads.next lines.reads.leaves);
      same = λ i h. lines.same i (omega arith) (omega arith);
    }
