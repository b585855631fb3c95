-- Laws of the stops of a train: the line of the stop that is due, and the stops and trips a step at a time.
use Rattle.std.specs.Prelude.{ℕ, suc, ◌+◌, ◌*◌, ◌<◌, ◌≤◌, ◌≡◌, Bool, List, length, set, replicate, eqb}
use Rattle.std.proofs.Math.Path.{refl}
use Rattle.std.proofs.Common.{sym, ap, ◌∙◌, arith}
use Rattle.std.proofs.Math.Bool.{true, false}
use borrow.Author.Tests.{eq-eqb, ne_eqb, lt-ltb, le-ltb}
use Rattle.finite.specs.Decide.{Decides}
use Rattle.finite.specs.DecideLaws.{decides_as, decides_and, decides_eq}
use Rattle.text.specs.declared.Cursor.{Cursor}
use Rattle.text.specs.Reading.Choice.{pick}
use Rattle.text.specs.Reading.Parsed.{Parsed}
use Rattle.text.proofs.Reading.ParsedLaws.{then_got, bad_got, got_is}
use Rattle.text.specs.Reading.Fixed.{text_at}
use Rattle.line.specs.declared.Train.{Train}
use Rattle.line.specs.declared.Line.{Line}
use Rattle.line.specs.Record.{legs_of}
use Rattle.rules.specs.Statement.Paths.{train, legs, segment_of}
use Rattle.gtfs.specs.declared.stops.Stop.{Stop}
use Rattle.gtfs.specs.declared.stops.StopTime.{StopTime}
use Rattle.gtfs.specs.Stops.{station_between, is_end, stop_on, timed}
use Rattle.gtfs.specs.Spell.{header}
use Rattle.gtfs.specs.Reading.{stop_time_at, repeats, is_next, due_at, stops_at, trip_at, trips_at, stop_times_file}

-- ---- the line of the stop that is due

-- at an end both times are the same
abbrev pub Repeats : Stop → StopTime → Type 0
Repeats due x = due.end ≡ true → x.arrival ≡ x.departure

pub decides_repeats : (due : Stop) (x : StopTime) → Decides (Repeats due x) (repeats due x)
unfolding repeats
decides_repeats due x = go due.end refl (decides_eq x.arrival x.departure)
  where
    go : (b : Bool) → due.end ≡ b → Decides (x.arrival ≡ x.departure) (eqb x.arrival x.departure) → Decides (Repeats due x) (repeats due x)
    go true e d = rw e (record { yea = λ t _. d.yea t; nay = λ f h. d.nay f (h refl) })
    go false e d = rw e (record { yea = λ t h. let z : ◌≡◌ {A = ℕ} 0 1 = cc in absurd (omega arith); nay = λ f h. let z : ◌≡◌ {A = ℕ} 0 1 = cc in absurd (omega arith) })

-- trip, station and sequence are those of the stop
abbrev pub IsNext : Stop → StopTime → Type 0
IsNext due x = (x.trip ≡ due.trip) × (x.station ≡ due.station) × (x.sequence ≡ due.sequence)

pub decides_next : (due : Stop) (x : StopTime) → Decides (IsNext due x) (is_next due x)
unfolding is_next
decides_next due x =
    decides_as (λ h. (h.0, h.1.0, h.1.1)) (λ h. (h.0, (h.1, h.2)))
    (decides_and (decides_eq _ _) (decides_and (decides_eq _ _) (decides_eq _ _)))

-- the stop with its own times is next
pub timed-next : (due : Stop) (a d : ℕ) → IsNext due (timed due a d)
timed-next due a d = (refl, refl, refl)

-- and what is next is the stop with its times
pub next-timed : (due : Stop) (x : StopTime) → IsNext due x → x ≡ timed due x.arrival x.departure
next-timed due x h = λ i. record { trip = h.0 i; arrival = x.arrival; departure = x.departure; station = h.1 i; sequence = h.2 i }

module _ (due : Stop) (s : List ℕ) (c : Cursor) where
  pub due_malformed : {n p : ℕ} → stop_time_at s c ≡ Parsed.bad n p → due_at due s c ≡ Parsed.bad n p
  unfolding due_at
  due_malformed e = rw e refl

  module _ {x : StopTime} {next : Cursor} (e : stop_time_at s c ≡ Parsed.got x next) where
    pub due_unequal : repeats due x ≡ false → due_at due s c ≡ Parsed.bad 20 c.line
    unfolding due_at
    due_unequal f = rw (e, f) refl

    pub due_other : repeats due x ≡ true → is_next due x ≡ false → due_at due s c ≡ Parsed.bad 21 c.line
    unfolding due_at
    due_other t f = rw (e, t, f) refl

    pub due_value : repeats due x ≡ true → is_next due x ≡ true → due_at due s c ≡ Parsed.got x next
    unfolding due_at
    due_value t u = rw (e, t, u) refl

  -- what was read of the stop that is due
  pub record DueGot (x : StopTime) (next : Cursor) : Type 0 where
    pub time : stop_time_at s c ≡ Parsed.got x next
    pub same : Repeats due x
    pub is : x ≡ timed due x.arrival x.departure

  pub due_got : (x : StopTime) (next : Cursor) → due_at due s c ≡ Parsed.got x next → DueGot x next
  unfolding due_at
  due_got x next e =
      let a = then_got (stop_time_at s c) _ x next e in
      go a.value a.next a.first (repeats due a.value) (is_next due a.value) refl refl a.after
    where
      go : (y : StopTime) (z : Cursor) → stop_time_at s c ≡ Parsed.got y z → (p q : Bool) → repeats due y ≡ p → is_next due y ≡ q →
          pick p (pick q (Parsed.got y z) (Parsed.bad 21 c.line)) (Parsed.bad 20 c.line) ≡ Parsed.got x next → DueGot x next
      go y z h true true hp hq f = got_is DueGot f (record {
        time = h;
        same = (decides_repeats due y).yea hp;
        is = next-timed due y ((decides_next due y).yea hq);
      })
      go y z h true false hp hq f = absurd (bad_got 21 c.line x next f)
      go y z h false q hp hq f = absurd (bad_got 20 c.line x next f)

-- ---- the stops after the origin

module _ (n : ℕ) (t : Train) (i j d : ℕ) (m s : List ℕ) (c : Cursor) where
  pub stops_done : n ≡ 0 → stops_at n t i j d m s c ≡ Parsed.got m c
  unfolding stops_at
  stops_done e = rw e refl

  module _ (k : ℕ) (e : n ≡ suc k) where
    pub stops_refused : {x q : ℕ} → due_at (stop_on t i (j + 1)) s c ≡ Parsed.bad x q → stops_at n t i j d m s c ≡ Parsed.bad x q
    unfolding stops_at
    stops_refused f = rw (e, f) refl

    -- g is the segment of leg j
    pub stops_step : {x : StopTime} {next : Cursor} (g : ℕ) → due_at (stop_on t i (j + 1)) s c ≡ Parsed.got x next → g ≡ segment_of t j →
        stops_at n t i j d m s c ≡ stops_at k t i (j + 1) x.departure (set (set m (16 * g + i) d) (176 + (16 * g + i)) x.arrival) s next
    unfolding stops_at
    stops_step g f h = rw (e, f, h) refl

-- ---- a trip, and the trips

module _ (n : ℕ) (t : Train) (i : ℕ) (m s : List ℕ) (c : Cursor) where
  pub trip_refused : {x q : ℕ} → due_at (stop_on t i 0) s c ≡ Parsed.bad x q → trip_at n t i m s c ≡ Parsed.bad x q
  unfolding trip_at
  trip_refused f = rw f refl

  pub trip_begun : {x : StopTime} {next : Cursor} → due_at (stop_on t i 0) s c ≡ Parsed.got x next → trip_at n t i m s c ≡ stops_at n t i 0 x.departure m s next
  unfolding trip_at
  trip_begun f = rw f refl

module _ (n : ℕ) (l : Line) (i : ℕ) (m s : List ℕ) (c : Cursor) where
  pub trips_done : n ≡ 0 → trips_at n l i m s c ≡ Parsed.got m c
  unfolding trips_at
  trips_done e = rw e refl

  module _ (k : ℕ) (e : n ≡ suc k) where
    pub trips_refused : {x q : ℕ} → trip_at (legs l i) (train l i) i m s c ≡ Parsed.bad x q → trips_at n l i m s c ≡ Parsed.bad x q
    unfolding trips_at
    trips_refused f = rw (e, f) refl

    pub trips_step : {m' : List ℕ} {next : Cursor} → trip_at (legs l i) (train l i) i m s c ≡ Parsed.got m' next →
        trips_at n l i m s c ≡ trips_at k l (i + 1) m' s next
    unfolding trips_at
    trips_step f = rw (e, f) refl

-- ---- the whole text

module _ (l : Line) (s : List ℕ) where
  pub file_no_header : {x q : ℕ} → text_at 20 header s (record { at = 0; line = 1 }) ≡ Parsed.bad x q → stop_times_file l s ≡ Parsed.bad x q
  unfolding stop_times_file
  file_no_header e = rw e refl

  module _ {c : Cursor} (begun : text_at 20 header s (record { at = 0; line = 1 }) ≡ Parsed.got tt c) where
    pub file_no_trips : {x q : ℕ} → trips_at l.traffic.train_count l 0 (replicate 352 0) s c ≡ Parsed.bad x q → stop_times_file l s ≡ Parsed.bad x q
    unfolding stop_times_file
    file_no_trips e = rw (begun, e) refl

    module _ {m : List ℕ} {end : Cursor} (trips : trips_at l.traffic.train_count l 0 (replicate 352 0) s c ≡ Parsed.got m end) where
      pub file_more : end.at < length s → stop_times_file l s ≡ Parsed.bad 20 end.line
      unfolding stop_times_file
      file_more h = rw (begun, trips, lt-ltb end.at (length s) h) refl

      pub file_got : length s ≤ end.at → stop_times_file l s ≡ Parsed.got m end
      unfolding stop_times_file
      file_got h = rw (begun, trips, le-ltb end.at (length s) h) refl

-- ---- for the code

-- stop k from its parts
pub stop_is : (t : Train) (i k : ℕ) {p : ℕ} {b : Bool} → p ≡ station_between t.origin t.destination k → b ≡ is_end t k →
    record { trip = i + 1; station = p; sequence = k + 1; end = b } ≡ stop_on t i k
unfolding stop_on
stop_is t i k e f = rw (e, f) refl

pub end-first : (t : Train) {k : ℕ} {b : Bool} → k ≡ 0 → b ≡ true → b ≡ is_end t k
end-first t {k} e h = rw (eq-eqb k 0 e) h

pub end_later : (t : Train) {k n : ℕ} {b : Bool} → (k ≡ 0 → ⊥) → n ≡ legs_of t → b ≡ eqb k n → b ≡ is_end t k
end_later t {k} e f h = rw (ne_eqb k 0 e) (h ∙ ap (eqb k) f)

-- the line of the stop that is due, as a call told it that was given that stop
pub due_told : (s : List ℕ) (c : Cursor) {stop due : Stop} {r : Parsed StopTime} → stop ≡ due → r ≡ due_at stop s c → due_at due s c ≡ r
due_told s c is told = ap (λ (d : Stop). due_at d s c) (sym is) ∙ sym told
