-- What holds of the cursors while stop_times.txt is read: a refusal is by 20 or 21, on the line at which the reading stood, which is no later than line 146.
use Prim.Native.Nat.{ℕ, zero, suc, ◌+◌, ◌*◌, ◌≤◌}
use Rattle.std.specs.Prelude.{◌≡◌, Bool, List, ltb, length, replicate}
use Rattle.std.proofs.Math.Path.{refl}
use Rattle.std.proofs.Math.Bool.{true, false}
use native.Mathlib.Omega.{arith}
use Rattle.text.specs.declared.Cursor.{Cursor}
use Rattle.text.specs.Reading.Choice.{pick}
use Rattle.text.specs.Reading.Parsed.{Parsed, then_read}
use Rattle.text.specs.Reading.Fixed.{text_at}
use Rattle.text.specs.Places.Lines.{LineAt, Stood, HoldsOn, AnyNumber, OnLine, Spans}
use Rattle.text.proofs.Places.LinesLaws.{KeepsPassing, keeps_line, line_first, stood_line, stands_then, stands_test, stands_bad, stands_text}
use Rattle.text.proofs.Places.SpansLaws.{spans_then, spans_text, spans_as}
use Rattle.line.specs.declared.Train.{Train}
use Rattle.line.specs.declared.Line.{Line}
use Rattle.line.specs.Runnable.{Runnable}
use Rattle.line.specs.RunnableLaws.{within_runnable}
use Rattle.line.specs.Within.{Within}
use Rattle.rules.specs.Statement.Paths.{train, legs}
use Rattle.rules.specs.StatementLaws.PathsLaws.{legs-most}
use Rattle.timetable.specs.Reading.{with_leg}
use Rattle.gtfs.specs.declared.stops.Stop.{Stop}
use Rattle.gtfs.specs.declared.stops.StopTime.{StopTime}
use Rattle.gtfs.specs.Stops.{stop_on}
use Rattle.gtfs.specs.Spell.{header}
use Rattle.gtfs.specs.Reading.{stop_time_at, repeats, is_next, due_at, stops_at, trip_at, trips_at, stop_times_file}
use Rattle.gtfs.specs.LineLaws.{stands-time, spans_time}

-- ---- what every part of the text keeps

-- of the numbers of an import's refusals
pub record StopTimesNumbers (Q : ℕ → Type 0) : Type 0 where
  pub form : Q 20
  pub path : Q 21

pub any_stop_times_number : StopTimesNumbers AnyNumber
any_stop_times_number = record { form = tt; path = tt }

module _ (s : List ℕ) (P : Cursor → Type 0) (k : KeepsPassing s P) (Q : ℕ → Type 0) (q : StopTimesNumbers Q) where
  pub stands-due : (due : Stop) (c : Cursor) → P c → HoldsOn P Q (due_at due s c)
  unfolding due_at
  stands-due due c h = stands_then P Q (stop_time_at s c) _ (stands-time s P k Q q.form c h) (λ x next w. go x next w (repeats due x) (is_next due x))
    where
      go : (x : StopTime) (next : Cursor) → P next → (a b : Bool) →
          HoldsOn P Q (pick a (pick b (Parsed.got x next) (Parsed.bad 21 c.line)) (Parsed.bad 20 c.line))
      go x next w true true = w
      go x next w true false = record { cursor = c; keeps = h; line = refl; number = q.path }
      go x next w false b = record { cursor = c; keeps = h; line = refl; number = q.form }

  pub stands_stops : (n : ℕ) (t : Train) (i j d : ℕ) (m : List ℕ) (c : Cursor) → P c → HoldsOn P Q (stops_at n t i j d m s c)
  unfolding stops_at
  stands_stops zero t i j d m c h = h
  stands_stops (suc n) t i j d m c h =
      stands_then P Q (due_at (stop_on t i (j + 1)) s c) _ (stands-due (stop_on t i (j + 1)) c h)
      (λ x next w. stands_stops n t i (j + 1) x.departure (with_leg t i j d x.arrival m) next w)

  pub stands_trip : (n : ℕ) (t : Train) (i : ℕ) (m : List ℕ) (c : Cursor) → P c → HoldsOn P Q (trip_at n t i m s c)
  unfolding trip_at
  stands_trip n t i m c h =
      stands_then P Q (due_at (stop_on t i 0) s c) _ (stands-due (stop_on t i 0) c h) (λ x next w. stands_stops n t i 0 x.departure m next w)

  pub stands_trips : (n : ℕ) (l : Line) (i : ℕ) (m : List ℕ) (c : Cursor) → P c → HoldsOn P Q (trips_at n l i m s c)
  unfolding trips_at
  stands_trips zero l i m c h = h
  stands_trips (suc n) l i m c h =
      stands_then P Q (trip_at (legs l i) (train l i) i m s c) _ (stands_trip (legs l i) (train l i) i m c h) (λ m' next w. stands_trips n l (i + 1) m' next w)

-- ---- the numbers and places of an import's refusals

-- 20 or 21
abbrev pub StopTimesNumber : ℕ → Type 0
StopTimesNumber n = (20 ≤ n) × (n ≤ 21)

stop_times_numbers : StopTimesNumbers StopTimesNumber
stop_times_numbers = record { form = (omega arith, omega arith); path = (omega arith, omega arith) }

refused_at : (l : Line) (s : List ℕ) (n p : ℕ) → stop_times_file l s ≡ Parsed.bad n p → Stood (LineAt s) StopTimesNumber n p
unfolding stop_times_file
refused_at l s n p e =
    let start : Cursor = record { at = 0; line = 1 } in
    let k = keeps_line s in
    let q = stop_times_numbers in
    stands_bad (LineAt s) StopTimesNumber _ (
    stands_then (LineAt s) StopTimesNumber (text_at 20 header s start) _ (stands_text s (LineAt s) k StopTimesNumber 20 header q.form start (line_first s))
    (λ _ c h. stands_then (LineAt s) StopTimesNumber (trips_at l.traffic.train_count l 0 (replicate 352 0) s c) _
    (stands_trips s (LineAt s) k StopTimesNumber q l.traffic.train_count l 0 (replicate 352 0) c h)
    (λ m end w. stands_test (LineAt s) StopTimesNumber (ltb end.at (length s)) 20 end _ q.form w w))) e

-- a refusal's place is the line on which a position of the text stands
pub refused_on : (l : Line) (s : List ℕ) (n p : ℕ) → stop_times_file l s ≡ Parsed.bad n p → OnLine s p
refused_on l s n p e = stood_line (refused_at l s n p e)

-- ---- how many lines are read

-- the stops of k trains from train i on
abbrev stop_count : ℕ → Line → ℕ → ℕ
stop_count zero l i = 0
stop_count (suc k) l i = (legs l i + 1) + stop_count k l (i + 1)

module _ (s : List ℕ) where
  spans_due : (due : Stop) (n : ℕ) (c : Cursor) → c.line ≡ n → Spans n (n + 1) (due_at due s c)
  unfolding due_at
  spans_due due n c e = go (stop_time_at s c) (spans_time s n c e)
    where
      held : (x : StopTime) (next : Cursor) → next.line ≡ n + 1 → (a b : Bool) →
          Spans n (n + 1) (pick a (pick b (Parsed.got x next) (Parsed.bad 21 c.line)) (Parsed.bad 20 c.line))
      held x next w true true = w
      held x next w true false = (omega arith, omega arith)
      held x next w false b = (omega arith, omega arith)

      go : (r : Parsed StopTime) → Spans n (n + 1) r →
          Spans n (n + 1) (then_read r (λ x next. pick (repeats due x) (pick (is_next due x) (Parsed.got x next) (Parsed.bad 21 c.line)) (Parsed.bad 20 c.line)))
      go (Parsed.got x next) w = held x next w (repeats due x) (is_next due x)
      go (Parsed.bad k p) w = w

  spans_stops : (k : ℕ) (t : Train) (i j d : ℕ) (m : List ℕ) (n : ℕ) (c : Cursor) → c.line ≡ n → Spans n (n + k) (stops_at k t i j d m s c)
  unfolding stops_at
  spans_stops zero t i j d m n c e = omega arith
  spans_stops (suc k) t i j d m n c e =
      spans_then {m = n + 1} (due_at (stop_on t i (j + 1)) s c) _ (omega arith) (omega arith) (spans_due (stop_on t i (j + 1)) n c e)
      (λ x next w.
      let m' = with_leg t i j d x.arrival m in
      spans_as {n = n + 1} {m = n + 1 + k} (stops_at k t i (j + 1) x.departure m' s next) refl (omega arith) (spans_stops k t i (j + 1) x.departure m' (n + 1) next w))

  spans_trip : (k : ℕ) (t : Train) (i : ℕ) (m : List ℕ) (n : ℕ) (c : Cursor) → c.line ≡ n → Spans n (n + (k + 1)) (trip_at k t i m s c)
  unfolding trip_at
  spans_trip k t i m n c e =
      spans_then {m = n + 1} (due_at (stop_on t i 0) s c) _ (omega arith) (omega arith) (spans_due (stop_on t i 0) n c e)
      (λ x next w.
      spans_as {n = n + 1} {m = n + 1 + k} (stops_at k t i 0 x.departure m s next) refl (omega arith) (spans_stops k t i 0 x.departure m (n + 1) next w))

  spans_trips : (k : ℕ) (l : Line) (i : ℕ) (m : List ℕ) (n : ℕ) (c : Cursor) → c.line ≡ n → Spans n (n + stop_count k l i) (trips_at k l i m s c)
  unfolding trips_at
  spans_trips zero l i m n c e = omega arith
  spans_trips (suc k) l i m n c e =
      let one = n + (legs l i + 1) in
      let all = stop_count k l (i + 1) in
      spans_then {m = one} (trip_at (legs l i) (train l i) i m s c) _ (omega arith) (omega arith) (spans_trip (legs l i) (train l i) i m n c e)
      (λ m' next w. spans_as {n = one} {m = one + all} (trips_at k l (i + 1) m' s next) refl (omega arith) (spans_trips k l (i + 1) m' one next w))

count_most : (l : Line) → Runnable l → (k i : ℕ) → i + k ≤ l.traffic.train_count → stop_count k l i ≤ 12 * k
count_most l w zero i h = omega arith
count_most l w (suc k) i h = omega (arith, legs-most l i w (omega arith), count_most l w k (i + 1) (omega arith))

-- an import is refused by 20 or 21, on a line from 1 to 146: "No length number" is needed
pub record ImportRefusal (n p : ℕ) : Type 0 where
  pub number : StopTimesNumber n
  pub place : (1 ≤ p) × (p ≤ 146)

pub import_refusal : (l : Line) → Within l → (s : List ℕ) (n p : ℕ) → stop_times_file l s ≡ Parsed.bad n p → ImportRefusal n p
import_refusal l w s n p e = record { number = (refused_at l s n p e).number; place = bounded (unfold stop_times_file in rw e at whole) }
  where
    trains : ℕ
    trains = l.traffic.train_count

    start : Cursor
    start = record { at = 0; line = 1 }

    most : stop_count trains l 0 ≤ 144
    most = omega (arith, count_most l (within_runnable l w) trains 0 (omega arith), w.trains)

    -- bytes after the end are on the line after the last
    ended : (m : List ℕ) (end : Cursor) → end.line ≡ 2 + stop_count trains l 0 → (b : Bool) →
        Spans (2 + stop_count trains l 0) (2 + stop_count trains l 0) (pick b (Parsed.bad 20 end.line) (Parsed.got m end))
    ended m end h true = (omega arith, omega arith)
    ended m end h false = h

    whole : Spans 1 (2 + stop_count trains l 0) (stop_times_file l s)
    whole = unfold stop_times_file in
        spans_then {m = 2} (text_at 20 header s start) _ (omega arith) (omega arith) (spans_text 20 header s start)
        (λ _ c h. spans_then {m = 2 + stop_count trains l 0} (trips_at trains l 0 (replicate 352 0) s c) _ (omega arith) (omega arith)
        (spans_trips s trains l 0 (replicate 352 0) 2 c h)
        (λ m end v. ended m end v (ltb end.at (length s))))

    bounded : Spans {A = List ℕ} 1 (2 + stop_count trains l 0) (Parsed.bad n p) → (1 ≤ p) × (p ≤ 146)
    bounded h = (h.0, omega (arith, h.1, most))
