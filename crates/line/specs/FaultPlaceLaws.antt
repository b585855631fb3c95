-- Places of the writer: "Writing a record gives 3 or 4 with the line its field would have", and 19 so too. The sums of counts that name a line are right: in the text of
-- the record, what is at fault begins on that line (`fault_begins`), and there a reader's cursor stands on it (`begins_line`).
use Rattle.std.specs.Prelude.{ℕ, suc, ◌+◌, ◌-◌, ◌<◌, ◌≤◌, ◌⊎◌, Bool, true, not, ◌&&◌, eqb, ltb, length, get_or, take, drop, Option, Some, None, Ok, Err}
use Rattle.std.specs.Result.{result_and}
use Rattle.std.proofs.Math.Path.{◌≡◌, refl, sym, ap}
use Rattle.std.proofs.Common.{◌∙◌, length-take-le}
use Rattle.std.proofs.Math.Logic.{inl, inr, ⊎_elim}
use Rattle.std.proofs.Math.Bool.{false, and-false}
use mathlib.Core.List.{List, [], ◌∷◌, ◌++◌, append_assoc}
use Rattle.std.proofs.Math.Decide.{dec_le}
use native.Mathlib.Omega.{arith}
use borrow.Author.Tests.{ne_eqb}
use Rattle.text.specs.declared.Limits.{Limits}
use Rattle.text.specs.declared.Refusal.{Refusal}
use Rattle.text.specs.Reading.Choice.{pick}
use Rattle.text.specs.Reading.Limits.{bounded_of}
use Rattle.text.specs.Reading.Told.{refusal}
use Rattle.text.specs.Writing.Digits.{digits, field_text}
use Rattle.text.specs.Elements.EachThen.{each_then}
use Rattle.text.specs.Sections.Chained.{nothing, optional_text}
use Rattle.text.proofs.Sections.ChainedLaws.{optional_nothing}
use Rattle.text.specs.Places.Lines.{feeds}
use Rattle.text.specs.Places.FeedsLaws.{feeds-append, feeds-digits, feeds_each, Begins, each_begins}
use Rattle.line.specs.declared.Kind.{Kind}
use Rattle.line.specs.declared.Segment.{Segment}
use Rattle.line.specs.declared.Train.{Train}
use Rattle.line.specs.declared.Booking.{Booking}
use Rattle.line.specs.declared.Listed.{Listed}
use Rattle.line.specs.declared.Line.{Line}
use Rattle.line.specs.Ranges.{In, station_count, tracks, gap, train_count, train_number, booking_count, list_count, station, time, weight, run, stop}
use Rattle.line.specs.Record.{no_segment, no_train, no_booking, no_listed, tracks_of, segments_of, trains_of, bookings_of, runs_of, stops_of}
use Rattle.line.specs.Bookings.{bookable}
use Rattle.line.specs.Within.{Arrays}
use Rattle.line.specs.Spell.{field, station_text, letter_byte, segment_text, journey_text, train_text, booking_text, listed_text, array_text, booked_text, unbooked, train_list_text, unlisted, dues_text, text_of}
use Rattle.line.specs.SpellLaws.{station_then, segment_then, train_then, booking_then, listed_then, each_then_lem, field-some}
use Rattle.line.specs.Writing.{Checked, value_fault, number_fault, lines_fault, times_fault, track_fault, segment_fault, path_fault, head_fault, train_fault, booking_fault, listed_fault, rising_fault, counted_fault, track_fault_of, traffic_fault_of, bookings_line, booked_fault_of, list_fault, dues_line, dues_fault_of, fault_of}
use Rattle.line.specs.FaultLaws.{tells_number, stations_fit, trains_fit, bookings_fit}

-- ---- each line has one line feed, its last byte

station_feed : (t : ℕ) → feeds (station_text t []) ≡ 1
station_feed t = feeds-digits t (10 ∷ [])

letter_feed : (k : Kind) (rest : List ℕ) → feeds (letter_byte k ∷ (32 ∷ rest)) ≡ feeds rest
letter_feed Kind.S rest = refl
letter_feed Kind.F rest = refl
letter_feed Kind.D rest = refl

segment_feed : (g : Segment) → feeds (segment_text g []) ≡ 1
segment_feed g =
    letter_feed g.kind (field g.following 32 (field g.opposing 10 []))
    ∙ feeds-digits g.following (32 ∷ field g.opposing 10 [])
    ∙ feeds-digits g.opposing (10 ∷ [])

journey_feed : (ts rs : List ℕ) → feeds (journey_text ts rs []) ≡ 1
journey_feed [] rs = feeds-digits (get_or rs 0 0) (10 ∷ [])
journey_feed (t ∷ ts) rs =
    feeds-digits (get_or rs 0 0) (32 ∷ field t 32 (journey_text ts (drop 1 rs) []))
    ∙ feeds-digits t (32 ∷ journey_text ts (drop 1 rs) [])
    ∙ journey_feed ts (drop 1 rs)

train_feed : (t : Train) → feeds (train_text t []) ≡ 1
train_feed t =
    let journey = journey_text (stops_of t) (runs_of t) [] in
    feeds-digits t.origin (32 ∷ field t.destination 32 (field t.earliest 32 (field t.latest 32 (field t.weight 32 journey))))
    ∙ feeds-digits t.destination (32 ∷ field t.earliest 32 (field t.latest 32 (field t.weight 32 journey)))
    ∙ feeds-digits t.earliest (32 ∷ field t.latest 32 (field t.weight 32 journey))
    ∙ feeds-digits t.latest (32 ∷ field t.weight 32 journey)
    ∙ feeds-digits t.weight (32 ∷ journey)
    ∙ journey_feed (stops_of t) (runs_of t)

booking_feed : (b : Booking) → feeds (booking_text b []) ≡ 1
booking_feed b =
    feeds-digits b.train (32 ∷ field b.station 32 (field b.minute 10 []))
    ∙ feeds-digits b.station (32 ∷ field b.minute 10 [])
    ∙ feeds-digits b.minute (10 ∷ [])

listed_feed : (x : Listed) → feeds (listed_text x []) ≡ 1
listed_feed x = feeds-digits x.train (32 ∷ field x.minutes 10 []) ∙ feeds-digits x.minutes (10 ∷ [])

-- ---- the text of a line, section after section: what stands before each, and the lines in it

-- a list of numbers, and a field after it
field-after : (front : List ℕ) (n : ℕ) (rest : List ℕ) → front ++ field n 10 rest ≡ (front ++ field_text n 10) ++ rest
field-after front n rest =
    ap (λ (y : List ℕ). front ++ y) (sym (append_assoc (digits n) (10 ∷ []) rest)) ∙ sym (append_assoc front (field_text n 10) rest)

field-feeds : (front : List ℕ) (n : ℕ) → feeds (front ++ field_text n 10) ≡ feeds front + 1
field-feeds front n = feeds-append front (field_text n 10) ∙ ap (λ (k : ℕ). feeds front + k) (feeds-digits n (10 ∷ []))

-- a list of numbers, and lines after it
module _ {A : Type 0} (text : A → List ℕ → List ℕ) (parts : (x : A) (rest : List ℕ) → text x rest ≡ text x [] ++ rest) (one : (x : A) → feeds (text x []) ≡ 1)
    (front : List ℕ) (xs : List A) where
  lines_after : (rest : List ℕ) → front ++ each_then text xs rest ≡ (front ++ each_then text xs []) ++ rest
  lines_after rest = ap (λ (y : List ℕ). front ++ y) (each_then_lem text parts xs rest) ∙ sym (append_assoc front (each_then text xs []) rest)

  lines-feeds : feeds (front ++ each_then text xs []) ≡ feeds front + length xs
  lines-feeds = feeds-append front (each_then text xs []) ∙ ap (λ (k : ℕ). feeds front + k) (feeds_each text parts one xs)

-- the same of a text that is equal, on a line that is
begins_at : {s t : List ℕ} {part : List ℕ → List ℕ} {p q : ℕ} → s ≡ t → q ≡ p → Begins t part q → Begins s part p
begins_at e same b = record { before = b.before; after = b.after; whole = e ∙ b.whole; line = sym same ∙ b.line }

-- a section of the first k elements of an array, with `front` before it: its count on line p, and its lines from the next on
module _ {A : Type 0} (text : A → List ℕ → List ℕ) (parts : (x : A) (rest : List ℕ) → text x rest ≡ text x [] ++ rest) (one : (x : A) → feeds (text x []) ≡ 1)
    (k : ℕ) (xs : List A) (front later : List ℕ) {s : List ℕ} {p : ℕ} (whole : s ≡ front ++ array_text text k xs later) (line : p ≡ 1 + feeds front) where
  section_begins : Begins s (field k 10) p
  section_begins = record { before = front; after = each_then text (take k xs) later; whole = whole; line = line }

  section_line_begins : (d : A) (i : ℕ) → i < length (take k xs) → Begins s (text (get_or (take k xs) i d)) (p + 1 + i)
  section_line_begins d i h =
      begins_at (whole ∙ field-after front k (each_then text (take k xs) later)) (omega (arith, field-feeds front k, line))
      (each_begins text parts one (take k xs) i d (front ++ field_text k 10) later h)

module _ (l : Line) (arrays : Arrays l) (few : In station_count l.track.station_count) where
  abbrev n : ℕ
  n = l.track.station_count

  abbrev further_part : List ℕ
  further_part = optional_text unbooked booked_text l.booked (dues_text l)

  abbrev trains_part : List ℕ
  trains_part = array_text train_text l.traffic.train_count l.traffic.trains further_part

  abbrev segment_lines : List ℕ
  segment_lines = each_then segment_text (segments_of l) trains_part

  -- what stands before the lines of stations, of segments, before the count of trains, before their lines, and before the bookings, their lines and the dues
  abbrev before_stations : List ℕ
  before_stations = [] ++ field_text n 10

  abbrev before_joins : List ℕ
  before_joins = before_stations ++ each_then station_text (tracks_of l) []

  abbrev before_segments : List ℕ
  before_segments = before_joins ++ field_text (n - 1) 10

  abbrev before_count : List ℕ
  before_count = before_segments ++ each_then segment_text (segments_of l) []

  abbrev before_trains : List ℕ
  before_trains = before_count ++ field_text l.traffic.train_count 10

  abbrev before_booked : List ℕ
  before_booked = before_trains ++ each_then train_text (trains_of l) []

  abbrev before_bookings : List ℕ
  before_bookings = before_booked ++ field_text l.booked.booking_count 10

  abbrev before_dues : List ℕ
  before_dues = before_bookings ++ each_then booking_text (bookings_of l) []

  from_stations : text_of l ≡ before_stations ++ each_then station_text (tracks_of l) (field (n - 1) 10 segment_lines)
  unfolding text_of
  from_stations = field-after [] n _

  from_segments : text_of l ≡ before_segments ++ segment_lines
  from_segments = from_stations ∙ lines_after station_text station_then station_feed before_stations (tracks_of l) _ ∙ field-after before_joins (n - 1) _

  from-count : text_of l ≡ before_count ++ trains_part
  from-count = from_segments ∙ lines_after segment_text segment_then segment_feed before_segments (segments_of l) _

  many_stations : length (tracks_of l) ≡ n
  many_stations = length-take-le n l.track.tracks (omega (arith, few.1, arrays.tracks))

  many_segments : length (segments_of l) ≡ n - 1
  many_segments = length-take-le (n - 1) l.track.segments (omega (arith, few.1, arrays.segments))

  feeds_stations : feeds before_stations ≡ 1
  feeds_stations = field-feeds [] n

  feeds_segments : feeds before_segments ≡ n + 2
  feeds_segments =
      field-feeds before_joins (n - 1)
      ∙ (omega (arith, lines-feeds station_text station_then station_feed before_stations (tracks_of l), feeds_stations, many_stations))

  feeds-count : feeds before_count ≡ n + n + 1
  feeds-count =
      lines-feeds segment_text segment_then segment_feed before_segments (segments_of l) ∙ (omega (arith, feeds_segments, many_segments, few.0))

  -- ---- where each line begins

  -- the stations from line 2 on
  station_begins : (i : ℕ) → i < n → Begins (text_of l) (station_text (get_or (tracks_of l) i 0)) (2 + i)
  station_begins i h =
      begins_at from_stations (omega (arith, feeds_stations))
      (each_begins station_text station_then station_feed (tracks_of l) i 0 before_stations _ (omega (arith, many_stations)))

  -- the segments from line n + 3 on
  segment_begins : (i : ℕ) → i < n - 1 → Begins (text_of l) (segment_text (get_or (segments_of l) i no_segment)) (n + 3 + i)
  segment_begins i h =
      begins_at from_segments (omega (arith, feeds_segments))
      (each_begins segment_text segment_then segment_feed (segments_of l) i no_segment before_segments _ (omega (arith, many_segments)))

  -- the count of trains on line n + n + 2
  count_begins : Begins (text_of l) (field l.traffic.train_count 10) (n + n + 2)
  count_begins =
      section_begins train_text train_then train_feed l.traffic.train_count l.traffic.trains before_count further_part from-count (omega (arith, feeds-count))

  -- the trains from line n + n + 3 on
  train_begins : (i : ℕ) → i < length (trains_of l) → Begins (text_of l) (train_text (get_or (trains_of l) i no_train)) (n + n + 3 + i)
  train_begins i h =
      begins_at refl (omega arith)
      (section_line_begins train_text train_then train_feed l.traffic.train_count l.traffic.trains before_count further_part {p = n + n + 2} from-count
      (omega (arith, feeds-count)) no_train i h)

  -- of a line with trains in their limits, whose section of bookings is written: their count is on the line after the trains
  module _ (some : In train_count l.traffic.train_count) (written : unbooked l.booked && nothing (dues_text l) ≡ false) where
    from_booked : text_of l ≡ before_booked ++ booked_text l.booked (dues_text l)
    unfolding optional_text
    from_booked =
        from-count ∙ field-after before_count l.traffic.train_count (each_then train_text (trains_of l) further_part)
        ∙ lines_after train_text train_then train_feed before_trains (trains_of l) further_part
        ∙ ap (λ (e : Bool). before_booked ++ pick e [] (booked_text l.booked (dues_text l))) written

    feeds_booked : feeds before_booked ≡ n + n + 2 + l.traffic.train_count
    feeds_booked =
        lines-feeds train_text train_then train_feed before_trains (trains_of l)
        ∙ (omega (
          arith,
          field-feeds before_count l.traffic.train_count,
          feeds-count,
          length-take-le l.traffic.train_count l.traffic.trains (omega (arith, some.1, arrays.trains)),
        ))

    -- and the dues, of a line with bookings in their limits, after the bookings
    from_dues : text_of l ≡ before_dues ++ dues_text l
    from_dues =
        from_booked ∙ field-after before_booked l.booked.booking_count (each_then booking_text (bookings_of l) (dues_text l))
        ∙ lines_after booking_text booking_then booking_feed before_bookings (bookings_of l) (dues_text l)

    feeds_dues : In booking_count l.booked.booking_count → feeds before_dues ≡ bookings_line l + l.booked.booking_count
    feeds_dues most =
        lines-feeds booking_text booking_then booking_feed before_bookings (bookings_of l)
        ∙ (omega (
          arith,
          field-feeds before_booked l.booked.booking_count,
          feeds_booked,
          length-take-le l.booked.booking_count l.booked.bookings (omega (arith, most.1, arrays.bookings)),
        ))

-- ---- the line that a fault names

-- a check that finds faults on line p only
record OnlyOn (p : ℕ) (f : Checked) : Type 0 where
  line : (m q : ℕ) → f ≡ refusal m q → p ≡ q

only_none : (p : ℕ) → OnlyOn p (Ok tt)
only_none p = record { line = λ m q e. let z : ◌≡◌ {A = ℕ} 0 1 = cc in absurd (omega arith) }

only_at : (n p : ℕ) → OnlyOn p (refusal n p)
only_at n p = record { line = λ m q e. let r : ◌≡◌ {A = Refusal} (record { number = n; place = p }) (record { number = m; place = q }) = cc in ap (λ (x : Refusal). x.place) r }

only_then : (p : ℕ) (a b : Checked) → OnlyOn p a → OnlyOn p b → OnlyOn p (result_and a b)
only_then p (Ok u) b h g = g
only_then p (Err r) b h g = h

only_number : (r : Limits) (x p : ℕ) → OnlyOn p (number_fault r x p)
unfolding number_fault
only_number r x p = go (bounded_of r.min r.max x)
  where
    go : (b : Option ℕ) → OnlyOn p (value_fault b p)
    go (Some v) = only_none p
    go None = only_at 3 p

-- a test before what follows it
only_test : (n p : ℕ) (b : Bool) (f : Checked) → OnlyOn p f → OnlyOn p (pick b (refusal n p) f)
only_test n p true f h = only_at n p
only_test n p false f h = h

only_times : (xs : List ℕ) (r : Limits) (p : ℕ) → OnlyOn p (times_fault xs r p)
unfolding times_fault
only_times [] r p = only_none p
only_times (x ∷ xs) r p = only_then p _ _ (only_number r x p) (only_times xs r p)

only_segment : (p : ℕ) (g : Segment) → OnlyOn p (segment_fault p g)
unfolding segment_fault
only_segment p g = only_then p _ _ (only_number gap g.following p) (only_number gap g.opposing p)

only_path : (k p o d : ℕ) → OnlyOn p (path_fault k p o d)
unfolding path_fault
only_path k p o d = only_then p _ _ (only_number (station k) o p) (only_then p _ _ (only_number (station k) d p) (only_test 4 p (eqb d o) _ (only_none p)))

only_train : (k p : ℕ) (t : Train) → OnlyOn p (train_fault k p t)
unfolding train_fault head_fault
only_train k p t =
    only_then p _ _ (only_then p _ _ (only_path k p t.origin t.destination)
    (only_then p _ _ (only_number time t.earliest p) (only_then p _ _ (only_number time t.latest p) (only_number weight t.weight p))))
    (only_then p _ _ (only_times (runs_of t) run p) (only_times (stops_of t) stop p))

only_booking : (k : ℕ) (trains : List Train) (before : Booking) (p : ℕ) (b : Booking) → OnlyOn p (booking_fault k trains before p b)
unfolding booking_fault
only_booking k trains before p b =
    only_then p _ _ (only_number (train_number (length trains)) b.train p)
    (only_then p _ _ (only_number (station k) b.station p)
    (only_test 19 p (not (bookable trains before b.train b.station)) _ (only_number time b.minute p)))

only_listed : (k : ℕ) (r : Limits) (before : Listed) (p : ℕ) (x : Listed) → OnlyOn p (listed_fault k r before p x)
unfolding listed_fault
only_listed k r before p x =
    only_then p _ _ (only_number (train_number k) x.train p)
    (only_test 19 p (not (ltb before.train x.train)) _ (only_number r x.minutes p))

-- ---- what is at fault begins on the line that the fault names

-- x is at fault, with number m on line p, and its text begins on line p of the text s
pub record Faulty {A : Type 0} (s : List ℕ) (text : A → List ℕ → List ℕ) (check : ℕ → A → Checked) (m p : ℕ) : Type 0 where
  pub x : A
  pub fault : check p x ≡ refusal m p
  pub begins : Begins s (text x) p

either : (a b : Checked) (m p : ℕ) → result_and a b ≡ refusal m p → (a ≡ refusal m p) ⊎ ((a ≡ Ok tt) × (b ≡ refusal m p))
either (Ok u) b m p e = inr (refl, e)
either (Err r) b m p e = inl e

-- of lines in a row, the one at fault
module _ {A : Type 0} (s : List ℕ) (text : A → List ℕ → List ℕ) (check : ℕ → A → Checked) (only : (p : ℕ) (x : A) → OnlyOn p (check p x)) where
  one_faulty : (x : A) (q m p : ℕ) → Begins s (text x) q → check q x ≡ refusal m p → Faulty s text check m p
  one_faulty x q m p b e =
      let same = (only q x).line m p e in
      record { x = x; fault = ap (λ (k : ℕ). check k x) (sym same) ∙ e; begins = rw same at b }

  lines_faulty : (xs : List A) (d : A) (q m p : ℕ) → ((i : ℕ) → i < length xs → Begins s (text (get_or xs i d)) (q + i)) → lines_fault xs check q ≡ refusal m p →
      Faulty s text check m p
  unfolding lines_fault
  lines_faulty [] d q m p b e = let z : ◌≡◌ {A = ℕ} 0 1 = cc in absurd (omega arith)
  lines_faulty (x ∷ xs) d q m p b e =
      ⊎_elim
      (λ h. one_faulty x q m p (begins_at refl (omega arith) (b 0 (omega arith))) h)
      (λ h. lines_faulty xs d (q + 1) m p (λ i g. begins_at refl (omega arith) (b (suc i) (omega arith))) h.1)
      (either (check q x) _ m p e)

-- a count, which is checked on its line
abbrev count_fault : Limits → ℕ → ℕ → Checked
count_fault r p n = number_fault r n p

abbrev count_text : ℕ → List ℕ → List ℕ
count_text n rest = field n 10 rest

-- a line that is checked after the one before it, with that one
abbrev line_text : {A : Type 0} → (A → List ℕ → List ℕ) → A × A → List ℕ → List ℕ
line_text text x rest = text x.1 rest

abbrev line_fault : {A : Type 0} → (A → ℕ → A → Checked) → ℕ → A × A → Checked
line_fault check p x = check x.0 p x.1

-- of a section of such lines, the count in the range r is at fault, or one of them
abbrev pub SectionFaulty : {A : Type 0} → List ℕ → (A → List ℕ → List ℕ) → Limits → (A → ℕ → A → Checked) → ℕ → ℕ → Type 0
SectionFaulty s text r check m p = Faulty s count_text (count_fault r) m p ⊎ Faulty s (line_text text) (line_fault check) m p

module _ {A : Type 0} (s : List ℕ) (text : A → List ℕ → List ℕ) (check : A → ℕ → A → Checked) (only : (before : A) (p : ℕ) (x : A) → OnlyOn p (check before p x)) where
  rising_faulty : (xs : List A) (before d : A) (q m p : ℕ) → ((i : ℕ) → i < length xs → Begins s (text (get_or xs i d)) (q + i)) →
      rising_fault xs check before q ≡ refusal m p → Faulty s (line_text text) (line_fault check) m p
  unfolding rising_fault
  rising_faulty [] before d q m p b e = let z : ◌≡◌ {A = ℕ} 0 1 = cc in absurd (omega arith)
  rising_faulty (x ∷ xs) before d q m p b e =
      ⊎_elim
      (λ h. one_faulty s (line_text text) (line_fault check) (λ k y. only y.0 k y.1) (before, x) q m p (begins_at refl (omega arith) (b 0 (omega arith))) h)
      (λ h. rising_faulty xs x d (q + 1) m p (λ i g. begins_at refl (omega arith) (b (suc i) (omega arith))) h.1)
      (either (check before q x) _ m p e)

  -- of a section of the first k elements of an array, with `front` before it
  module _ (r : Limits) (k : ℕ) (xs : List A) (none : A) (q m p : ℕ) (e : counted_fault r k (take k xs) check none q ≡ refusal m p) where
    section_faulty : ((x : A) (rest : List ℕ) → text x rest ≡ text x [] ++ rest) → ((x : A) → feeds (text x []) ≡ 1) → (front later : List ℕ) →
        s ≡ front ++ array_text text k xs later → q ≡ 1 + feeds front → SectionFaulty s text r check m p
    section_faulty parts one front later whole line =
        ⊎_elim
        (λ h. inl (one_faulty s count_text (count_fault r) (λ j x. only_number r x j) k q m p (section_begins text parts one k xs front later whole line) h))
        (λ h. inr (rising_faulty (take k xs) none none (q + 1) m p (section_line_begins text parts one k xs front later whole line none) h.1))
        (either _ _ m p e)

    -- where the count may be 0, there are some
    section_some : r.min ≡ 0 → 1 ≤ k
    unfolding rising_fault
    section_some low = elim (dec_le 1 k) [
      | yes h ↦ h
      | no h ↦ (
          let empty : k ≡ 0 = omega arith in
          let z : ◌≡◌ {A = Checked} (Ok tt) (refusal m p) = sym (rw (empty, (tells_number r 0 q).clean (omega arith, omega arith)) refl) ∙ e in
          let y : ◌≡◌ {A = ℕ} 0 1 = cc in
          absurd (omega arith))
    ]

-- "the line its field would have": a fault of a record is that of its count of stations, a station, a segment, its count of trains, a train, its count of
-- bookings, a booking, its count of dues or a due, whose text begins on the line that the fault names, in the text of the record
abbrev pub FaultBegins : Line → ℕ → ℕ → Type 0
FaultBegins l m p =
    (Faulty (text_of l) count_text (count_fault station_count) m p
    ⊎ (Faulty (text_of l) station_text track_fault m p
    ⊎ Faulty (text_of l) segment_text segment_fault m p))
    ⊎ ((Faulty (text_of l) count_text (count_fault train_count) m p
    ⊎ Faulty (text_of l) train_text (train_fault l.track.station_count) m p)
    ⊎ (SectionFaulty (text_of l) booking_text booking_count (booking_fault l.track.station_count (trains_of l)) m p
    ⊎ SectionFaulty (text_of l) listed_text (list_count l.traffic.train_count) (listed_fault l.traffic.train_count time) m p))

module _ (l : Line) (arrays : Arrays l) (m p : ℕ) where
  first_begins : Begins (text_of l) (count_text l.track.station_count) 1
  unfolding text_of
  first_begins = record { before = []; after = _; whole = refl; line = refl }

  track_faulty : track_fault_of l.track ≡ refusal m p →
      Faulty (text_of l) count_text (count_fault station_count) m p ⊎ (Faulty (text_of l) station_text track_fault m p ⊎ Faulty (text_of l) segment_text segment_fault m p)
  unfolding track_fault_of
  track_faulty e =
      ⊎_elim
      (λ h. inl (one_faulty (text_of l) count_text (count_fault station_count) (λ q x. only_number station_count x q) l.track.station_count 1 m p first_begins h))
      (λ h.
      let few = (tells_number station_count l.track.station_count 1).holds h.0 in
      inr (⊎_elim
      (λ f. inl (lines_faulty (text_of l) station_text track_fault (λ q x. only_number tracks x q) (tracks_of l) 0 2 m p
      (λ i b. station_begins l arrays few i (omega (arith, many_stations l arrays few))) f))
      (λ f. inr (lines_faulty (text_of l) segment_text segment_fault only_segment (segments_of l) no_segment _ m p
      (λ i b. segment_begins l arrays few i (omega (arith, many_segments l arrays few))) f.1))
      (either _ _ m p h.1)))
      (either _ _ m p e)

  module _ (few : In station_count l.track.station_count) where
    traffic_faulty : traffic_fault_of l.track.station_count l.traffic ≡ refusal m p →
        Faulty (text_of l) count_text (count_fault train_count) m p ⊎ Faulty (text_of l) train_text (train_fault l.track.station_count) m p
    unfolding traffic_fault_of
    traffic_faulty e =
        ⊎_elim
        (λ h. inl (one_faulty (text_of l) count_text (count_fault train_count) (λ q x. only_number train_count x q) l.traffic.train_count _ m p (count_begins l arrays few) h))
        (λ h. inr (lines_faulty (text_of l) train_text (train_fault l.track.station_count) (only_train l.track.station_count) (trains_of l) no_train _ m p (train_begins l arrays few) h.1))
        (either _ _ m p e)

    module _ (some : In train_count l.traffic.train_count) where
      -- where bookings are at fault there are some, so their section is written
      booked_faulty : booked_fault_of l ≡ refusal m p →
          SectionFaulty (text_of l) booking_text booking_count (booking_fault l.track.station_count (trains_of l)) m p
      unfolding booked_fault_of
      booked_faulty e =
          let count = l.booked.booking_count in
          let check = booking_fault l.track.station_count (trains_of l) in
          let only = only_booking l.track.station_count (trains_of l) in
          let booked = section_some (text_of l) booking_text check only booking_count count l.booked.bookings no_booking (bookings_line l) m p e refl in
          let written : unbooked l.booked && nothing (dues_text l) ≡ false =
          ap (λ (b : Bool). b && nothing (dues_text l)) (ne_eqb count 0 (omega arith)) in
          section_faulty (text_of l) booking_text check only booking_count count l.booked.bookings no_booking (bookings_line l) m p e
          booking_then booking_feed (before_booked l arrays few) (dues_text l)
          (from_booked l arrays few some written) (omega (arith, feeds_booked l arrays few some written))

      -- where dues are at fault there are some, so both sections are written
      dues_faulty : In booking_count l.booked.booking_count → dues_fault_of l ≡ refusal m p →
          SectionFaulty (text_of l) listed_text (list_count l.traffic.train_count) (listed_fault l.traffic.train_count time) m p
      unfolding list_fault optional_text
      dues_faulty most e =
          let count = l.dues.count in
          let range = list_count l.traffic.train_count in
          let check = listed_fault l.traffic.train_count time in
          let only = only_listed l.traffic.train_count time in
          let due = section_some (text_of l) listed_text check only range count l.dues.listed no_listed (dues_line l) m p e refl in
          let listed : unlisted l.dues ≡ false = ne_eqb count 0 (omega arith) in
          let dues : dues_text l ≡ train_list_text l.dues [] = ap (λ (b : Bool). pick (b && true) [] (train_list_text l.dues [])) listed in
          let written : unbooked l.booked && nothing (dues_text l) ≡ false =
          ap (λ (b : Bool). unbooked l.booked && b)
          (optional_nothing unlisted train_list_text l.dues [] (field-some count 10 _) ∙ ap (λ (b : Bool). b && true) listed)
          ∙ and-false (unbooked l.booked) in
          section_faulty (text_of l) listed_text check only range count l.dues.listed no_listed (dues_line l) m p e
          listed_then listed_feed (before_dues l arrays few) []
          (from_dues l arrays few some written ∙ ap (λ (x : List ℕ). before_dues l arrays few ++ x) dues)
          (omega (arith, feeds_dues l arrays few some written most))

  pub fault_begins : fault_of l ≡ refusal m p → FaultBegins l m p
  unfolding fault_of booked_fault_of
  fault_begins e =
      ⊎_elim
      (λ h. inl (track_faulty h))
      (λ h.
      let few = stations_fit l.track refl h.0 in
      inr (⊎_elim
      (λ f. inl (traffic_faulty few f))
      (λ f.
      let some = trains_fit l.track.station_count l.traffic refl f.0 in
      inr (⊎_elim
      (λ g. inl (booked_faulty few some g))
      (λ g. inr (dues_faulty few some (bookings_fit l.track.station_count l.traffic l.booked (bookings_line l) refl g.0) g.1))
      (either _ _ m p f.1)))
      (either _ _ m p h.1)))
      (either _ _ m p e)
