-- The text of a line within the limits is accepted, and gives that line: each part of the text is read as its value.
use Rattle.std.specs.Prelude.{ℕ, suc, ◌-◌, ◌<◌, ◌≤◌, ◌≡◌, true, false, not, ◌&&◌, Some, ltb, length}
use Rattle.std.proofs.Math.Path.{refl}
use Rattle.std.proofs.Common.{sym, ap, ◌∙◌, true≢false, arith, le-ltb, lt-ltb, ne_eqb, length-take-le}
use mathlib.Core.List.{List, [], ◌∷◌, map, map-id}
use Rattle.std.proofs.lemmas.List.{length-map}
use Rattle.text.specs.declared.Cursor.{Cursor}
use Rattle.text.specs.declared.Limits.{Limits}
use Rattle.text.specs.Reading.Bytes.{byte_at, from, ahead, passing}
use Rattle.text.specs.Reading.BytesLaws.{from_byte, from-ahead, at_length, past_reads, space_ends, feed_ends}
use Rattle.text.specs.Elements.Padded.{padded}
use Rattle.text.specs.Elements.EachThen.{each_then}
use Rattle.text.specs.Elements.PaddedLaws.{take-padded}
use Rattle.text.specs.Sections.Chained.{EachAfter, nothing, optional_text}
use Rattle.text.proofs.Sections.ChainedLaws.{each_after-map, chained_reads, optional_reads}
use Rattle.finite.specs.DecideLaws.{is_true}
use Rattle.finite.specs.Each.{Each}
use Rattle.finite.specs.EachLaws.{each_both, each_take}
use Rattle.text.proofs.Reading.ParsedLaws.{Reads, ranged_reads, at_end, reads_then, many_reads}
use Rattle.text.specs.Reading.Parsed.{Parsed}
use Rattle.line.specs.declared.Kind.{Kind}
use Rattle.line.specs.declared.Segment.{Segment}
use Rattle.line.specs.declared.Train.{Train}
use Rattle.line.specs.declared.Booking.{Booking}
use Rattle.line.specs.declared.Listed.{Listed}
use Rattle.line.specs.declared.Line.{Line}
use Rattle.line.specs.declared.reading.Head.{Head}
use Rattle.line.specs.declared.reading.Section.{Section}
use Rattle.line.specs.Ranges.{In, station_count, tracks, gap, train_count, train_number, booking_count, list_count, newest, station, time, weight, run, stop}
use Rattle.line.specs.Record.{no_segment, no_train, no_booking, no_listed, Further, legs_of, runs_of, stops_of, tracks_of, segments_of, trains_of, bookings_of, further_of, tidy_train, tidy_line}
use Rattle.line.specs.Bookings.{bookable}
use Rattle.line.specs.BookingsLaws.{decides_bookable, within_tidy}
use Rattle.line.specs.FurtherLaws.{further_text_lem}
use Rattle.line.specs.File.{number, station_line, letter_of, kind_at, segment_line, path_at, head_at, journey_at, train_line, used_in, section_at, station_section, segment_section, train_section, booking_line, rising_at, null, rising_section, listed_line, further_at, joins, line_at, line_file}
use Rattle.line.specs.Spell.{field, station_text, letter_byte, segment_text, journey_text, head_text, train_text, booking_text, listed_text, counted_text, further_text, booked_text, unbooked, dues_text, text_of}
use Rattle.line.specs.Within.{SegmentWithin, TrainWithin, BookingWithin, ListedWithin, FurtherWithin, Within, TrainArrays, Arrays}
use Rattle.line.specs.SpellLaws.{field-some}
use Rattle.line.specs.RecordLaws.{train_path}

-- ---- a number

module _ (r : Limits) (s : List ℕ) (c : Cursor) (n : ℕ) (rest : List ℕ) (i : In r n) (small : r.max < 10000) where
  before_space : from s c ≡ field n 32 rest → Reads (number r 32 s c) n s rest
  before_space e = ranged_reads 2 3 r.min r.max 32 s c n rest space_ends i.0 i.1 small e

  before_feed : from s c ≡ field n 10 rest → Reads (number r 10 s c) n s rest
  before_feed e = ranged_reads 2 3 r.min r.max 10 s c n rest feed_ends i.0 i.1 small e

-- ---- stations and segments

station_reads : (s : List ℕ) (c : Cursor) (t : ℕ) (rest : List ℕ) → In tracks t → from s c ≡ station_text t rest → Reads (station_line s c) t s rest
station_reads s c t rest i e = before_feed tracks s c t rest i (omega arith) e

letter_reads : (k : Kind) → letter_of (letter_byte k) ≡ Some k
unfolding letter_of
letter_reads Kind.S = refl
letter_reads Kind.F = refl
letter_reads Kind.D = refl

kind_reads : (s : List ℕ) (c : Cursor) (k : Kind) (rest : List ℕ) → from s c ≡ letter_byte k ∷ (32 ∷ rest) → Reads (kind_at s c) k s rest
unfolding kind_at
kind_reads s c k rest e =
    let after : from s (ahead c) ≡ 32 ∷ rest = from-ahead s c (letter_byte k) (32 ∷ rest) e in
    let found : letter_of (byte_at s c) ≡ Some k = ap letter_of (from_byte s c (letter_byte k ∷ (32 ∷ rest)) e) ∙ letter_reads k in
    record {
      next = passing 32 (ahead c);
      reads = simp (found, past_reads s (ahead c) 32 rest after);
      leaves = from-ahead s (ahead c) 32 rest after;
    }

segment_reads : (s : List ℕ) (c : Cursor) (g : Segment) (rest : List ℕ) → SegmentWithin g → from s c ≡ segment_text g rest →
    Reads (segment_line s c) g s rest
unfolding segment_line
segment_reads s c g rest w e =
    reads_then _ (kind_reads s c g.kind (field g.following 32 (field g.opposing 10 rest)) e)
    (λ c₁ e₁. reads_then _ (before_space gap s c₁ g.following (field g.opposing 10 rest) w.following (omega arith) e₁)
    (λ c₂ e₂. reads_then _ (before_feed gap s c₂ g.opposing rest w.opposing (omega arith) e₂)
    (λ c₃ e₃. at_end g c₃ e₃)))

-- ---- trains

path_reads : (n : ℕ) (s : List ℕ) (c : Cursor) (o d : ℕ) (rest : List ℕ) → n ≤ 12 → In (station n) o → In (station n) d → (d ≡ o → ⊥) →
    from s c ≡ field o 32 (field d 32 rest) → Reads (path_at n s c) (record { origin = o; destination = d }) s rest
unfolding path_at
path_reads n s c o d rest few io id apart e =
    reads_then _ (before_space (station n) s c o (field d 32 rest) io (omega arith) e)
    (λ c₁ e₁. reads_then _ (before_space (station n) s c₁ d rest id (omega arith) e₁)
    (λ c₂ e₂. rw (ne_eqb d o apart) (at_end _ c₂ e₂)))

-- the head of a train's line
abbrev head_of : Train → Head
head_of t = record { origin = t.origin; destination = t.destination; earliest = t.earliest; latest = t.latest; weight = t.weight }

head_reads : (n : ℕ) (s : List ℕ) (c : Cursor) (t : Train) (rest : List ℕ) → n ≤ 12 → TrainWithin n t → from s c ≡ head_text t rest →
    Reads (head_at n s c) (head_of t) s rest
unfolding head_at
head_reads n s c t rest few w e =
    reads_then _ (path_reads n s c t.origin t.destination (field t.earliest 32 (field t.latest 32 (field t.weight 32 rest))) few w.origin
    w.destination w.apart e)
    (λ c₁ e₁. reads_then _ (before_space time s c₁ t.earliest (field t.latest 32 (field t.weight 32 rest)) w.earliest (omega arith) e₁)
    (λ c₂ e₂. reads_then _ (before_space time s c₂ t.latest (field t.weight 32 rest) w.latest (omega arith) e₂)
    (λ c₃ e₃. reads_then _ (before_space weight s c₃ t.weight rest w.weight (omega arith) e₃)
    (λ c₄ e₄. at_end (head_of t) c₄ e₄))))

journey_reads : (ts rs : List ℕ) (s : List ℕ) (c : Cursor) (rest : List ℕ) → length rs ≡ suc (length ts) → Each (In run) rs → Each (In stop) ts →
    from s c ≡ journey_text ts rs rest → Reads (journey_at (length ts) s c) (record { runs = rs; stops = ts }) s rest
unfolding journey_at
journey_reads [] [] s c rest m r t e = absurd (omega arith)
journey_reads [] (x ∷ []) s c rest m r t e =
    reads_then _ (before_feed run s c x rest r.0 (omega arith) e) (λ c₁ e₁. at_end _ c₁ e₁)
journey_reads [] (x ∷ y ∷ rs) s c rest m r t e = absurd (omega arith)
journey_reads (y ∷ ts) [] s c rest m r t e = absurd (omega arith)
journey_reads (y ∷ ts) (x ∷ rs) s c rest m r t e =
    reads_then _ (before_space run s c x (field y 32 (journey_text ts rs rest)) r.0 (omega arith) e)
    (λ c₁ e₁. reads_then _ (before_space stop s c₁ y (journey_text ts rs rest) t.0 (omega arith) e₁)
    (λ c₂ e₂. reads_then _ (journey_reads ts rs s c₂ rest (omega arith) r.1 t.1 e₂)
    (λ c₃ e₃. at_end _ c₃ e₃)))

-- a train within the limits, of a record
pub record TrainWritten (n : ℕ) (t : Train) : Type 0 where
  pub limits : TrainWithin n t
  pub arrays : TrainArrays t

-- its line is read as the train with the entries beyond its path emptied
train_reads : (n : ℕ) → n ≤ 12 → (s : List ℕ) (c : Cursor) (t : Train) (rest : List ℕ) → TrainWritten n t → from s c ≡ train_text t rest →
    Reads (train_line n s c) (tidy_train t) s rest
unfolding train_line tidy_train
train_reads n few s c t rest v e =
    let w = v.limits in
    let legs = train_path n few t w in
    let many_stops : length (stops_of t) ≡ legs_of t - 1 = length-take-le (legs_of t - 1) t.stops (omega (arith, legs.1, v.arrays.1)) in
    let many_runs : length (runs_of t) ≡ legs_of t = length-take-le (legs_of t) t.runs (omega (arith, legs.1, v.arrays.0)) in
    reads_then _ (head_reads n s c t (journey_text (stops_of t) (runs_of t) rest) few w e)
    (λ c₁ e₁. reads_then _ (rw many_stops at
    (journey_reads (stops_of t) (runs_of t) s c₁ rest (omega (arith, many_stops, many_runs, legs.0)) w.runs w.stops e₁))
    (λ c₂ e₂. at_end _ c₂ e₂))

-- ---- the sections

-- a section whose entries bs are read, each as f b
section_reads : {A B : Type 0} (r : Limits) (size : ℕ) (none : A) (P : B → Type 0) (text : B → List ℕ → List ℕ) (f : B → A)
    (line : List ℕ → Cursor → Parsed A) (s : List ℕ) →
    ((c : Cursor) (b : B) (rest : List ℕ) → P b → from s c ≡ text b rest → Reads (line s c) (f b) s rest) →
    (n : ℕ) (bs : List B) (c : Cursor) (rest : List ℕ) → In r n → r.max < 10000 → length bs ≡ n → Each P bs → from s c ≡ field n 10 (each_then text bs rest) →
    Reads (section_at r size none line s c) (record { count = n; entries = padded size none (map f bs) }) s rest
unfolding section_at
section_reads r size none P text f line s one n bs c rest i small many each e =
    reads_then _ (before_feed r s c n (each_then text bs rest) i small e)
    (λ c₁ e₁. reads_then _ (many_reads P text f (λ left. line) s (λ left. one) n bs many c₁ rest each e₁)
    (λ c₂ e₂. at_end _ c₂ e₂))

-- ---- bookings

booking_reads : (n : ℕ) (trains : List Train) (few : n ≤ 12) (some : length trains ≤ 12) (s : List ℕ) (before : Booking) (c : Cursor) (b : Booking) (rest : List ℕ) →
    BookingWithin n trains before b → from s c ≡ booking_text b rest → Reads (booking_line n trains before s c) b s rest
unfolding booking_line
booking_reads n trains few some s before c b rest w e =
    let stands : not (bookable trains before b.train b.station) ≡ false =
    ap not (is_true (decides_bookable trains before b.train b.station) (w.order, w.middle)) in
    reads_then _ (before_space (train_number (length trains)) s c b.train _ w.train (omega (arith, some)) e)
    (λ c₁ e₁. reads_then _ (before_space (station n) s c₁ b.station _ w.station (omega (arith, few)) e₁)
    (λ c₂ e₂. rw stands (reads_then _ (before_feed time s c₂ b.minute rest w.minute (omega arith) e₂) (λ c₃ e₃. at_end _ c₃ e₃))))

-- ---- lists of trains

listed_reads : (t : ℕ) (r : Limits) → t ≤ 12 → r.max < 10000 → (s : List ℕ) (before : Listed) (c : Cursor) (x : Listed) (rest : List ℕ) →
    ListedWithin t r before x → from s c ≡ listed_text x rest → Reads (listed_line t r before s c) x s rest
unfolding listed_line
listed_reads t r few small s before c x rest w e =
    let rises : not (ltb before.train x.train) ≡ false = ap not (lt-ltb before.train x.train w.order) in
    reads_then _ (before_space (train_number t) s c x.train _ w.train (omega (arith, few)) e)
    (λ c₁ e₁. rw rises (reads_then _ (before_feed r s c₁ x.minutes rest w.minutes small e₁) (λ c₂ e₂. at_end _ c₂ e₂)))

-- ---- the sections past the third

null_is : {A : Type 0} (xs : List A) → null xs ≡ true → xs ≡ []
null_is [] e = refl
null_is (x ∷ xs) e = absurd (true≢false (sym e))

some_long : {A : Type 0} (xs : List A) → null xs && true ≡ false → 1 ≤ length xs
some_long [] e = absurd (true≢false e)
some_long (x ∷ xs) e = omega arith

-- a section of lines in rising order, each of which is read as its value, before the later ones; written, it has no fewer than its count's least
module _ {A : Type 0} (r : Limits) (none : A) (line : A → List ℕ → Cursor → Parsed A) (P : A → A → Type 0) (text : A → List ℕ → List ℕ) (s : List ℕ)
    (small : r.max < 10000)
    (one : (before : A) (c : Cursor) (x : A) (rest : List ℕ) → P before x → from s c ≡ text x rest → Reads (line before s c) x s rest)
    (xs : List A) (few : length xs ≤ r.max) (each : EachAfter (λ before x. x) P none xs)
    (later : List ℕ) (least : null xs && nothing later ≡ false → r.min ≤ length xs) where
  rising_reads : null xs && nothing later ≡ false → (c : Cursor) → from s c ≡ counted_text text xs later → Reads (rising_at r none line s c) xs s later
  unfolding rising_at
  rising_reads h c e =
      reads_then _ (before_feed r s c (length xs) (each_then text xs later) (least h, few) small e)
      (λ c₁ e₁. chained_reads (λ before x. x) line P text s one xs none c₁ later each e₁)

  rising_section_reads : (c : Cursor) → from s c ≡ optional_text null (counted_text text) xs later → Reads (rising_section r none line s c) xs s later
  unfolding rising_section
  rising_section_reads c e =
      optional_reads 3 [] null refl (rising_at r none line) s (counted_text text) xs (null_is xs)
      (λ rest. field-some (length xs) 10 (each_then text xs rest)) later rising_reads c e

further_reads : (n : ℕ) (z : Section Train 12) (x : Further) → n ≤ 12 → z.count ≤ 12 → length (used_in z) ≤ 12 → FurtherWithin n z.count (used_in z) x →
    (s : List ℕ) (c : Cursor) → from s c ≡ further_text x → Reads (further_at n z s c) x s []
unfolding further_at
further_reads n z x few some used w s c e =
    let t = z.count in
    let dues = optional_text null (counted_text listed_text) x.dues [] in
    reads_then _ (rising_section_reads booking_count no_booking (booking_line n (used_in z)) (BookingWithin n (used_in z)) booking_text s (omega arith)
    (booking_reads n (used_in z) few used s) x.bookings w.bookings.0 w.bookings.1 dues (λ h. omega arith) c e)
    (λ c₁ e₁. reads_then _ (rising_section_reads (newest (list_count t)) no_listed (listed_line t time) (ListedWithin t time) listed_text s (omega (arith, some))
    (listed_reads t time some (omega arith) s) x.dues w.dues.0 w.dues.1 [] (some_long x.dues) c₁ e₁)
    (λ c₂ e₂. at_end _ c₂ e₂))

-- a line of the record, section by section
module _ (l : Line) (w : Within l) (a : Arrays l) (s : List ℕ) where
  abbrev further_part : List ℕ
  further_part = optional_text unbooked booked_text l.booked (dues_text l)

  abbrev trains_text : List ℕ
  trains_text = field l.traffic.train_count 10 (each_then train_text (trains_of l) further_part)

  abbrev segments_text : List ℕ
  segments_text = field (l.track.station_count - 1) 10 (each_then segment_text (segments_of l) trains_text)

  stations_read : (c : Cursor) → from s c ≡ field l.track.station_count 10 (each_then station_text (tracks_of l) segments_text) →
      Reads (station_section s c) (record { count = l.track.station_count; entries = padded 12 0 (tracks_of l) }) s segments_text
  stations_read c e =
      let many = length-take-le l.track.station_count l.track.tracks (omega (arith, w.stations.1, a.tracks)) in
      rw (map-id (tracks_of l)) at (section_reads station_count 12 0 (In tracks) station_text (λ t. t) station_line s (station_reads s) l.track.station_count
      (tracks_of l) c segments_text w.stations (omega arith) many w.tracks e)

  segments_read : (c : Cursor) → from s c ≡ segments_text →
      Reads (segment_section l.track.station_count s c) (record { count = l.track.station_count - 1; entries = padded 11 no_segment (segments_of l) }) s trains_text
  segments_read c e =
      let n = l.track.station_count in
      let many = length-take-le (n - 1) l.track.segments (omega (arith, w.stations.1, a.segments)) in
      let small : n - 1 < 10000 = omega (arith, w.stations.1) in
      rw (map-id (segments_of l)) at (section_reads (joins n) 11 no_segment SegmentWithin segment_text (λ g. g) segment_line s (segment_reads s) (n - 1)
      (segments_of l) c trains_text (omega arith, omega arith) small many w.segments e)

  trains_read_lem : (c : Cursor) → from s c ≡ trains_text →
      Reads (train_section l.track.station_count s c) (record { count = l.traffic.train_count; entries = padded 12 no_train (map tidy_train (trains_of l)) }) s further_part
  trains_read_lem c e =
      let n = l.track.station_count in
      let t = l.traffic.train_count in
      let many = length-take-le t l.traffic.trains (omega (arith, w.trains.1, a.trains)) in
      let each = each_both (TrainWithin n) TrainArrays (TrainWritten n) (λ t x y. record { limits = x; arrays = y }) (trains_of l) w.each_train
      (each_take TrainArrays t l.traffic.trains a.each_train) in
      section_reads train_count 12 no_train (TrainWritten n) train_text tidy_train (train_line n) s (train_reads n w.stations.1 s) t (trains_of l) c further_part
      w.trains (omega arith) many each e

  -- the trains as they were read
  abbrev tidied : List Train
  tidied = map tidy_train (trains_of l)

  many_trains : length (trains_of l) ≡ l.traffic.train_count
  many_trains = length-take-le l.traffic.train_count l.traffic.trains (omega (arith, w.trains.1, a.trains))

  many-tidied : length tidied ≡ l.traffic.train_count
  many-tidied = length-map (trains_of l) tidy_train ∙ many_trains

  abbrev trains_read : Section Train 12
  trains_read = record { count = l.traffic.train_count; entries = padded 12 no_train tidied }

  further_read : (c : Cursor) → from s c ≡ further_part → Reads (further_at l.track.station_count trains_read s c) (further_of l) s []
  further_read c e =
      let n = l.track.station_count in
      let used : used_in trains_read ≡ tidied = rw many-tidied at (take-padded 12 no_train tidied (omega (arith, many-tidied, w.trains.1))) in
      let bookings = length-take-le l.booked.booking_count l.booked.bookings (omega (arith, w.bookings.1, a.bookings)) in
      let dues = length-take-le l.dues.count l.dues.listed (omega (arith, w.dues.1, w.trains.1, a.dues)) in
      further_reads n trains_read (further_of l) w.stations.1 w.trains.1 (rw used (omega (arith, many-tidied, w.trains.1))) (rw used (record {
        bookings = (
          omega (arith, bookings, w.bookings.1),
          each_after-map (λ before b. b) (BookingWithin n (trains_of l)) (BookingWithin n tidied) (within_tidy n (trains_of l)) (bookings_of l) no_booking
              w.each_booking,
        );
        dues = (omega (arith, dues, w.dues.1), w.each_due);
      })) s c (e ∙ further_text_lem l bookings dues)

  line_reads : (c : Cursor) → from s c ≡ text_of l → Reads (line_at s c) (tidy_line l) s []
  unfolding line_at text_of tidy_line
  line_reads c e =
      reads_then _ (stations_read c e)
      (λ c₁ e₁. reads_then _ (segments_read c₁ e₁)
      (λ c₂ e₂. reads_then _ (trains_read_lem c₂ e₂)
      (λ c₃ e₃. reads_then _ (further_read c₃ e₃)
      (λ c₄ e₄. rw (le-ltb c₄.at (length s) (at_length s c₄ e₄)) (at_end _ c₄ e₄)))))

-- the text of a line within the limits is read as that line
pub text_reads : (l : Line) → Within l → Arrays l → length (text_of l) ≤ 4096 → Reads (line_file (text_of l)) (tidy_line l) (text_of l) []
unfolding line_file
text_reads l w a h = rw (le-ltb 4096 (length (text_of l)) h) (line_reads l w a (text_of l) (record { at = 0; line = 1 }) refl)
