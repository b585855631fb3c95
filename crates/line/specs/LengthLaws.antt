-- The text of a line within the limits is short: a number and the byte after it take at most five bytes, three where it is below 100, and there are few of
-- them.
use Rattle.std.specs.Prelude.{ℕ, zero, suc, ◌+◌, ◌-◌, ◌*◌, ◌≤◌, ◌<◌, List, [], ◌∷◌, length, get_or, take, drop}
use Rattle.std.proofs.Common.{arith, suc-mul, mul-le-mul, length-append, length-take}
use Rattle.text.specs.declared.Cursor.{Cursor}
use Rattle.text.specs.declared.Limits.{Limits}
use Rattle.text.specs.Reading.Parsed.{Parsed}
use Rattle.text.specs.Writing.Digits.{digits}
use Rattle.text.specs.Writing.DigitsLaws.{digits-length}
use Rattle.text.specs.Elements.EachThen.{each_then}
use Rattle.text.specs.Sections.Chained.{EachAfter, optional_text}
use Rattle.text.proofs.Sections.ChainedLaws.{chain_length, optional_length}
use Rattle.finite.specs.Each.{Each}
use Rattle.line.specs.declared.Segment.{Segment}
use Rattle.line.specs.declared.Train.{Train}
use Rattle.line.specs.declared.Booking.{Booking}
use Rattle.line.specs.declared.Listed.{Listed}
use Rattle.line.specs.declared.TrainList.{TrainList}
use Rattle.line.specs.declared.Line.{Line}
use Rattle.line.specs.Ranges.{In, tracks, list_count, time, run, stop}
use Rattle.line.specs.Record.{no_booking, no_listed, trains_of, bookings_of, listed_in, runs_of, stops_of, legs_of}
use Rattle.line.specs.File.{booking_line, listed_line}
use Rattle.line.specs.Spell.{field, station_text, segment_text, journey_text, train_text, booking_text, listed_text, booked_text, unbooked, train_list_text, unlisted, dues_text, text_of}
use Rattle.line.specs.RecordLaws.{train_path}
use Rattle.line.specs.Within.{SegmentWithin, TrainWithin, BookingWithin, ListedWithin, Within}

-- ---- each part, where at most m bytes follow it

pub field-length : (n b m : ℕ) (rest : List ℕ) → n < 10000 → length rest ≤ m → length (field n b rest) ≤ m + 5
field-length n b m rest small h = omega (arith, length-append (digits n) (b ∷ rest), digits-length 3 n (omega arith))

-- a number below 1,000, and one below 100
pub field-middle : (n b m : ℕ) (rest : List ℕ) → n < 1000 → length rest ≤ m → length (field n b rest) ≤ m + 4
field-middle n b m rest small h = omega (arith, length-append (digits n) (b ∷ rest), digits-length 2 n (omega arith))

pub field_short : (n b m : ℕ) (rest : List ℕ) → n < 100 → length rest ≤ m → length (field n b rest) ≤ m + 3
field_short n b m rest small h = omega (arith, length-append (digits n) (b ∷ rest), digits-length 1 n (omega arith))

station-length : (t : ℕ) → In tracks t → (m : ℕ) (rest : List ℕ) → length rest ≤ m → length (station_text t rest) ≤ m + 3
station-length t w m rest h = field_short t 10 m rest (omega arith) h

segment-length : (g : Segment) → SegmentWithin g → (m : ℕ) (rest : List ℕ) → length rest ≤ m → length (segment_text g rest) ≤ m + 8
segment-length g w m rest h =
    let gaps : length (field g.following 32 (field g.opposing 10 rest)) ≤ m + 3 + 3 =
    field_short g.following 32 _ _ (omega (arith, w.following)) (
    field_short g.opposing 10 m rest (omega (arith, w.opposing)) h
    ) in
    omega arith

-- the first of the runs left, or 0
first_run : (rs : List ℕ) → Each (In run) rs → get_or rs 0 0 < 1000
first_run [] e = omega arith
first_run (r ∷ rs) e = omega (arith, e.0)

other_runs : (rs : List ℕ) → Each (In run) rs → Each (In run) (drop 1 rs)
other_runs [] e = tt
other_runs (r ∷ rs) e = e.1

journey_length : (ts rs : List ℕ) → Each (In stop) ts → Each (In run) rs → (m : ℕ) (rest : List ℕ) → length rest ≤ m →
    length (journey_text ts rs rest) ≤ m + 4 + 8 * length ts
journey_length [] rs s r m rest h = omega (arith, field-middle (get_or rs 0 0) 10 m rest (first_run rs r) h)
journey_length (t ∷ ts) rs s r m rest h =
    let leg : length (journey_text (t ∷ ts) rs rest) ≤ m + 4 + 8 * length ts + 4 + 4 =
    field-middle (get_or rs 0 0) 32 _ _ (first_run rs r) (
    field-middle t 32 _ _ (omega (arith, s.0)) (
    journey_length ts (drop 1 rs) s.1 (other_runs rs r) m rest h
    )) in
    omega arith

train-length : (n : ℕ) → n ≤ 12 → (t : Train) → TrainWithin n t → (m : ℕ) (rest : List ℕ) → length rest ≤ m → length (train_text t rest) ≤ m + 103
train-length n few t w m rest h =
    let head : length (train_text t rest) ≤ m + 4 + 8 * length (stops_of t) + 3 + 5 + 5 + 3 + 3 =
    field_short t.origin 32 _ _ (omega (arith, w.origin)) (
    field_short t.destination 32 _ _ (omega (arith, w.destination)) (
    field-length t.earliest 32 _ _ (omega (arith, w.earliest)) (
    field-length t.latest 32 _ _ (omega (arith, w.latest)) (
    field_short t.weight 32 _ _ (omega (arith, w.weight)) (
    journey_length (stops_of t) (runs_of t) w.stops w.runs m rest h
    ))))) in
    omega (arith, length-take (legs_of t - 1) t.stops, (train_path n few t w).1)

-- ---- a part of at most k bytes for each of the first n elements

module _ {A : Type 0} (P : A → Type 0) (text : A → List ℕ → List ℕ) (k : ℕ)
    (short : (x : A) → P x → (m : ℕ) (rest : List ℕ) → length rest ≤ m → length (text x rest) ≤ m + k) where
  pub each_length : (n : ℕ) (xs : List A) → Each P (take n xs) → (m : ℕ) (rest : List ℕ) → length rest ≤ m → length (each_then text (take n xs) rest) ≤ m + n * k
  each_length zero xs e m rest h = omega arith
  each_length (suc n) [] e m rest h = omega arith
  each_length (suc n) (x ∷ xs) e m rest h =
      omega (arith, suc-mul n k, short x e.0 (m + n * k) (each_then text (take n xs) rest) (each_length n xs e.1 m rest h))

booking-length : (n : ℕ) → n ≤ 12 → (trains : List Train) → length trains ≤ 12 → (before b : Booking) (rest : List ℕ) → BookingWithin n trains before b →
    length (booking_text b rest) ≤ 11 + length rest
booking-length n few trains some before b rest w =
    let size : length (booking_text b rest) ≤ length rest + 5 + 3 + 3 =
    field_short b.train 32 _ _ (omega (arith, w.train, some)) (
    field_short b.station 32 _ _ (omega (arith, w.station, few)) (
    field-length b.minute 10 _ rest (omega (arith, w.minute)) (omega arith))) in
    omega arith

listed-length : (t : ℕ) → t ≤ 12 → (r : Limits) → r.max < 10000 → (before x : Listed) (rest : List ℕ) → ListedWithin t r before x →
    length (listed_text x rest) ≤ 8 + length rest
listed-length t few r short before x rest w =
    let size : length (listed_text x rest) ≤ length rest + 5 + 3 =
    field_short x.train 32 _ _ (omega (arith, w.train, few)) (
    field-length x.minutes 10 _ rest (omega (arith, w.minutes, short)) (omega arith)) in
    omega arith

-- ---- the sections past the third

-- a part of at most k bytes for each of the first n elements, where n is at most `most`
rising_length : {A : Type 0} (line : A → List ℕ → Cursor → Parsed A) (P : A → A → Type 0) (text : A → List ℕ → List ℕ) (k : ℕ) →
    ((before x : A) (rest : List ℕ) → P before x → length (text x rest) ≤ k + length rest) → (n most : ℕ) (xs : List A) (none : A) (rest : List ℕ) → n ≤ most →
    EachAfter (λ before x. x) P none (take n xs) → length (each_then text (take n xs) rest) ≤ most * k + length rest
rising_length line P text k short n most xs none rest few each =
    let many : length (take n xs) * k ≤ most * k = mul-le-mul {n₂ = most} {m₂ = k} (omega (arith, length-take n xs)) (omega arith) in
    omega (arith, many, chain_length (λ before x. x) line P text [] k short (take n xs) none rest each)

-- a list of trains takes at most 99 bytes
list_length : (t : ℕ) → t ≤ 12 → (r : Limits) → r.max < 10000 → (x : TrainList) (later : List ℕ) → In (list_count t) x.count →
    EachAfter (λ before y. y) (ListedWithin t r) no_listed (listed_in x) → length (optional_text unlisted train_list_text x later) ≤ 99 + length later
list_length t few r short x later count each =
    let lines : length (each_then listed_text (listed_in x) later) ≤ 12 * 8 + length later =
    rising_length (listed_line t r) (ListedWithin t r) listed_text 8 (listed-length t few r short) x.count 12 x.listed no_listed later (omega (arith, count.1, few)) each in
    let size : length (train_list_text x later) ≤ 96 + length later + 3 = field_short x.count 10 _ _ (omega (arith, count.1, few)) (omega (arith, lines)) in
    optional_length unlisted train_list_text x later 99 (omega arith)

-- the bookings at most 1,324
booked_length : (l : Line) → Within l → (later : List ℕ) → length (optional_text unbooked booked_text l.booked later) ≤ 1324 + length later
booked_length l w later =
    let n = l.track.station_count in
    let some : length (trains_of l) ≤ 12 = omega (arith, length-take l.traffic.train_count l.traffic.trains, w.trains.1) in
    let lines : length (each_then booking_text (bookings_of l) later) ≤ 120 * 11 + length later =
    rising_length (booking_line n (trains_of l)) (BookingWithin n (trains_of l)) booking_text 11 (booking-length n w.stations.1 (trains_of l) some)
    l.booked.booking_count 120 l.booked.bookings no_booking later w.bookings.1 w.each_booking in
    let size : length (booked_text l.booked later) ≤ 1320 + length later + 4 =
    field-middle l.booked.booking_count 10 _ _ (omega (arith, w.bookings.1)) (omega (arith, lines)) in
    optional_length unbooked booked_text l.booked later 1324 (omega arith)

further_length : (l : Line) → Within l → length (optional_text unbooked booked_text l.booked (dues_text l)) ≤ 1423
further_length l w =
    omega (
      arith,
      booked_length l w (dues_text l),
      list_length l.traffic.train_count w.trains.1 time (omega arith) l.dues [] w.dues w.each_due,
    )

-- the text of a line within the limits has at most 2,792 bytes
pub text_length : (l : Line) → Within l → length (text_of l) ≤ 2792
unfolding text_of
text_length l w =
    let n = l.track.station_count in
    let size : length (text_of l) ≤ 1423 + l.traffic.train_count * 103 + 3 + (n - 1) * 8 + 3 + n * 3 + 3 =
    field_short n 10 _ _ (omega (arith, w.stations)) (
    each_length (In tracks) station_text 3 station-length n l.track.tracks w.tracks _ _ (
    field_short (n - 1) 10 _ _ (omega (arith, w.stations)) (
    each_length SegmentWithin segment_text 8 segment-length (n - 1) l.track.segments w.segments _ _ (
    field_short l.traffic.train_count 10 _ _ (omega (arith, w.trains)) (
    each_length (TrainWithin n) train_text 103 (train-length n w.stations.1) l.traffic.train_count l.traffic.trains w.each_train 1423 _ (further_length l w)
    ))))) in
    omega (arith, w.stations, w.trains)

-- so 4,096 lent bytes always suffice
pub text_fits : (l : Line) → Within l → length (text_of l) ≤ 4096
text_fits l w = omega (arith, text_length l w)
