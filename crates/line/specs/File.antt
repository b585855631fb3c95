-- Reading the line file: document 01, "The line file", section by section and field by field: the field's form, the byte after it (2), its range
-- (3), at a destination whether it equals the origin (4), and at a booking's station and a due's train whether it may stand there (19).
use Rattle.std.specs.Prelude.{ℕ, zero, suc, ◌-◌, Bool, true, false, not, ◌&&◌, Option, Some, None, Result, Ok, Err, List, [], ◌∷◌, length, take, ltb, eqb}
use Rattle.text.specs.declared.Cursor.{Cursor}
use Rattle.text.specs.declared.Limits.{Limits}
use Rattle.text.specs.declared.Refusal.{Refusal}
use Rattle.text.specs.Reading.Choice.{pick, on_some}
use Rattle.text.specs.Reading.Bytes.{byte_at, ahead, past_of}
use Rattle.text.specs.Reading.Parsed.{Parsed, then_read, lines, ranged_at}
use Rattle.text.specs.Reading.Told.{refusal}
use Rattle.text.specs.Elements.Padded.{padded}
use Rattle.text.specs.Sections.Chained.{chained, left, optional_at}
use Rattle.line.specs.declared.Kind.{Kind}
use Rattle.line.specs.declared.Segment.{Segment}
use Rattle.line.specs.declared.Train.{Train}
use Rattle.line.specs.declared.Booking.{Booking}
use Rattle.line.specs.declared.Listed.{Listed}
use Rattle.line.specs.declared.Line.{Line}
use Rattle.line.specs.declared.NoKind.{NoKind}
use Rattle.line.specs.declared.reading.Head.{Head}
use Rattle.line.specs.declared.reading.Path.{Path}
use Rattle.line.specs.declared.reading.Section.{Section}
use Rattle.line.specs.Ranges.{station_count, tracks, gap, train_count, train_number, booking_count, list_count, newest, station, time, weight, run, stop}
use Rattle.line.specs.Record.{no_segment, no_train, no_booking, no_listed, Further, line_with, legs_between}
use Rattle.line.specs.Bookings.{bookable}

-- a number in its range, with the byte b after it: 2 for its form and the byte after it, 3 for its range
abbrev pub number : Limits → ℕ → List ℕ → Cursor → Parsed ℕ
number r b s c = ranged_at 2 3 r.min r.max b s c

-- the byte after a field with k more on its line
abbrev pub after_field : ℕ → ℕ
after_field zero = 10
after_field (suc k) = 32

-- ---- a section: "each after a line with its count", and then a line each

-- the entries that it has: it is its count, and an array that begins with what its lines gave
abbrev pub used_in : {A : Type 0} {size : ℕ} → Section A size → List A
used_in x = take x.count x.entries

-- a count in its range, and as many lines; "entries beyond a count are 0 (a kind is S) after reading"
unfoldable pub section_at : {A : Type 0} → Limits → (size : ℕ) → A → (List ℕ → Cursor → Parsed A) → List ℕ → Cursor → Parsed (Section A size)
section_at r size none line s c =
    then_read (number r 10 s c) (λ n c₁.
    then_read (lines n line s c₁) (λ xs c₂.
    Parsed.got (record { count = n; entries = padded size none xs }) c₂))

-- ---- 1. Stations, "a line each: tracks"

abbrev pub station_line : List ℕ → Cursor → Parsed ℕ
station_line s c = number tracks 10 s c

abbrev pub station_section : List ℕ → Cursor → Parsed (Section ℕ 12)
station_section s c = section_at station_count 12 0 station_line s c

-- ---- 2. Segments, "a line each: kind (the letter S, F or D), following gap f, opposing gap o"

-- the kind that a letter names
unfoldable pub letter_of : ℕ → Option Kind
letter_of b =
    pick (eqb b 83) (Some Kind.S)
    (pick (eqb b 70) (Some Kind.F)
    (pick (eqb b 68) (Some Kind.D) None))

-- what the answer for a letter tells
abbrev pub told_letter : Result Kind NoKind → Option Kind
told_letter (Ok k) = Some k
told_letter (Err e) = None

-- a kind and the space after it
unfoldable pub kind_at : List ℕ → Cursor → Parsed Kind
kind_at s c =
    on_some (letter_of (byte_at s c))
    (λ k. on_some (past_of s (ahead c) 32) (λ next. Parsed.got k next) (Parsed.bad 2 c.line))
    (Parsed.bad 2 c.line)

-- what the answer for the kind at a cursor on line p tells
abbrev pub told_kind : ℕ → Option (Kind × Cursor) → Parsed Kind
told_kind p (Some (k, c)) = Parsed.got k c
told_kind p None = Parsed.bad 2 p

unfoldable pub segment_line : List ℕ → Cursor → Parsed Segment
segment_line s c =
    then_read (kind_at s c) (λ k c₁.
    then_read (number gap 32 s c₁) (λ f c₂.
    then_read (number gap 10 s c₂) (λ o c₃.
    Parsed.got (record { kind = k; following = f; opposing = o }) c₃)))

-- of a line with n stations: "count is stations less 1 (any other is 3)"
abbrev pub joins : ℕ → Limits
joins n = record { min = n - 1; max = n - 1 }

abbrev pub segment_section : ℕ → List ℕ → Cursor → Parsed (Section Segment 11)
segment_section n s c = section_at (joins n) 11 no_segment segment_line s c

-- ---- 3. Trains, "a line each: origin, destination, earliest, latest, weight, then .. run, stop, run, stop, .., run"

-- origin and destination on a line of n stations
unfoldable pub path_at : ℕ → List ℕ → Cursor → Parsed Path
path_at n s c =
    then_read (number (station n) 32 s c) (λ o c₁.
    then_read (number (station n) 32 s c₁) (λ d c₂.
    pick (eqb d o) (Parsed.bad 4 c₁.line) (Parsed.got (record { origin = o; destination = d }) c₂)))

unfoldable pub head_at : ℕ → List ℕ → Cursor → Parsed Head
head_at n s c =
    then_read (path_at n s c) (λ path c₁.
    then_read (number time 32 s c₁) (λ e c₂.
    then_read (number time 32 s c₂) (λ l c₃.
    then_read (number weight 32 s c₃) (λ w c₄.
    Parsed.got (record { origin = path.origin; destination = path.destination; earliest = e; latest = l; weight = w }) c₄))))

-- the runs and stops of a path
pub record Journey : Type 0 where
  pub runs : List ℕ
  pub stops : List ℕ

-- a run with a stop after it, k times, and the last run
unfoldable pub journey_at : ℕ → List ℕ → Cursor → Parsed Journey
journey_at zero s c = then_read (number run 10 s c) (λ r next. Parsed.got (record { runs = r ∷ []; stops = [] }) next)
journey_at (suc k) s c =
    then_read (number run 32 s c) (λ r c₁.
    then_read (number stop 32 s c₁) (λ t c₂.
    then_read (journey_at k s c₂) (λ j end.
    Parsed.got (record { runs = r ∷ j.runs; stops = t ∷ j.stops }) end)))

-- the train of a line's head, with its runs and stops as arrays
abbrev pub train_with : Head → List ℕ → List ℕ → Train
train_with h rs ts =
    record { origin = h.origin; destination = h.destination; earliest = h.earliest; latest = h.latest; weight = h.weight; runs = rs; stops = ts }

unfoldable pub train_line : ℕ → List ℕ → Cursor → Parsed Train
train_line n s c =
    then_read (head_at n s c) (λ h c₁.
    then_read (journey_at (legs_between h.origin h.destination - 1) s c₁) (λ j c₂.
    Parsed.got (train_with h (padded 11 0 j.runs) (padded 11 0 j.stops)) c₂))

abbrev pub train_section : ℕ → List ℕ → Cursor → Parsed (Section Train 12)
train_section n s c = section_at train_count 12 no_train (train_line n) s c

-- ---- 4. Bookings (document 02, K1): "train, station, minute, in rising order of train then station, at most 120"

-- after the booking before it, on a line of n stations with these trains; 19 stands "at its station field after 3"
unfoldable pub booking_line : ℕ → List Train → Booking → List ℕ → Cursor → Parsed Booking
booking_line n trains before s c =
    then_read (number (train_number (length trains)) 32 s c) (λ i c₁.
    then_read (number (station n) 32 s c₁) (λ p c₂.
    pick (not (bookable trains before i p)) (Parsed.bad 19 c₁.line)
    (then_read (number time 10 s c₂) (λ m c₃. Parsed.got (record { train = i; station = p; minute = m }) c₃))))

-- a count in its range, and as many lines, each after the one before it
unfoldable pub rising_at : {A : Type 0} → Limits → A → (A → List ℕ → Cursor → Parsed A) → List ℕ → Cursor → Parsed (List A)
rising_at r none line s c = then_read (number r 10 s c) (λ n c₁. chained (λ before x. x) line n none s c₁)

abbrev pub null : {A : Type 0} → List A → Bool
null [] = true
null (x ∷ xs) = false

-- a section of n lines that ended at this cursor is empty and the last
abbrev pub empty_last : ℕ → List ℕ → Cursor → Bool
empty_last n s next = eqb n 0 && not (left s next)

-- "Sections past the third may be left off from the end, and the last one written is never empty"
unfoldable pub rising_section : {A : Type 0} → Limits → A → (A → List ℕ → Cursor → Parsed A) → List ℕ → Cursor → Parsed (List A)
rising_section r none line s c = optional_at 3 [] null (rising_at r none line) s c

abbrev pub booking_section : ℕ → List Train → List ℕ → Cursor → Parsed (List Booking)
booking_section n trains s c = rising_section booking_count no_booking (booking_line n trains) s c

-- ---- 5. Dues (document 02, K2), "train and due minute, rising by train"

-- a line of a list of trains, after the one before it, on a line with t trains: "a train out of order 19, at its own field after 3", and then the minutes,
-- which are in the range r
unfoldable pub listed_line : ℕ → Limits → Listed → List ℕ → Cursor → Parsed Listed
listed_line t r before s c =
    then_read (number (train_number t) 32 s c) (λ i c₁.
    pick (not (ltb before.train i)) (Parsed.bad 19 c.line)
    (then_read (number r 10 s c₁) (λ m c₂. Parsed.got (record { train = i; minutes = m }) c₂)))

-- the newest section
abbrev pub due_section : ℕ → List ℕ → Cursor → Parsed (List Listed)
due_section t s c = rising_section (newest (list_count t)) no_listed (listed_line t time) s c

-- ---- the file: "Three sections in this order", those that may be left off, and no bytes after the last line

-- the sections past the third, on a line of n stations with these trains
unfoldable pub further_at : ℕ → Section Train 12 → List ℕ → Cursor → Parsed Further
further_at n trains s c =
    then_read (booking_section n (used_in trains) s c) (λ bookings c₁.
    then_read (due_section trains.count s c₁) (λ dues c₂.
    Parsed.got (record { bookings = bookings; dues = dues }) c₂))

-- the line of its sections
abbrev pub line_from : Section ℕ 12 → Section Segment 11 → Section Train 12 → Further → Line
line_from stations segments trains further =
    line_with stations.count stations.entries segments.entries trains.count trains.entries further

unfoldable pub line_at : List ℕ → Cursor → Parsed Line
line_at s c =
    then_read (station_section s c) (λ stations c₁.
    then_read (segment_section stations.count s c₁) (λ segments c₂.
    then_read (train_section stations.count s c₂) (λ trains c₃.
    then_read (further_at stations.count trains s c₃) (λ further c₄.
    pick (ltb c₄.at (length s)) (Parsed.bad 2 c₄.line) (Parsed.got (line_from stations segments trains further) c₄)))))

-- "ASCII text of at most 4,096 bytes": over that is 1 at 0; else the sections are read from the first byte on, which is on line 1
unfoldable pub line_file : List ℕ → Parsed Line
line_file s = pick (ltb 4096 (length s)) (Parsed.bad 1 0) (line_at s (record { at = 0; line = 1 }))

-- ---- the answer of `read`

abbrev pub answered : {A : Type 0} → Parsed A → Result A Refusal
answered (Parsed.got x c) = Ok x
answered (Parsed.bad n p) = refusal n p
