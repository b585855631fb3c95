-- Writing the record of a line: "Writing a record gives 3 or 4 with the line its field would have", and 19 "in writing a record too", in the order of the
-- bytes; else its text.
use Rattle.std.specs.Prelude.{ℕ, ◌+◌, ◌-◌, not, List, [], ◌∷◌, eqb, ltb, length, take, ⊤, Option, Result, Ok, Err}
use Rattle.std.specs.Result.{result_and}
use Rattle.text.specs.declared.Limits.{Limits}
use Rattle.text.specs.declared.Refusal.{Refusal}
use Rattle.text.specs.Reading.Choice.{pick, on_some}
use Rattle.text.specs.Reading.Limits.{bounded_of}
use Rattle.text.specs.Reading.Told.{refusal}
use Rattle.text.specs.Writing.Lend.{Spelling}
use Rattle.line.specs.declared.Segment.{Segment}
use Rattle.line.specs.declared.Train.{Train}
use Rattle.line.specs.declared.Track.{Track}
use Rattle.line.specs.declared.Traffic.{Traffic}
use Rattle.line.specs.declared.Booking.{Booking}
use Rattle.line.specs.declared.Booked.{Booked}
use Rattle.line.specs.declared.Listed.{Listed}
use Rattle.line.specs.declared.TrainList.{TrainList}
use Rattle.line.specs.declared.Line.{Line}
use Rattle.line.specs.Ranges.{station_count, tracks, gap, train_count, train_number, booking_count, list_count, station, time, weight, run, stop}
use Rattle.line.specs.Record.{no_booking, no_listed, listed_in, runs_of, stops_of}
use Rattle.line.specs.Bookings.{bookable, stands_after}
use Rattle.line.specs.Spell.{text_of}

-- the answer of a check: nothing is wrong, or the refusal
abbrev pub Checked : Type 0
Checked = Result ⊤ Refusal

-- a value on line p that was built, or refused
abbrev pub value_fault : Option ℕ → ℕ → Checked
value_fault v p = on_some v (λ x. Ok tt) (refusal 3 p)

-- a value outside its range on line p
unfoldable pub number_fault : Limits → ℕ → ℕ → Checked
number_fault r n p = value_fault (bounded_of r.min r.max n) p

-- the first fault of elements on lines of their own, from line p on
unfoldable pub lines_fault : {A : Type 0} → List A → (ℕ → A → Checked) → ℕ → Checked
lines_fault [] f p = Ok tt
lines_fault (x ∷ xs) f p = result_and (f p x) (lines_fault xs f (p + 1))

-- the first fault of values that stand on one line
unfoldable pub times_fault : List ℕ → Limits → ℕ → Checked
times_fault [] r p = Ok tt
times_fault (x ∷ xs) r p = result_and (number_fault r x p) (times_fault xs r p)

abbrev pub track_fault : ℕ → ℕ → Checked
track_fault p t = number_fault tracks t p

unfoldable pub segment_fault : ℕ → Segment → Checked
segment_fault p g = result_and (number_fault gap g.following p) (number_fault gap g.opposing p)

-- origin, destination (3, then 4)
unfoldable pub path_fault : ℕ → ℕ → ℕ → ℕ → Checked
path_fault n p o d =
    result_and (number_fault (station n) o p)
    (result_and (number_fault (station n) d p)
    (pick (eqb d o) (refusal 4 p) (Ok tt)))

-- the numbers before the runs and stops
unfoldable pub head_fault : ℕ → ℕ → Train → Checked
head_fault n p t =
    result_and (path_fault n p t.origin t.destination)
    (result_and (number_fault time t.earliest p)
    (result_and (number_fault time t.latest p)
    (number_fault weight t.weight p)))

-- runs and stops stand on one line and are refused by one number, so their order does not show
unfoldable pub train_fault : ℕ → ℕ → Train → Checked
train_fault n p t =
    result_and (head_fault n p t)
    (result_and (times_fault (runs_of t) run p)
    (times_fault (stops_of t) stop p))

-- train (3), station (3, then 19), minute (3)
unfoldable pub booking_fault : ℕ → List Train → Booking → ℕ → Booking → Checked
booking_fault n trains before p b =
    result_and (number_fault (train_number (length trains)) b.train p)
    (result_and (number_fault (station n) b.station p)
    (pick (not (bookable trains before b.train b.station)) (refusal 19 p) (number_fault time b.minute p)))

-- the same of a line with t trains, where the one with the number of the booking is given
unfoldable pub booking_fault_with : ℕ → ℕ → Train → Booking → ℕ → Booking → Checked
booking_fault_with n t train before p b =
    result_and (number_fault (train_number t) b.train p)
    (result_and (number_fault (station n) b.station p)
    (pick (not (stands_after before b.train b.station train)) (refusal 19 p) (number_fault time b.minute p)))

-- of a list of trains of a line with t of them: train (3, then 19), minutes (3)
unfoldable pub listed_fault : ℕ → Limits → Listed → ℕ → Listed → Checked
listed_fault t r before p x =
    result_and (number_fault (train_number t) x.train p)
    (pick (not (ltb before.train x.train)) (refusal 19 p) (number_fault r x.minutes p))

-- the first fault of elements on lines of their own, each after the one before it, from line p on
unfoldable pub rising_fault : {A : Type 0} → List A → (A → ℕ → A → Checked) → A → ℕ → Checked
rising_fault [] f before p = Ok tt
rising_fault (x ∷ xs) f before p = result_and (f before p x) (rising_fault xs f x (p + 1))

-- of a section of such elements: their count n, which is in the range r, on line p, and then they themselves, the first after `none`
abbrev pub counted_fault : {A : Type 0} → Limits → ℕ → List A → (A → ℕ → A → Checked) → A → ℕ → Checked
counted_fault r n xs f none p = result_and (number_fault r n p) (rising_fault xs f none (p + 1))

-- ---- part by part

unfoldable pub track_fault_of : Track → Checked
track_fault_of k =
    result_and (number_fault station_count k.station_count 1)
    (result_and (lines_fault (take k.station_count k.tracks) track_fault 2)
    (lines_fault (take (k.station_count - 1) k.segments) segment_fault (k.station_count + 3)))

-- of a line with n stations
unfoldable pub traffic_fault_of : ℕ → Traffic → Checked
traffic_fault_of n t =
    result_and (number_fault train_count t.train_count (n + n + 2))
    (lines_fault (take t.train_count t.trains) (train_fault n) (n + n + 3))

-- the line of the count of bookings
abbrev pub bookings_line : Line → ℕ
bookings_line l = l.track.station_count + l.track.station_count + 3 + l.traffic.train_count

-- of these bookings of a line with n stations and this traffic, their count on line p
abbrev pub booked_fault : ℕ → Traffic → Booked → ℕ → Checked
booked_fault n t b p =
    counted_fault booking_count b.booking_count (take b.booking_count b.bookings) (booking_fault n (take t.train_count t.trains)) no_booking p

unfoldable pub booked_fault_of : Line → Checked
booked_fault_of l = booked_fault l.track.station_count l.traffic l.booked (bookings_line l)

-- of a list of trains of a line with t of them, its count on line p
unfoldable pub list_fault : ℕ → Limits → TrainList → ℕ → Checked
list_fault t r x p = counted_fault (list_count t) x.count (listed_in x) (listed_fault t r) no_listed p

-- the line of the count of dues
abbrev pub dues_line : Line → ℕ
dues_line l = bookings_line l + 1 + l.booked.booking_count

abbrev pub dues_fault_of : Line → Checked
dues_fault_of l = list_fault l.traffic.train_count time l.dues (dues_line l)

unfoldable pub fault_of : Line → Checked
fault_of l =
    result_and (track_fault_of l.track)
    (result_and (traffic_fault_of l.track.station_count l.traffic)
    (result_and (booked_fault_of l) (dues_fault_of l)))

abbrev pub on_fault : {A : Type 0} → Checked → A → (ℕ → ℕ → A) → A
on_fault (Ok u) a f = a
on_fault (Err e) a f = f e.number e.place

-- what there is to write for a record: the refusal of its first bad field, or its text
unfoldable pub spelling : Line → Spelling
spelling l = on_fault (fault_of l) (Spelling.text (text_of l)) Spelling.refused
