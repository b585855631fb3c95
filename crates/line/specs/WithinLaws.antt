-- A record has no fault exactly when it is a line within the limits.
use Rattle.std.specs.Prelude.{ℕ, ◌+◌, ◌≡◌, refl, Bool, true, false, not, List, [], ◌∷◌, ltb, length, Ok}
use Rattle.std.proofs.Common.{arith}
use Rattle.text.specs.Reading.Choice.{pick}
use Rattle.text.specs.Reading.Told.{refusal}
use Rattle.text.specs.Sections.Chained.{EachAfter}
use Rattle.finite.specs.Decide.{Decides}
use Rattle.finite.specs.DecideLaws.{decides_lt}
use Rattle.text.specs.declared.Limits.{Limits}
use Rattle.finite.specs.Each.{Each}
use Rattle.line.specs.declared.Segment.{Segment}
use Rattle.line.specs.declared.Train.{Train}
use Rattle.line.specs.declared.Booking.{Booking}
use Rattle.line.specs.declared.Listed.{Listed}
use Rattle.line.specs.declared.TrainList.{TrainList}
use Rattle.line.specs.declared.Line.{Line}
use Rattle.line.specs.Ranges.{In, station_count, tracks, gap, train_count, train_number, booking_count, list_count, station, time, run, stop}
use Rattle.line.specs.Record.{no_booking, no_listed, tracks_of, segments_of, trains_of, bookings_of, listed_in, runs_of, stops_of}
use Rattle.line.specs.Bookings.{bookable}
use Rattle.line.specs.BookingsLaws.{decides_bookable}
use Rattle.line.specs.Within.{SegmentWithin, TrainWithin, BookingWithin, ListedWithin, Within}
use Rattle.line.specs.Writing.{Checked, number_fault, lines_fault, times_fault, track_fault, segment_fault, train_fault, booking_fault, listed_fault, rising_fault, counted_fault, track_fault_of, traffic_fault_of, bookings_line, booked_fault_of, list_fault, dues_line, fault_of}
use Rattle.line.specs.FaultLaws.{CleanWhen, tells_then, tells_number, tells_head, times_lines}

-- the same in other words
tells_as : {f : Checked} {P Q : Type 0} → (P → Q) → (Q → P) → CleanWhen f P → CleanWhen f Q
tells_as there back p = record { holds = λ e. there (p.holds e); clean = λ q. p.clean (back q) }

-- elements on lines of their own
tells_lines : {A : Type 0} (f : ℕ → A → Checked) (P : A → Type 0) → ((p : ℕ) (x : A) → CleanWhen (f p x) (P x)) → (xs : List A) (p : ℕ) →
    CleanWhen (lines_fault xs f p) (Each P xs)
unfolding lines_fault
tells_lines f P one [] p = record { holds = λ e. tt; clean = λ u. refl }
tells_lines f P one (x ∷ xs) p = tells_then (f p x) (lines_fault xs f (p + 1)) (one p x) (tells_lines f P one xs (p + 1))

-- values on one line
tells_times : (r : Limits) (xs : List ℕ) (p : ℕ) → CleanWhen (times_fault xs r p) (Each (In r) xs)
tells_times r xs p = rw (times_lines xs r p 0) (tells_lines (λ _ n. number_fault r n p) (In r) (λ _ n. tells_number r n p) xs 0)

tells_segment : (p : ℕ) (g : Segment) → CleanWhen (segment_fault p g) (SegmentWithin g)
unfolding segment_fault
tells_segment p g =
    tells_as (λ h. record { following = h.0; opposing = h.1 }) (λ w. (w.following, w.opposing))
    (tells_then _ _ (tells_number gap g.following p) (tells_number gap g.opposing p))

tells_train : (n p : ℕ) (t : Train) → CleanWhen (train_fault n p t) (TrainWithin n t)
unfolding train_fault
tells_train n p t =
    tells_as
    (λ h. record {
      origin = h.0.0.0;
      destination = h.0.0.1.0;
      apart = h.0.0.1.1;
      earliest = h.0.1.0;
      latest = h.0.1.1.0;
      weight = h.0.1.1.1;
      runs = h.1.0;
      stops = h.1.1;
    })
    (λ w. (((w.origin, (w.destination, w.apart)), (w.earliest, (w.latest, w.weight))), (w.runs, w.stops)))
    (tells_then _ _ (tells_head n p t) (tells_then _ _ (tells_times run (runs_of t) p) (tells_times stop (stops_of t) p)))

-- elements on lines of their own, each after the one before it
tells_rising : {A : Type 0} (f : A → ℕ → A → Checked) (P : A → A → Type 0) → ((before : A) (p : ℕ) (x : A) → CleanWhen (f before p x) (P before x)) →
    (xs : List A) (before : A) (p : ℕ) → CleanWhen (rising_fault xs f before p) (EachAfter (λ a x. x) P before xs)
unfolding rising_fault
tells_rising f P one [] before p = record { holds = λ e. tt; clean = λ u. refl }
tells_rising f P one (x ∷ xs) before p =
    tells_then (f before p x) (rising_fault xs f x (p + 1)) (one before p x) (tells_rising f P one xs x (p + 1))

-- a section of them, with their count
tells_counted : {A : Type 0} (r : Limits) (n : ℕ) (xs : List A) (f : A → ℕ → A → Checked) (P : A → A → Type 0) (none : A) (p : ℕ) →
    ((before : A) (q : ℕ) (x : A) → CleanWhen (f before q x) (P before x)) →
    CleanWhen (counted_fault r n xs f none p) (In r n × EachAfter (λ a x. x) P none xs)
tells_counted r n xs f P none p one = tells_then _ _ (tells_number r n p) (tells_rising f P one xs none (p + 1))

-- a test before what follows it
tells_test : {P Q : Type 0} (b : Bool) (m p : ℕ) (f : Checked) → Decides P b → CleanWhen f Q → CleanWhen (pick (not b) (refusal m p) f) (P × Q)
tells_test true m p f d q = record { holds = λ e. (d.yea refl, q.holds e); clean = λ h. q.clean h.1 }
tells_test false m p f d q =
    record { holds = λ e. let z : ◌≡◌ {A = ℕ} 0 1 = cc in absurd (omega arith); clean = λ h. absurd (d.nay refl h.0) }

tells_booking : (n : ℕ) (trains : List Train) (before : Booking) (p : ℕ) (b : Booking) → CleanWhen (booking_fault n trains before p b) (BookingWithin n trains before b)
unfolding booking_fault
tells_booking n trains before p b =
    tells_as
    (λ h. record { train = h.0; station = h.1.0; order = h.1.1.0.0; middle = h.1.1.0.1; minute = h.1.1.1 })
    (λ w. (w.train, (w.station, ((w.order, w.middle), w.minute))))
    (tells_then _ _ (tells_number (train_number (length trains)) b.train p)
    (tells_then _ _ (tells_number (station n) b.station p)
    (tells_test (bookable trains before b.train b.station) 19 p _ (decides_bookable trains before b.train b.station) (tells_number time b.minute p))))

tells_listed : (t : ℕ) (r : Limits) (before : Listed) (p : ℕ) (x : Listed) → CleanWhen (listed_fault t r before p x) (ListedWithin t r before x)
unfolding listed_fault
tells_listed t r before p x =
    tells_as
    (λ h. record { train = h.0; order = h.1.0; minutes = h.1.1 })
    (λ w. (w.train, (w.order, w.minutes)))
    (tells_then _ _ (tells_number (train_number t) x.train p)
    (tells_test (ltb before.train x.train) 19 p _ (decides_lt before.train x.train) (tells_number r x.minutes p)))

tells_list : (t : ℕ) (r : Limits) (x : TrainList) (p : ℕ) →
    CleanWhen (list_fault t r x p) (In (list_count t) x.count × EachAfter (λ a y. y) (ListedWithin t r) no_listed (listed_in x))
unfolding list_fault
tells_list t r x p = tells_counted (list_count t) x.count (listed_in x) (listed_fault t r) (ListedWithin t r) no_listed p (tells_listed t r)

tells_line : (l : Line) → CleanWhen (fault_of l) (Within l)
unfolding fault_of track_fault_of traffic_fault_of booked_fault_of
tells_line l =
    let n = l.track.station_count in
    tells_as
    (λ h. record {
      stations = h.0.0;
      tracks = h.0.1.0;
      segments = h.0.1.1;
      trains = h.1.0.0;
      each_train = h.1.0.1;
      bookings = h.1.1.0.0;
      each_booking = h.1.1.0.1;
      dues = h.1.1.1.0;
      each_due = h.1.1.1.1;
    })
    (λ w. ((w.stations, (w.tracks, w.segments)), ((w.trains, w.each_train), ((w.bookings, w.each_booking), (w.dues, w.each_due)))))
    (tells_then _ _
    (tells_then _ _ (tells_number station_count n 1)
    (tells_then _ _ (tells_lines track_fault (In tracks) (λ p t. tells_number tracks t p) (tracks_of l) 2)
    (tells_lines segment_fault SegmentWithin tells_segment (segments_of l) (n + 3))))
    (tells_then _ _
    (tells_then _ _ (tells_number train_count l.traffic.train_count (n + n + 2))
    (tells_lines (train_fault n) (TrainWithin n) (tells_train n) (trains_of l) (n + n + 3)))
    (tells_then _ _
    (tells_counted booking_count l.booked.booking_count (bookings_of l) (booking_fault n (trains_of l)) (BookingWithin n (trains_of l)) no_booking (bookings_line l)
    (tells_booking n (trains_of l)))
    (tells_list l.traffic.train_count time l.dues (dues_line l)))))

pub within_of : (l : Line) → fault_of l ≡ Ok tt → Within l
within_of l = (tells_line l).holds

pub fault_none : (l : Line) → Within l → fault_of l ≡ Ok tt
fault_none l = (tells_line l).clean
