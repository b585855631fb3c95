-- A line in which the earliest minute of one train is replaced is a line within the limits, as the one before; its text is an accepted file and differs from
-- the former one in that field alone.
use Rattle.std.specs.Prelude.{ℕ, zero, suc, ◌-◌, ◌≤◌, ◌<◌, ◌≡◌, length, get_or}
use Rattle.std.proofs.Math.Path.{refl, ap}
use Rattle.std.proofs.Common.{sym, ◌∙◌, subst, arith}
use mathlib.Core.List.{List, [], ◌∷◌, ◌++◌, map, append_assoc}
use Rattle.std.proofs.Math.ListN.{length-map}
use Rattle.std.proofs.Math.Seq.{length-take-le}
use Rattle.finite.specs.Alter.{altered}
use Rattle.finite.specs.AlterLaws.{altered-length, altered_again, altered_keeps, altered-take, altered-map, each_altered}
use Rattle.text.specs.Elements.EachThen.{each_then}
use Rattle.text.specs.Elements.Padded.{padded}
use Rattle.text.specs.Elements.PaddedLaws.{padded-altered}
use Rattle.text.proofs.Sections.ChainedLaws.{each_after-map}
use Rattle.text.specs.Writing.Digits.{digits}
use Rattle.line.specs.declared.Train.{Train}
use Rattle.line.specs.declared.Booking.{Booking}
use Rattle.line.specs.declared.Line.{Line}
use Rattle.line.specs.Record.{no_train, no_booking, trains_of, tracks_of, segments_of, bookings_of, tidy_train, tidy_line, traffic_with}
use Rattle.line.specs.Bookings.{numbered}
use Rattle.line.specs.Within.{TrainWithin, BookingWithin, Within, TrainArrays, Arrays}
use Rattle.line.specs.Spell.{field, station_text, segment_text, train_text, text_of}
use Rattle.line.specs.SpellLaws.{station_then, segment_then, train_then, each_then_lem}
use Rattle.line.specs.RoundTripLaws.{Accepts, accepts_read, read_back}
use Rattle.line.specs.Starting.{starting_at, starting}

-- the last alteration counts
pub starting_again : (l : Line) (i u v : ℕ) → starting i v (starting i u l) ≡ starting i v l
starting_again l i u v =
    ap (λ (ts : List Train). record { track = l.track; traffic = traffic_with l.traffic.train_count ts; booked = l.booked; dues = l.dues })
    (altered_again (starting_at v) (starting_at u) (λ t. refl) i l.traffic.trains)

-- ---- the limits

module _ (v : ℕ) (day : v ≤ 2879) where
  train-starting : (n : ℕ) (t : Train) → TrainWithin n t → TrainWithin n (starting_at v t)
  train-starting n t h =
      record {
        origin = h.origin;
        destination = h.destination;
        apart = h.apart;
        earliest = (omega arith, day);
        latest = h.latest;
        weight = h.weight;
        runs = h.runs;
        stops = h.stops;
      }

  module _ (l : Line) (i : ℕ) where
    trains_starting : trains_of (starting i v l) ≡ altered (starting_at v) i (trains_of l)
    trains_starting = altered-take (starting_at v) l.traffic.train_count i l.traffic.trains

    booking-starting : (before b : Booking) → BookingWithin l.track.station_count (trains_of l) before b →
        BookingWithin l.track.station_count (trains_of (starting i v l)) before b
    booking-starting before b h =
        let many = ap length trains_starting ∙ altered-length (starting_at v) i (trains_of l) in
        let origin = ap (λ (ts : List Train). (numbered ts b.train).origin) trains_starting
        ∙ altered_keeps (starting_at v) (λ (t : Train). t.origin) (λ t. refl) i (trains_of l) (b.train - 1) no_train in
        let destination = ap (λ (ts : List Train). (numbered ts b.train).destination) trains_starting
        ∙ altered_keeps (starting_at v) (λ (t : Train). t.destination) (λ t. refl) i (trains_of l) (b.train - 1) no_train in
        record {
          train = (h.train.0, omega (arith, h.train.1, many));
          station = h.station;
          order = h.order;
          middle = rw (origin, destination) h.middle;
          minute = h.minute;
        }

    pub starting_within : Within l → Within (starting i v l)
    starting_within w =
        let n = l.track.station_count in
        record {
          stations = w.stations;
          tracks = w.tracks;
          segments = w.segments;
          trains = w.trains;
          each_train = rw trains_starting (each_altered (starting_at v) (TrainWithin n) (train-starting n) i (trains_of l) w.each_train);
          bookings = w.bookings;
          each_booking =
              each_after-map (λ before b. b) (BookingWithin n (trains_of l)) (BookingWithin n (trains_of (starting i v l))) booking-starting (bookings_of l) no_booking
              w.each_booking;
          dues = w.dues;
          each_due = w.each_due;
        }

    pub starting_arrays : Arrays l → Arrays (starting i v l)
    starting_arrays a =
        record {
          tracks = a.tracks;
          segments = a.segments;
          trains = altered-length (starting_at v) i l.traffic.trains ∙ a.trains;
          each_train = each_altered (starting_at v) TrainArrays (λ t h. h) i l.traffic.trains a.each_train;
          bookings = a.bookings;
          dues = a.dues;
        }

    -- ---- entries beyond a count stay empty

    tidy_starting : (t : Train) → tidy_train (starting_at v t) ≡ starting_at v (tidy_train t)
    unfolding tidy_train
    tidy_starting t = refl

    starting_tidy : Within l → Arrays l → i < l.traffic.train_count → tidy_line l ≡ l → tidy_line (starting i v l) ≡ starting i v l
    unfolding tidy_line
    starting_tidy w a here tidy =
        let few : l.traffic.train_count ≤ 12 = w.trains.1 in
        let many = length-take-le l.traffic.train_count l.traffic.trains (omega (arith, few, a.trains)) in
        let size = length-map (trains_of l) tidy_train in
        let trains : padded 12 no_train (map tidy_train (trains_of (starting i v l))) ≡ altered (starting_at v) i l.traffic.trains =
        ap (λ (ts : List Train). padded 12 no_train (map tidy_train ts)) trains_starting
        ∙ ap (padded 12 no_train) (altered-map (starting_at v) tidy_train tidy_starting i (trains_of l))
        ∙ padded-altered (starting_at v) 12 no_train i (map tidy_train (trains_of l)) (omega (arith, size, many)) (omega (arith, size, many))
        ∙ ap (λ (m : Line). altered (starting_at v) i m.traffic.trains) tidy in
        λ k. record {
          track = (tidy k).track;
          traffic = traffic_with l.traffic.train_count (trains k);
          booked = (tidy k).booked;
          dues = (tidy k).dues;
        }

    -- ---- the altered file

    -- its text is accepted, as the altered line
    pub starting_accepted : (s : List ℕ) → Accepts s l → i < l.traffic.train_count → Accepts (text_of (starting i v l)) (starting i v l)
    starting_accepted s e here =
        let r = accepts_read s l e in
        let back = read_back (starting i v l) (starting_arrays r.arrays) (starting_within r.limits) in
        subst (λ (m : Line). Accepts (text_of (starting i v l)) m) (starting_tidy r.limits r.arrays here r.tidy) back.read

-- ---- one field

-- two texts that are the same but for one number, with a space after it
pub record OneField (old new : ℕ) (s s' : List ℕ) : Type 0 where
  pub front : List ℕ
  pub rest : List ℕ
  pub was : s ≡ front ++ field old 32 rest
  pub is : s' ≡ front ++ field new 32 rest

-- after the same bytes
after_same : {old new : ℕ} {s s' : List ℕ} (p : List ℕ) → OneField old new s s' → OneField old new (p ++ s) (p ++ s')
after_same p o =
    record {
      front = p ++ o.front;
      rest = o.rest;
      was = ap (λ (x : List ℕ). p ++ x) o.was ∙ sym (append_assoc p o.front _);
      is = ap (λ (x : List ℕ). p ++ x) o.is ∙ sym (append_assoc p o.front _);
    }

-- after a number and the byte after it
after-field : {old new : ℕ} {s s' : List ℕ} (n b : ℕ) → OneField old new s s' → OneField old new (field n b s) (field n b s')
after-field n b o = after_same (digits n) (after_same (b ∷ []) o)

-- after a part for each element of a list
after_each : {A : Type 0} (text : A → List ℕ → List ℕ) (parts : (x : A) (rest : List ℕ) → text x rest ≡ text x [] ++ rest) (xs : List A)
    {old new : ℕ} {s s' : List ℕ} → OneField old new s s' → OneField old new (each_then text xs s) (each_then text xs s')
after_each text parts xs {s = s} {s' = s'} o = rw (each_then_lem text parts xs s, each_then_lem text parts xs s') (after_same (each_then text xs []) o)

module _ (v : ℕ) where
  train-field : (t : Train) (rest : List ℕ) → OneField t.earliest v (train_text t rest) (train_text (starting_at v t) rest)
  train-field t rest =
      after-field t.origin 32 (after-field t.destination 32 (record { front = []; rest = _; was = refl; is = refl }))

  trains_field : (i : ℕ) (ts : List Train) (rest : List ℕ) → i < length ts →
      OneField (get_or ts i no_train).earliest v (each_then train_text ts rest) (each_then train_text (altered (starting_at v) i ts) rest)
  trains_field i [] rest h = absurd (omega arith)
  trains_field zero (t ∷ ts) rest h = train-field t (each_then train_text ts rest)
  trains_field (suc i) (t ∷ ts) rest h =
      rw (train_then t (each_then train_text ts rest), train_then t (each_then train_text (altered (starting_at v) i ts) rest))
      (after_same (train_text t []) (trains_field i ts rest (omega arith)))

  -- the bytes before the earliest minute of train i and those after it are the same in both files
  pub one_field : (l : Line) (i : ℕ) → i < length (trains_of l) → OneField (get_or (trains_of l) i no_train).earliest v (text_of l) (text_of (starting i v l))
  unfolding text_of
  one_field l i h =
      after-field l.track.station_count 10 (after_each station_text station_then (tracks_of l)
      (after-field (l.track.station_count - 1) 10 (after_each segment_text segment_then (segments_of l)
      (after-field l.traffic.train_count 10
      (rw (altered-take (starting_at v) l.traffic.train_count i l.traffic.trains) (trains_field i (trains_of l) _ h))))))
