-- A line with every latest waived is the same line but for rule 13: the same minutes keep a plan, they have the same weighted delay, and no minutes up to 2,879
-- are late. Each statement speaks of trains by what `waived_train` leaves as it was.
use Prim.Native.Nat.{ℕ, zero, suc, ◌-◌, ◌%◌, ◌<◌}
use Rattle.std.specs.Prelude.{◌≡◌, List}
use Rattle.std.proofs.Math.Path.{refl, sym}
use Rattle.std.proofs.Common.{◌∙◌, arith, le-ltb}
use Rattle.std.proofs.Math.Decide.{dec_lt}
use Rattle.std.proofs.lemmas.List.{length-map}
use Rattle.std.proofs.Math.Seq.{ext_get_or}
use Rattle.finite.specs.EachLaws.{each_map, each_image, map_at, take-map}
use Rattle.finite.specs.BelowLaws.{sum_same, table_at, table_size_lem}
use Rattle.line.specs.declared.Train.{Train}
use Rattle.line.specs.declared.Booking.{Booking}
use Rattle.line.specs.declared.Line.{Line}
use Rattle.line.specs.Record.{no_train, trains_of, bookings_of}
use Rattle.line.specs.Within.{Arrays, TrainArrays}
use Rattle.line.specs.Runnable.{TrainRunnable, BookingRunnable, Runnable}
use Rattle.rules.specs.Statement.Paths.{past_train, train, legs, EachTrain}
use Rattle.rules.specs.Statement.Bookings.{floor_of}
use Rattle.rules.specs.Statement.Rules.{TrainRules, NotLate}
use Rattle.rules.specs.Statement.Delay.{free_after, due, weighted_delay}
use Rattle.rules.specs.Conflict.Directions.{direction_entry, directions_of}
use Rattle.orders.specs.LeastMinutes.NoLater.{WithinDays}
use Rattle.orders.specs.Plan.Choices.{Choice, on_segment, at_station, Of, Shared, KeepsChoice}
use Rattle.orders.specs.Plan.Marks.{Plan}
use Rattle.orders.specs.Plan.Plans.{Keeps}
use Rattle.orders.specs.Plan.TidyPlans.{Related, Fitting, Tidy}
use Rattle.orders.specs.Waived.WaivedLine.{waived_train, waived}

module _ (l : Line) (w : Runnable l) (a : Arrays l) where
  pub train-waived : (i : ℕ) → i < l.traffic.train_count → train (waived l) i ≡ waived_train (train l i)
  train-waived i h = map_at waived_train l.traffic.trains i past_train past_train (omega (arith, w.trains.1, a.trains))

  -- ---- what is asked of a line

  waived-train : (n : ℕ) (t : Train) → TrainRunnable n t → TrainRunnable n (waived_train t)
  waived-train n t h =
      record {
        origin = h.origin;
        destination = h.destination;
        apart = h.apart;
        earliest = h.earliest;
        latest = (omega arith, omega arith);
        weight = h.weight;
        runs = h.runs;
        stops = h.stops;
      }

  pub waived_runnable : Runnable (waived l)
  waived_runnable =
      let n = l.track.station_count in
      record {
        stations = w.stations;
        segments = w.segments;
        trains = w.trains;
        each_train =
            rw (take-map waived_train l.traffic.train_count l.traffic.trains)
            (each_image (TrainRunnable n) waived_train (trains_of l)
            (each_map (TrainRunnable n) (λ t. TrainRunnable n (waived_train t)) (waived-train n) (trains_of l) w.each_train));
        bookings = w.bookings;
        each_booking = each_map (BookingRunnable (trains_of l)) (BookingRunnable (trains_of (waived l))) booked (bookings_of l) w.each_booking;
        dues = w.dues;
      }
    where
      booked : (b : Booking) → BookingRunnable (trains_of l) b → BookingRunnable (trains_of (waived l)) b
      booked b h =
          rw (take-map waived_train l.traffic.train_count l.traffic.trains) (
          let at = map_at waived_train (trains_of l) (b.train - 1) no_train no_train (omega (arith, h.train)) in
          record {
            train = (h.train.0, omega (arith, h.train.1, length-map (trains_of l) waived_train));
            middle = rw at h.middle;
            minute = h.minute;
          }
          )

  pub waived_arrays : Arrays (waived l)
  waived_arrays =
      record {
        tracks = a.tracks;
        segments = a.segments;
        trains = length-map l.traffic.trains waived_train ∙ a.trains;
        each_train = each_image TrainArrays waived_train l.traffic.trains a.each_train;
        bookings = a.bookings;
        dues = a.dues;
      }

  -- ---- rule 13

  pub waived_timely : (m : List ℕ) → WithinDays m → EachTrain (waived l) (NotLate (waived l) m)
  waived_timely m h i n = rw (train-waived i n) (h _)

  -- ---- directions

  direction_waived : (e : ℕ) → direction_entry (waived l) e ≡ direction_entry l e
  unfolding direction_entry
  direction_waived e = elim (dec_lt (e % 16) l.traffic.train_count) [
    | yes n ↦ rw (train-waived (e % 16) n) refl
    | no n ↦ rw (le-ltb (e % 16) l.traffic.train_count (omega arith)) refl
  ]

  pub waived_directions : directions_of (waived l) ≡ directions_of l
  unfolding directions_of
  waived_directions =
      ext_get_or 0 (directions_of (waived l)) (directions_of l) (table_size_lem (direction_entry (waived l)) 176 ∙ sym (table_size_lem (direction_entry l) 176))
      (λ e h.
      let low : e < 176 = omega (arith, table_size_lem (direction_entry (waived l)) 176) in
      table_at (direction_entry (waived l)) 176 e low ∙ direction_waived e ∙
      sym (table_at (direction_entry l) 176 e low))

  -- ---- weighted delay

  floor_waived : (i : ℕ) → i < l.traffic.train_count → (k : ℕ) → floor_of (waived l) i k ≡ floor_of l i k
  unfolding floor_of
  floor_waived i n k = rw (train-waived i n) refl

  free-waived : (i : ℕ) → i < l.traffic.train_count → (k : ℕ) → free_after (waived l) i k ≡ free_after l i k
  unfolding free_after
  free-waived i n zero = rw (train-waived i n) refl
  free-waived i n (suc k) = rw (train-waived i n, free-waived i n k, floor_waived i n (suc k)) refl

  due-waived : (i : ℕ) → i < l.traffic.train_count → due (waived l) i ≡ due l i
  unfolding due
  due-waived i n = rw (train-waived i n, free-waived i n (legs l i - 1)) refl

  pub waived-delay : (m : List ℕ) → weighted_delay (waived l) m ≡ weighted_delay l m
  unfolding weighted_delay
  waived-delay m = sum_same _ _ l.traffic.train_count (λ i n. rw (train-waived i n, due-waived i n) refl)

  -- ---- to keep a plan

  module _ (m : List ℕ) (i : ℕ) (n : i < l.traffic.train_count) where
    rules_waived : TrainRules l m i → TrainRules (waived l) m i
    rules_waived h =
        record {
          rule10 = rw (train-waived i n) h.rule10;
          rule11 = rw (train-waived i n) h.rule11;
          rule12 = rw (train-waived i n) h.rule12;
          rule18 = rw (train-waived i n) h.rule18;
        }

    waived_rules : TrainRules (waived l) m i → TrainRules l m i
    waived_rules h =
        record {
          rule10 = rw (train-waived i n) at h.rule10;
          rule11 = rw (train-waived i n) at h.rule11;
          rule12 = rw (train-waived i n) at h.rule12;
          rule18 = rw (train-waived i n) at h.rule18;
        }

  of_waived : (c : Choice) → Of l c → Of (waived l) c
  of_waived (on_segment p i j) o = o
  of_waived (at_station x i j) o = o

  waived_of : (c : Choice) → Of (waived l) c → Of l c
  waived_of (on_segment p i j) o = o
  waived_of (at_station x i j) o = o

  shared-waived : (c : Choice) → Of l c → Shared l c → Shared (waived l) c
  shared-waived (on_segment p i j) o s = rw (train-waived i o.1, train-waived j o.2) s
  shared-waived (at_station x i j) o s = rw (train-waived i o.1, train-waived j o.2) s

  waived-shared : (c : Choice) → Of l c → Shared (waived l) c → Shared l c
  waived-shared (on_segment p i j) o s = rw (train-waived i o.1, train-waived j o.2) at s
  waived-shared (at_station x i j) o s = rw (train-waived i o.1, train-waived j o.2) at s

  choice_waived : (m : List ℕ) (c : Choice) → Of l c → KeepsChoice l m c → KeepsChoice (waived l) m c
  choice_waived m (on_segment p i j) o k = rw (train-waived i o.1, train-waived j o.2) k
  choice_waived m (at_station x i j) o k = rw (train-waived i o.1, train-waived j o.2) k

  waived_choice : (m : List ℕ) (c : Choice) → Of l c → KeepsChoice (waived l) m c → KeepsChoice l m c
  waived_choice m (on_segment p i j) o k = rw (train-waived i o.1, train-waived j o.2) at k
  waived_choice m (at_station x i j) o k = rw (train-waived i o.1, train-waived j o.2) at k

  pub keeps_waived : (p : Plan) (m : List ℕ) → Keeps l p m → Keeps (waived l) p m
  keeps_waived p m k =
      record {
        trains = λ i n. rules_waived m i n (k.trains i n);
        choices = λ c o s t. let f = waived_of c o in choice_waived m c f (k.choices c f (waived-shared c f s) t);
      }

  pub waived_keeps : (p : Plan) (m : List ℕ) → Keeps (waived l) p m → Keeps l p m
  waived_keeps p m k =
      record {
        trains = λ i n. waived_rules m i n (k.trains i n);
        choices = λ c o s t. waived_choice m c o (k.choices c (of_waived c o) (shared-waived c o s) t);
      }

  -- ---- choices and plans that fit the line

  related_waived : (c : Choice) → Of l c → Related l c → Related (waived l) c
  related_waived (on_segment p i j) o r = rw (train-waived i o.1, train-waived j o.2) r
  related_waived (at_station x i j) o r = tt

  pub fitting_waived : (c : Choice) → Fitting l c → Fitting (waived l) c
  fitting_waived c f = (of_waived c f.0, shared-waived c f.0 f.1, related_waived c f.0 f.2)

  pub tidy_waived : (p : Plan) → Tidy l p → Tidy (waived l) p
  tidy_waived p h = record { size = h.size; fitting = λ c place mark. fitting_waived c (h.fitting c place mark) }
