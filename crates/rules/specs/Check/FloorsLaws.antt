-- Laws of the list of floors: a booking raises the entry of its own leg alone, and each booking of a line has its entry; by the list, rule 18 and the free
-- arrivals are those of the line, also where a train comes by itself.
use Rattle.std.specs.Prelude.{◌≡◌, ℕ, zero, suc, ◌+◌, ◌-◌, ◌*◌, ◌<◌, ◌≤◌, max, List, length, take, get_or, replicate, ◌≢◌, nat_le, slice_index, slice_index_or, slice_set}
use Rattle.std.proofs.Math.Path.{refl}
use Rattle.std.proofs.Common.{sym, ap, ◌∙◌, arith, length-set, length-take-le, get_or-take, get_or-set_same, get_or-set_other}
use Rattle.std.proofs.Math.Decide.{ℕ_discrete}
use Rattle.std.proofs.Math.Numerals.{add-one}
use Rattle.std.proofs.lemmas.List.{length-replicate, get_or-replicate}
use Rattle.finite.specs.Below.{EachBelow, most}
use Rattle.finite.specs.LoopLaws.{most_none, most-more}
use Rattle.finite.specs.BelowLaws.{all_same}
use Rattle.finite.specs.DecideLaws.{is_true, is_false}
use Rattle.finite.specs.EachLaws.{each_at}
use Rattle.line.specs.declared.Train.{Train}
use Rattle.line.specs.declared.Booking.{Booking}
use Rattle.line.specs.declared.Line.{Line}
use Rattle.line.specs.Record.{no_booking, trains_of}
use Rattle.line.specs.Runnable.{BookingRunnable, Runnable}
use Rattle.rules.specs.Statement.Paths.{past_train, train, booking, leg_from, legs}
use Rattle.rules.specs.Statement.Bookings.{booked_minute, floor_of}
use Rattle.rules.specs.StatementLaws.PathsLaws.{legs-most}
use Rattle.rules.specs.StatementLaws.BookingsLaws.{decides_for, booked_leg}
use Rattle.rules.specs.Statement.Delay.{free_after}
use Rattle.rules.specs.Check.Floors.{floor_in, Floors, FloorsBy, arrived_after, arrived_by, RunsAlone, HasEntry}
use Rattle.rules.specs.Check.Tests.{departure_of, booked_right}
use Rattle.rules.specs.Check.RulesLaws.{free-start, free-next, free-most}

module _ (trains : List Train) (bookings : List Booking) where
  pub floors_none : FloorsBy trains bookings 0 (replicate 176 0)
  floors_none =
      record {
        size = length-replicate {A = ℕ} 176 0;
        entries = λ i k a b. get_or-replicate {A = ℕ} 176 (16 * k + i) 0 0 (omega arith) ∙ sym (most_none _);
      }

  -- booking j, which is one of train i at the station of its leg k
  module _ (t : List ℕ) (j : ℕ) (h : FloorsBy trains bookings j t) (i k : ℕ) (number : (get_or bookings j no_booking).train ≡ i + 1)
      (leg : k ≡ leg_from (slice_index_or trains i past_train) (get_or bookings j no_booking).station) (few : (i < 12) × (k < 11)) where
    abbrev b : Booking
    b = slice_index_or bookings j no_booking

    here : booked_minute (slice_index_or trains i past_train) i k b ≡ b.minute
    here = rw (is_true (decides_for (slice_index_or trains i past_train) i k b) (number, sym leg)) refl

    elsewhere : (x y : ℕ) → (16 * y + x ≢ 16 * k + i) → booked_minute (slice_index_or trains x past_train) x y b ≡ 0
    elsewhere x y apart =
        rw (is_false (decides_for (slice_index_or trains x past_train) x y b) (λ z.
        let same : x ≡ i = omega (arith, z.0, number) in
        let own : y ≡ k = sym z.1 ∙ ap (λ (n : ℕ). leg_from (slice_index_or trains n past_train) b.station) same ∙ sym leg in
        apart (omega (arith, same, own)))) refl

    pub floors_more : (v : ℕ) → v ≡ max (slice_index t (16 * k + i)) b.minute → FloorsBy trains bookings (j + 1) (slice_set t (16 * k + i) v)
    floors_more v e =
        record {
          size = simp length-set h.size;
          entries = λ x y c d. elim (ℕ_discrete (16 * y + x) (16 * k + i)) [
            | yes s ↦
                let same : x ≡ i = omega (arith, s, few.0) in
                let own : y ≡ k = omega (arith, s, same) in
                rw (same, own)
                (get_or-set_same t (16 * k + i) v 0 (omega (arith, h.size, few.0, few.1)) ∙
                omega (arith, e, h.entries i k few.0 few.1, most-more (λ n. booked_minute (slice_index_or trains i past_train) i k (slice_index_or bookings n no_booking)) j, here))
            | no s ↦
                get_or-set_other t (16 * k + i) (16 * y + x) v 0 s ∙
                omega (arith, h.entries x y c d, most-more (λ n. booked_minute (slice_index_or trains x past_train) x y (slice_index_or bookings n no_booking)) j, elsewhere x y s)
          ];
        }

-- ---- of a line

pub floors_line : (l : Line) (t : List ℕ) → FloorsBy l.traffic.trains l.booked.bookings l.booked.booking_count t → Floors l t
unfolding floor_of
floors_line l t h = record { size = h.size; entries = h.entries }

most_same : (f g : ℕ → ℕ) (n : ℕ) → EachBelow n (λ j. f j ≡ g j) → most f n ≡ most g n
most_same f g zero h = most_none f ∙ sym (most_none g)
most_same f g (suc n) h =
    rw (← add-one) (omega (arith, most-more f n, most-more g n, most_same f g n (λ j b. h j (omega arith)), h n (omega arith)))

-- for the code, which takes the bookings of the line out of its array
module _ (l : Line) (w : Runnable l) (size : length l.booked.bookings ≡ 120) {count : ℕ} (number : count ≡ l.booked.booking_count) where
  abbrev booked : List Booking
  booked = take count l.booked.bookings

  booked_long : length booked ≡ l.booked.booking_count
  booked_long = omega (arith, length-take-le count l.booked.bookings (omega (arith, number, size, w.bookings.1)), number)

  booked_at : (j : ℕ) → j < l.booked.booking_count → slice_index_or booked j no_booking ≡ booking l j
  booked_at j b = get_or-take count l.booked.bookings j no_booking (omega (arith, b, number))

  pub floors_taken : (t : List ℕ) → FloorsBy l.traffic.trains booked (length booked) t → Floors l t
  floors_taken t h =
      floors_line l t
      record {
        size = h.size;
        entries = λ i k a b.
            h.entries i k a b
            ∙ ap (most _) booked_long
            ∙ most_same _ _ l.booked.booking_count (λ j c. ap (λ (x : Booking). booked_minute (train l i) i k x) (booked_at j c));
      }

-- rule 18 by the list is that by the floors of the line
pub booked_listed : (l : Line) (m : List ℕ) (i : ℕ) (t : List ℕ) → Floors l t → i < 12 → legs l i ≤ 11 →
    booked_right (floor_in t i) (train l i) m i ≡ booked_right (floor_of l i) (train l i) m i
unfolding booked_right
booked_listed l m i t h few short = all_same _ _ (legs l i) (λ k b. ap (λ (x : ℕ). nat_le x (departure_of (train l i) m i k)) (h.entries i k few (omega arith)))

-- the arrivals that the code works out are those of the train alone on the line
module _ (runs stops t : List ℕ) (a i : ℕ) where
  pub arrived_start : arrived_after a runs stops t i 0 ≡ a
  unfolding arrived_after
  arrived_start = refl

  pub arrived_next : (j : ℕ) → arrived_after a runs stops t i (j + 1) ≡ max (arrived_after a runs stops t i j + slice_index stops j) (floor_in t i (j + 1)) + slice_index runs (j + 1)
  unfolding arrived_after
  arrived_next j = rw add-one refl

pub arrived_free : (l : Line) (t : List ℕ) → Floors l t → (a i : ℕ) → i < 12 → a ≡ free_after l i 0 →
    (j : ℕ) → j < 11 → arrived_after a (train l i).runs (train l i).stops t i j ≡ free_after l i j
arrived_free l t h a i few start zero b = arrived_start _ _ t a i ∙ start
arrived_free l t h a i few start (suc j) b =
    rw (← add-one)
    (omega (
      arith,
      arrived_next (train l i).runs (train l i).stops t a i j,
      free-next l i j,
      arrived_free l t h a i few start j (omega arith),
      h.entries i (j + 1) few (omega arith),
    ))

pub has_entry : (l : Line) → Runnable l → length l.traffic.trains ≡ 12 → length l.booked.bookings ≡ 120 →
    (j : ℕ) → j < l.booked.booking_count → HasEntry l.traffic.trains (booking l j)
has_entry l w trains bookings j b =
    let v = each_at (BookingRunnable (trains_of l)) l.booked.booking_count l.booked.bookings j no_booking (omega (arith, w.bookings.1, bookings)) b w.each_booking in
    let many = length-take-le l.traffic.train_count l.traffic.trains (omega (arith, w.trains.1, trains)) in
    let i = (booking l j).train - 1 in
    let own : (booking l j).train ≡ i + 1 = omega (arith, v.train.0) in
    let used : i < l.traffic.train_count = omega (arith, v.train, many, own) in
    record { train = (v.train.0, omega (arith, own, used, w.trains.1)); leg = omega (arith, booked_leg l w i j b own, legs-most l i w used) }

pub taken_entry : (l : Line) → Runnable l → length l.traffic.trains ≡ 12 → length l.booked.bookings ≡ 120 → {count : ℕ} → count ≡ l.booked.booking_count →
    (j : ℕ) → j < length (take count l.booked.bookings) → HasEntry l.traffic.trains (slice_index_or (take count l.booked.bookings) j no_booking)
taken_entry l w trains bookings number j b =
    let used : j < l.booked.booking_count = omega (arith, b, booked_long l w bookings number) in
    rw (booked_at l w bookings number j used) (has_entry l w trains bookings j used)

-- train i of some line, alone on it: worked out from the train by itself it is the free arrival, and there is room for it
module _ (x : Train) (t : List ℕ) (i k : ℕ) (h : RunsAlone x t i k) where
  pub alone_train : i < 12
  alone_train = omega (arith, h.number, h.runnable.trains.1)

  pub alone_leg : k < 11
  alone_leg = omega (arith, h.leg, legs-most h.line i h.runnable h.number)

  pub arrived_alone : (j : ℕ) → j ≤ k → arrived_by x t i j ≡ free_after h.line i j
  arrived_alone j b =
      ap (λ (y : Train). arrived_by y t i j) (sym h.is)
      ∙ arrived_free h.line t h.floors _ i alone_train (sym (free-start h.line i)) j (omega (arith, alone_leg))

  pub arrived_most : (j : ℕ) → j ≤ k → arrived_by x t i j ≤ 12000
  arrived_most j b =
      omega (arith, arrived_alone j b, free-most h.line i h.runnable h.number j (omega (arith, h.leg)), alone_leg)

-- a line's train i
module _ (l : Line) (w : Runnable l) (t : List ℕ) (h : Floors l t) (i : ℕ) (n : i < l.traffic.train_count) (k : ℕ) (b : k < legs l i) where
  abbrev pub runs_alone : RunsAlone (train l i) t i k
  runs_alone = record { line = l; runnable = w; floors = h; number = n; is = refl; leg = b }

  pub arrived_line : arrived_by (train l i) t i k ≡ free_after l i k
  arrived_line = arrived_alone (train l i) t i k runs_alone k (omega arith)
