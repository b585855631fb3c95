-- Laws of bookings by train and leg: they are kept exactly when no departure is before its floor, and a floor is a minute of the day.
use Rattle.std.specs.Prelude.{◌≡◌, ℕ, zero, suc, ◌+◌, ◌-◌, ◌<◌, ◌≤◌, Bool, true, false, cond, List, [], ◌∷◌, length, get_or, take, slice_index_or, refl}
use Rattle.std.proofs.Common.{ap, ◌∙◌, ⊎_elim}
use native.Mathlib.Omega.{arith}
use Rattle.finite.specs.Below.{EachBelow, most}
use Rattle.finite.specs.BelowLaws.{most_over, most-least}
use Rattle.finite.specs.Decide.{Decides}
use Rattle.finite.specs.DecideLaws.{decides_and, decides_eq, is_true}
use Rattle.finite.specs.EachLaws.{each_or}
use Rattle.line.specs.declared.Booking.{Booking}
use Rattle.line.specs.declared.Train.{Train}
use Rattle.line.specs.declared.Line.{Line}
use Rattle.line.specs.Record.{no_train, no_booking, trains_of}
use Rattle.line.specs.Bookings.{Between, numbered}
use Rattle.line.specs.Runnable.{BookingRunnable, Runnable}
use Rattle.rules.specs.Statement.Paths.{past_train, train, booking, leg_from, legs}
use Rattle.rules.specs.Statement.Bookings.{is_for, booked_for, floor_of}
use Rattle.rules.specs.Statement.Minutes.{departure}
use Rattle.rules.specs.Statement.Rules.{KeepsBookings}

pub decides_for : (t : Train) (i k : ℕ) (b : Booking) → Decides ((b.train ≡ i + 1) × (leg_from t b.station ≡ k)) (is_for t i k b)
decides_for t i k b = decides_and (decides_eq _ _) (decides_eq _ _)

decides_booked_for : (l : Line) (i k j : ℕ) → Decides (((booking l j).train ≡ i + 1) × (leg_from (train l i) (booking l j).station ≡ k)) (booked_for l i k j)
decides_booked_for l i k j = decides_for (train l i) i k (booking l j)

module _ (l : Line) (m : List ℕ) (i : ℕ) where
  pub floors_kept : KeepsBookings l m i → (k : ℕ) → floor_of l i k ≤ departure l m i k
  unfolding floor_of
  floors_kept h k = most-least _ l.booked.booking_count (departure l m i k) (λ j b. under j b (booked_for l i k j) refl)
    where
      under : (j : ℕ) → j < l.booked.booking_count → (c : Bool) → booked_for l i k j ≡ c → cond c (booking l j).minute 0 ≤ departure l m i k
      under j b true e = let x = (decides_booked_for l i k j).yea e in rw x.1 at (h j b x.0)
      under j b false e = omega arith

  -- where each booking of the train is for one of its legs
  pub kept_floors : EachBelow l.booked.booking_count (λ j. (booking l j).train ≡ i + 1 → leg_from (train l i) (booking l j).station < legs l i) →
      EachBelow (legs l i) (λ k. floor_of l i k ≤ departure l m i k) → KeepsBookings l m i
  unfolding floor_of
  kept_floors on h j b e =
      let k = leg_from (train l i) (booking l j).station in
      let test : booked_for l i k j ≡ true = is_true (decides_booked_for l i k j) (e, refl) in
      let over : cond (booked_for l i k j) (booking l j).minute 0 ≤ most (λ y. cond (booked_for l i k y) (booking l y).minute 0) l.booked.booking_count =
      most_over (λ y. cond (booked_for l i k y) (booking l y).minute 0) l.booked.booking_count j b in
      omega (arith, rw test at over, h k (on j b e))

-- the train of a number, as a line has it
used_train : (t i : ℕ) (trains : List Train) → i < length (take t trains) → slice_index_or (take t trains) i no_train ≡ slice_index_or trains i past_train
used_train zero i trains b = absurd (omega arith)
used_train (suc t) i [] b = absurd (omega arith)
used_train (suc t) zero (x ∷ trains) b = refl
used_train (suc t) (suc i) (x ∷ trains) b = used_train t i trains (omega arith)

module _ (l : Line) (w : Runnable l) (i j : ℕ) (b : j < l.booked.booking_count) (e : (booking l j).train ≡ i + 1) where
  -- a booking of train i is at a station between its ends
  booked_between : Between (train l i) (booking l j).station
  booked_between =
      ⊎_elim on (λ none. absurd (omega (arith, e, ap (λ (x : Booking). x.train) none)))
      (each_or (BookingRunnable (trains_of l)) l.booked.booking_count l.booked.bookings j no_booking b w.each_booking)
    where
      on : BookingRunnable (trains_of l) (booking l j) → Between (train l i) (booking l j).station
      on v =
          let index : (booking l j).train - 1 ≡ i = omega (arith, e) in
          let same : numbered (trains_of l) (booking l j).train ≡ train l i =
          ap (λ (k : ℕ). get_or (trains_of l) k no_train) index ∙ used_train l.traffic.train_count i l.traffic.trains (omega (arith, v.train.1, e)) in
          rw same at v.middle

  -- so it is for one of its legs, and not for the first
  pub booked_leg : leg_from (train l i) (booking l j).station < legs l i
  booked_leg = omega (arith, booked_between.0, booked_between.1)

  later-leg : 1 ≤ leg_from (train l i) (booking l j).station
  later-leg = omega (arith, booked_between.0, booked_between.1)

-- none is booked for the first leg: the origin is no middle station
pub floor_first : (l : Line) → Runnable l → (i : ℕ) → floor_of l i 0 ≤ 0
unfolding floor_of
floor_first l w i = most-least _ l.booked.booking_count 0 (λ j b. under j b (booked_for l i 0 j) refl)
  where
    under : (j : ℕ) → j < l.booked.booking_count → (c : Bool) → booked_for l i 0 j ≡ c → cond c (booking l j).minute 0 ≤ 0
    under j b true e = let x = (decides_booked_for l i 0 j).yea e in absurd (omega (arith, x.1, later-leg l w i j b x.0))
    under j b false e = omega arith

-- a floor is at most 2,879
pub floor_most : (l : Line) (i : ℕ) → Runnable l → (k : ℕ) → floor_of l i k ≤ 2879
unfolding floor_of
floor_most l i w k = most-least _ l.booked.booking_count 2879 (λ j b. under j b (booked_for l i k j))
  where
    minute : (j : ℕ) → j < l.booked.booking_count → (booking l j).minute ≤ 2879
    minute j b =
        ⊎_elim (λ v. v.minute.1) (λ e. omega (arith, ap (λ (x : Booking). x.minute) e))
        (each_or (BookingRunnable (trains_of l)) l.booked.booking_count l.booked.bookings j no_booking b w.each_booking)

    under : (j : ℕ) → j < l.booked.booking_count → (c : Bool) → cond c (booking l j).minute 0 ≤ 2879
    under j b true = minute j b
    under j b false = omega arith
