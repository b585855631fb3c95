-- Bookings of a line by train and leg (document 02, K1).
use Rattle.std.specs.Prelude.{ℕ, ◌+◌, Bool, cond, ◌&&◌, List, ◌==◌, slice_index_or}
use Rattle.finite.specs.Below.{most}
use Rattle.line.specs.declared.Booking.{Booking}
use Rattle.line.specs.declared.Train.{Train}
use Rattle.line.specs.declared.Line.{Line}
use Rattle.line.specs.Record.{no_booking}
use Rattle.rules.specs.Statement.Paths.{past_train, train, booking, leg_from}

-- a booking is for the departure of train t, which is train i, on its leg k
abbrev pub is_for : Train → ℕ → ℕ → Booking → Bool
is_for t i k b = b.train == i + 1 && leg_from t b.station == k

-- its minute, if it is, or else 0
abbrev pub booked_minute : Train → ℕ → ℕ → Booking → ℕ
booked_minute t i k b = cond (is_for t i k b) b.minute 0

-- booking j of the line is for leg k of its train i
abbrev pub booked_for : Line → ℕ → ℕ → ℕ → Bool
booked_for l i k j = is_for (train l i) i k (booking l j)

-- the minute booked for leg k of train i, of these trains, by the first n bookings, or 0 where there is none
abbrev pub floor_by : List Train → List Booking → ℕ → ℕ → ℕ → ℕ
floor_by trains bookings n i k = most (λ j. booked_minute (slice_index_or trains i past_train) i k (slice_index_or bookings j no_booking)) n

-- that of a line: a floor under that departure
unfoldable pub floor_of : Line → ℕ → ℕ → ℕ
floor_of l i k = floor_by l.traffic.trains l.booked.bookings l.booked.booking_count i k
