-- The floors under the departures of a line in a list, that of train i on its leg k at entry 16 k + i: what the code looks them up in.
use Rattle.std.specs.Prelude.{◌≡◌, ℕ, zero, suc, ◌+◌, ◌-◌, ◌*◌, ◌<◌, ◌≤◌, max, List, length, slice_index, slice_index_or}
use Rattle.line.specs.declared.Train.{Train}
use Rattle.line.specs.declared.Booking.{Booking}
use Rattle.line.specs.declared.Line.{Line}
use Rattle.line.specs.Runnable.{Runnable}
use Rattle.rules.specs.Statement.Paths.{past_train, train, legs, leg_from}
use Rattle.rules.specs.Statement.Bookings.{floor_by, floor_of}

-- the entry of train i and leg k
abbrev pub floor_in : List ℕ → ℕ → ℕ → ℕ
floor_in t i k = slice_index t (16 * k + i)

-- each entry has what f says of its train and leg
pub record HasFloors (f : ℕ → ℕ → ℕ) (t : List ℕ) : Type 0 where
  pub size : length t ≡ 176
  pub entries : (i k : ℕ) → i < 12 → k < 11 → floor_in t i k ≡ f i k

abbrev pub Floors : Line → List ℕ → Type 0
Floors l t = HasFloors (floor_of l) t

-- by the first n bookings
abbrev pub FloorsBy : List Train → List Booking → ℕ → List ℕ → Type 0
FloorsBy trains bookings n t = HasFloors (floor_by trains bookings n) t

-- the arrival after leg j of train i, from that after its first leg on, by runs, stops and floors in lists: as the code works it out
unfoldable pub arrived_after : ℕ → List ℕ → List ℕ → List ℕ → ℕ → ℕ → ℕ
arrived_after a runs stops t i zero = a
arrived_after a runs stops t i (suc j) = max (arrived_after a runs stops t i j + slice_index stops j) (floor_in t i (suc j)) + slice_index runs (suc j)

-- of this train, where it begins at its earliest
abbrev pub arrived_by : Train → List ℕ → ℕ → ℕ → ℕ
arrived_by x t i k = arrived_after (x.earliest + slice_index x.runs 0) x.runs x.stops t i k

-- x is train i of some line that can be run, t has the line's floors, and the train has a leg k
pub record RunsAlone (x : Train) (t : List ℕ) (i k : ℕ) : Type 0 where
  pub line : Line
  pub runnable : Runnable line
  pub floors : Floors line t
  pub number : i < line.traffic.train_count
  pub is : train line i ≡ x
  pub leg : k < legs line i

-- a booking is one of these trains, at a station that it can leave on one of 11 legs
pub record HasEntry (trains : List Train) (b : Booking) : Type 0 where
  pub train : (1 ≤ b.train) × (b.train ≤ 12)
  pub leg : leg_from (slice_index_or trains (b.train - 1) past_train) b.station < 11
