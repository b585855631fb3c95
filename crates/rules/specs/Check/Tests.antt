-- Rules 10 to 13 and 18 as tests of a train, which is train i, in the minutes m.
use Rattle.std.specs.Prelude.{ℕ, ◌+◌, ◌-◌, Bool, true, cond, leb, List, ◌==◌, nat_eq, nat_le, slice_index}
use Rattle.finite.specs.Below.{all}
use Rattle.line.specs.declared.Train.{Train}
use Rattle.line.specs.declared.Line.{Line}
use Rattle.line.specs.Record.{legs_of}
use Rattle.rules.specs.Statement.Paths.{train, segment_of}
use Rattle.rules.specs.Statement.Bookings.{floor_of}
use Rattle.rules.specs.Statement.Minutes.{departs_on, arrives_on}

-- the minutes of leg k of a train on this path
abbrev pub departure_of : Train → List ℕ → ℕ → ℕ → ℕ
departure_of t m i k = departs_on m (segment_of t k) i

abbrev pub arrival_of : Train → List ℕ → ℕ → ℕ → ℕ
arrival_of t m i k = arrives_on m (segment_of t k) i

unfoldable pub starts_right : Train → List ℕ → ℕ → Bool
starts_right t m i = nat_le t.earliest (departure_of t m i 0)

unfoldable pub runs_right : Train → List ℕ → ℕ → Bool
runs_right t m i = all (λ k. nat_eq (arrival_of t m i k) (departure_of t m i k + slice_index t.runs k)) (legs_of t)

unfoldable pub stops_right : Train → List ℕ → ℕ → Bool
stops_right t m i = all (λ k. leb (arrival_of t m i k + slice_index t.stops k) (departure_of t m i (k + 1))) (legs_of t - 1)

-- no departure is before the floor of its leg
unfoldable pub booked_right : (ℕ → ℕ) → Train → List ℕ → ℕ → Bool
booked_right floor t m i = all (λ k. leb (floor k) (departure_of t m i k)) (legs_of t)

unfoldable pub ends_right : Train → List ℕ → ℕ → Bool
ends_right t m i = nat_le (arrival_of t m i (legs_of t - 1)) t.latest

-- the rule of this number, of those that are about one train; a number that is none of theirs is kept by every train
unfoldable pub keeps_by : ℕ → (ℕ → ℕ) → Train → List ℕ → ℕ → Bool
keeps_by n floor t m i =
    cond (n == 10) (starts_right t m i)
    (cond (n == 11) (runs_right t m i)
    (cond (n == 12) (stops_right t m i)
    (cond (n == 18) (booked_right floor t m i)
    (cond (n == 13) (ends_right t m i)
    true))))

-- of train i of a line
abbrev pub keeps_rule : ℕ → Line → List ℕ → ℕ → Bool
keeps_rule n l m i = keeps_by n (floor_of l i) (train l i) m i
