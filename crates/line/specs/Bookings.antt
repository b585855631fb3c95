-- Where a booking may stand (document 02, K1): "in rising order of train then station", at "a middle one of that train"; as statements and as tests.
use Rattle.std.specs.Prelude.{ℕ, ◌-◌, ◌<◌, min, max, ◌≡◌, ◌⊎◌, Bool, ◌&&◌, ◌||◌, List, ltb, eqb, get_or}
use Rattle.line.specs.declared.Train.{Train}
use Rattle.line.specs.declared.Booking.{Booking}
use Rattle.line.specs.Record.{no_train}

-- a booking of train t at station s comes after the booking a
abbrev pub Rises : Booking → ℕ → ℕ → Type 0
Rises a t s = (a.train < t) ⊎ ((a.train ≡ t) × (a.station < s))

abbrev pub rises : Booking → ℕ → ℕ → Bool
rises a t s = ltb a.train t || (eqb a.train t && ltb a.station s)

-- station s lies between the origin and the destination of a train
abbrev pub Between : Train → ℕ → Type 0
Between t s = (min t.origin t.destination < s) × (s < max t.origin t.destination)

abbrev pub between : Train → ℕ → Bool
between t s = ltb (min t.origin t.destination) s && ltb s (max t.origin t.destination)

-- the train with number n
abbrev pub numbered : List Train → ℕ → Train
numbered trains n = get_or trains (n - 1) no_train

-- a booking of a train with number n at station s may stand after the booking a
abbrev pub stands_after : Booking → ℕ → ℕ → Train → Bool
stands_after a n s t = rises a n s && between t s

unfoldable pub bookable : List Train → Booking → ℕ → ℕ → Bool
bookable trains a n s = stands_after a n s (numbered trains n)
