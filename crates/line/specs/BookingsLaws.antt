-- Laws of bookings: where one may stand, and their trains. Of where one may stand: the tests decide the statements; of the trains only the one booked
-- matters, and of that only origin and destination, so that a booking within the limits is one too where their entries beyond the path are emptied.
use Rattle.std.specs.Prelude.{ℕ, zero, suc, ◌-◌, ◌≤◌, ◌≡◌, refl, List, [], ◌∷◌, map, get_or, take}
use Rattle.std.proofs.lemmas.List.{length-map}
use Rattle.std.proofs.Common.{sym, ap, ◌∙◌, arith, get_or-take}
use Rattle.finite.specs.Decide.{Decides}
use Rattle.finite.specs.DecideLaws.{decides_lt, decides_eq, decides_and, decides_or}
use Rattle.line.specs.declared.Train.{Train}
use Rattle.line.specs.declared.Booking.{Booking}
use Rattle.line.specs.Record.{no_train, tidy_train}
use Rattle.line.specs.Bookings.{Rises, rises, Between, between, numbered, bookable, stands_after}
use Rattle.line.specs.Within.{BookingWithin}
use Rattle.std.proofs.Math.ListN.{get_or-map}

pub decides_rises : (a : Booking) (t s : ℕ) → Decides (Rises a t s) (rises a t s)
decides_rises a t s = decides_or (decides_lt a.train t) (decides_and (decides_eq a.train t) (decides_lt a.station s))

pub decides_between : (t : Train) (s : ℕ) → Decides (Between t s) (between t s)
decides_between t s = decides_and (decides_lt _ _) (decides_lt _ _)

pub decides_bookable : (trains : List Train) (a : Booking) (t s : ℕ) → Decides (Rises a t s × Between (numbered trains t) s) (bookable trains a t s)
unfolding bookable
decides_bookable trains a t s = decides_and (decides_rises a t s) (decides_between (numbered trains t) s)

-- for one of the first t trains it is what the code asks of its entry; past the last entry the code has empty arrays, but of a train only origin and
-- destination matter here
abbrev pub entry : List Train → ℕ → Train
entry trains j = get_or trains j (record { origin = 0; destination = 0; earliest = 0; latest = 0; weight = 0; runs = []; stops = [] })

pub bookable_used : (t : ℕ) (trains : List Train) (a : Booking) (i s : ℕ) → 1 ≤ i → i ≤ t →
    bookable (take t trains) a i s ≡ stands_after a i s (entry trains (i - 1))
unfolding bookable
bookable_used t trains a i s low high =
    ap (stands_after a i s) (get_or-take t trains (i - 1) no_train (omega arith))
    ∙ sym (get_or-map (stands_after a i s) trains (i - 1) no_train) ∙ get_or-map (stands_after a i s) trains (i - 1) _

-- ---- trains with their entries beyond the path emptied

ends_at : (ts : List Train) (j : ℕ) →
    ((get_or (map tidy_train ts) j no_train).origin ≡ (get_or ts j no_train).origin) × ((get_or (map tidy_train ts) j no_train).destination ≡ (get_or ts j no_train).destination)
unfolding tidy_train
ends_at [] j = (refl, refl)
ends_at (t ∷ ts) zero = (refl, refl)
ends_at (t ∷ ts) (suc j) = ends_at ts j

pub within_tidy : (n : ℕ) (ts : List Train) (before b : Booking) → BookingWithin n ts before b → BookingWithin n (map tidy_train ts) before b
within_tidy n ts before b w =
    let ends = ends_at ts (b.train - 1) in
    record {
      train = rw (length-map ts tidy_train) w.train;
      station = w.station;
      order = w.order;
      middle = rw (ends.0, ends.1) w.middle;
      minute = w.minute;
    }
