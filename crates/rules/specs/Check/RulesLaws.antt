-- Laws of free arrival and weighted delay, of the tests of rules 10 to 13 and 18 (each test decides its rule), and of who stands by rule 15.
use Rattle.std.specs.Prelude.{◌≡◌, ℕ, zero, suc, ◌+◌, ◌-◌, ◌*◌, ◌<◌, ◌≤◌, max, Bool, true, List, ◌≢◌, nat_le, slice_index}
use Rattle.std.proofs.Math.Path.{refl, ap}
use Rattle.std.proofs.Math.Logic.{⊎_elim}
use Rattle.std.proofs.Math.Nat.{mul-le-mul}
use Rattle.std.proofs.Common.{mul-le-mul_left, arith}
use Rattle.std.proofs.Math.Numerals.{add-one}
use borrow.Author.Tests.{ne_eqb}
use Rattle.finite.specs.Decide.{Decides}
use Rattle.finite.specs.DecideLaws.{is_true, decides_as, decides_and, decides_le, decides_eq}
use Rattle.finite.specs.Below.{EachBelow, count, sum}
use Rattle.finite.specs.LoopLaws.{count_grows, sum_more, decides_all}
use Rattle.finite.specs.BelowLaws.{sum-most, sum_grows}
use Rattle.line.specs.declared.Train.{Train}
use Rattle.line.specs.declared.Line.{Line}
use Rattle.line.specs.Record.{legs_of}
use Rattle.line.specs.Runnable.{Runnable}
use Rattle.rules.specs.Statement.Paths.{train, run_of, stop_of, legs, tracks_at, EachTrain}
use Rattle.rules.specs.Statement.Minutes.{last_arrival}
use Rattle.rules.specs.StatementLaws.PathsLaws.{routed_runnable, legs_few, train_or_past, run-most, stop-most, decides_middle}
use Rattle.rules.specs.Statement.Bookings.{floor_of}
use Rattle.rules.specs.StatementLaws.BookingsLaws.{floors_kept, kept_floors, booked_leg, floor_most}
use Rattle.rules.specs.Statement.Delay.{free_after, delay, weighted_delay}
use Rattle.rules.specs.Statement.Rules.{InDays, NotEarly, Runs, Stops, KeepsBookings, NotLate, stands, Stands, standing, Room}
use Rattle.rules.specs.Check.Tests.{departure_of, arrival_of, starts_right, runs_right, stops_right, booked_right, ends_right, keeps_by, keeps_rule}

-- ---- free arrival

module _ (l : Line) (i : ℕ) where
  pub free-start : free_after l i 0 ≡ (train l i).earliest + run_of l i 0
  unfolding free_after
  free-start = refl

  -- the stop after leg k, up to the booking, and the run over the next
  pub free-next : (k : ℕ) → free_after l i (k + 1) ≡ max (free_after l i k + stop_of l i k) (floor_of l i (k + 1)) + run_of l i (k + 1)
  unfolding free_after
  free-next k = rw add-one refl

  -- it fits 16 bits
  pub free-most : Runnable l → i < l.traffic.train_count → (k : ℕ) → k < legs l i → free_after l i k ≤ 3359 + 720 * k
  free-most w h zero b =
      let first : (train l i).earliest ≤ 3119 = ⊎_elim (λ t. t.earliest.1) (λ e. omega (arith, ap (λ (t : Train). t.earliest) e)) (train_or_past l i w h) in
      omega (arith, free-start, first, run-most l i w h 0 b)
  free-most w h (suc k) b =
      rw (← add-one)
      (omega (arith, free-next k, free-most w h k (omega arith), stop-most l i w h k (omega arith), run-most l i w h (k + 1) (omega arith), floor_most l i w (k + 1)))

-- ---- weighted delay

pub sum-next : (f : ℕ → ℕ) (i : ℕ) {s x : ℕ} → s ≡ sum f i → x ≡ f i → s + x ≡ sum f (i + 1)
sum-next f i e h = rw (sum_more f i) (omega (arith, e, h))

module _ (l : Line) (m : List ℕ) where
  -- the term of train i
  abbrev pub cost : ℕ → ℕ
  cost i = (train l i).weight * delay l m i

  -- a train costs at most 99 times 2,879
  pub cost-most : Runnable l → EachTrain l (InDays l m) → weighted_delay l m ≤ l.traffic.train_count * 285021
  unfolding weighted_delay
  cost-most w days = sum-most cost 285021 l.traffic.train_count (λ i h.
      ⊎_elim
      (λ t.
      let some = (legs_few (train l i) (routed_runnable _ _ t w.stations.1)).0 in
      let last = (days i h (legs_of (train l i) - 1) (omega arith)).1 in
      mul-le-mul {n₂ = 99} {m₂ = 2879} t.weight.1 (omega arith))
      (λ e.
      let none : (train l i).weight ≡ 0 = ap (λ (t : Train). t.weight) e in
      rw none (omega arith))
      (train_or_past l i w h))

  -- it is the sum of the trains' terms
  pub cost-sum : weighted_delay l m ≡ sum cost l.traffic.train_count
  unfolding weighted_delay
  cost-sum = refl

-- it does not fall as last arrivals rise
pub delay_grows : (l : Line) (m m' : List ℕ) → EachTrain l (λ i. last_arrival l m i ≤ last_arrival l m' i) → weighted_delay l m ≤ weighted_delay l m'
unfolding weighted_delay
delay_grows l m m' h =
    sum_grows (cost l m) (cost l m') l.traffic.train_count (λ i n. mul-le-mul_left (train l i).weight (omega (arith, h i n)))

-- ---- each test decides its rule

-- a train on this path runs right over leg k, and stops long enough after it
abbrev pub RunAt : Train → List ℕ → ℕ → ℕ → Type 0
RunAt t m i k = arrival_of t m i k ≡ departure_of t m i k + slice_index t.runs k

abbrev pub StopAt : Train → List ℕ → ℕ → ℕ → Type 0
StopAt t m i k = arrival_of t m i k + slice_index t.stops k ≤ departure_of t m i (k + 1)

-- it does not depart on leg k before its floor
abbrev pub FloorAt : (ℕ → ℕ) → Train → List ℕ → ℕ → ℕ → Type 0
FloorAt floor t m i k = floor k ≤ departure_of t m i k

-- of a train by itself
module _ (t : Train) (m : List ℕ) (i : ℕ) where
  decides_starts : Decides (t.earliest ≤ departure_of t m i 0) (starts_right t m i)
  unfolding starts_right
  decides_starts = decides_le _ _

  pub decides_runs : Decides (EachBelow (legs_of t) (RunAt t m i)) (runs_right t m i)
  unfolding runs_right
  decides_runs = decides_all (RunAt t m i) _ (legs_of t) (λ k _. decides_eq _ _)

  pub decides_stops : Decides (EachBelow (legs_of t - 1) (StopAt t m i)) (stops_right t m i)
  unfolding stops_right
  decides_stops = decides_all (StopAt t m i) _ (legs_of t - 1) (λ k _. decides_le _ _)

  pub decides_floors : (floor : ℕ → ℕ) → Decides (EachBelow (legs_of t) (FloorAt floor t m i)) (booked_right floor t m i)
  unfolding booked_right
  decides_floors floor = decides_all (FloorAt floor t m i) _ (legs_of t) (λ k _. decides_le _ _)

  decides_ends : Decides (arrival_of t m i (legs_of t - 1) ≤ t.latest) (ends_right t m i)
  unfolding ends_right
  decides_ends = decides_le _ _

  -- as the code tells them
  pub starts_is : {d : ℕ} → d ≡ departure_of t m i 0 → nat_le t.earliest d ≡ starts_right t m i
  unfolding starts_right
  starts_is e = rw e refl

  pub ends_is : {a k : ℕ} → k ≡ legs_of t → a ≡ arrival_of t m i (k - 1) → nat_le a t.latest ≡ ends_right t m i
  unfolding ends_right
  ends_is e h = rw (h, e) refl

  -- rule n, one number told from the other
  module _ (floor : ℕ → ℕ) (n : ℕ) {r : Bool} where
    pub keeps_start : n ≡ 10 → r ≡ starts_right t m i → r ≡ keeps_by n floor t m i
    unfolding keeps_by
    keeps_start e h = rw e h

    pub keeps_runs : n ≡ 11 → r ≡ runs_right t m i → r ≡ keeps_by n floor t m i
    unfolding keeps_by
    keeps_runs e h = rw e h

    pub keeps_stops : n ≡ 12 → r ≡ stops_right t m i → r ≡ keeps_by n floor t m i
    unfolding keeps_by
    keeps_stops e h = rw e h

    pub keeps_booked : n ≡ 18 → r ≡ booked_right floor t m i → r ≡ keeps_by n floor t m i
    unfolding keeps_by
    keeps_booked e h = rw e h

    pub keeps_end : n ≡ 13 → r ≡ ends_right t m i → r ≡ keeps_by n floor t m i
    unfolding keeps_by
    keeps_end e h = rw e h

  pub keeps_other : (floor : ℕ → ℕ) (n : ℕ) → (n ≢ 10) → (n ≢ 11) → (n ≢ 12) → (n ≢ 18) → (n ≢ 13) → true ≡ keeps_by n floor t m i
  unfolding keeps_by
  keeps_other floor n a b c e d = rw (ne_eqb n 10 a, ne_eqb n 11 b, ne_eqb n 12 c, ne_eqb n 18 e, ne_eqb n 13 d) refl

-- of train i of a line, by its number
module _ (l : Line) (m : List ℕ) (i : ℕ) where
  pub decides_10 : Decides (NotEarly l m i) (keeps_rule 10 l m i)
  unfolding keeps_by
  decides_10 = decides_starts (train l i) m i

  pub decides_11 : Decides (Runs l m i) (keeps_rule 11 l m i)
  unfolding keeps_by
  decides_11 = decides_runs (train l i) m i

  pub decides_12 : Decides (Stops l m i) (keeps_rule 12 l m i)
  unfolding keeps_by
  decides_12 = decides_stops (train l i) m i

  pub decides_18 : Runnable l → Decides (KeepsBookings l m i) (keeps_rule 18 l m i)
  unfolding keeps_by
  decides_18 w = decides_as (kept_floors l m i (booked_leg l w i)) (λ h k b. floors_kept l m i h k) (decides_floors (train l i) m i (floor_of l i))

  pub decides_13 : Decides (NotLate l m i) (keeps_rule 13 l m i)
  unfolding keeps_by
  decides_13 = decides_ends (train l i) m i

-- ---- rule 15

pub decides_stands : (l : Line) (m : List ℕ) (s t i : ℕ) → Decides (Stands l m s t i) (stands l m s t i)
unfolding stands
decides_stands l m s t i = decides_and (decides_middle (train l i) s) (decides_and (decides_le _ _) (decides_le _ _))

-- trains that all stand at a station at one minute are no more than its tracks
pub room_most : (l : Line) (m : List ℕ) (s : ℕ) → Room l m s → (t : ℕ) → t < 2880 → (f : ℕ → Bool) →
    EachBelow l.traffic.train_count (λ i. f i ≡ true → Stands l m s t i) → count f l.traffic.train_count ≤ tracks_at l s
unfolding standing
room_most l m s room t day f all =
    omega (arith, room t day, count_grows f (stands l m s t) l.traffic.train_count (λ i n e. is_true (decides_stands l m s t i) (all i n e)))
