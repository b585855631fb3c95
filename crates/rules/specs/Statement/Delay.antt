-- When a train is due and how late it is, weighted delay, and when one timetable is to be preferred to another; the best timetable (demand 3).
use Rattle.std.specs.Prelude.{◌≡◌, ℕ, zero, suc, ◌+◌, ◌-◌, ◌*◌, ◌<◌, ◌≤◌, max, cond, ◌⊎◌, List, [], ◌∷◌, ◌==◌}
use Rattle.finite.specs.Below.{EachBelow, sum}
use Rattle.line.specs.declared.Line.{Line}
use Rattle.line.specs.declared.Listed.{Listed}
use Rattle.line.specs.Record.{dues_of}
use Rattle.rules.specs.Statement.Paths.{train, run_of, stop_of, legs, EachTrain, EachLeg}
use Rattle.rules.specs.Statement.Bookings.{floor_of}
use Rattle.rules.specs.Statement.Minutes.{departure, arrival, last_arrival}
use Rattle.rules.specs.Statement.Rules.{TrainRules, Lawful}

-- "the earliest possible last arrival of the train alone on the line, bookings kept": train i arrives at a in some minutes that keep its own rules, and
-- in none before
pub record EarliestArrival (l : Line) (i a : ℕ) : Type 0 where
  pub minutes : List ℕ
  pub kept : TrainRules l minutes i
  pub arrives : last_arrival l minutes i ≡ a
  pub earliest : (m : List ℕ) → TrainRules l m i → a ≤ last_arrival l m i

-- when train i, alone on the line, arrives after its leg k: it departs when its stop is over, and not before its booking. After the last leg that is
-- its free arrival, and the earliest (`free_earliest` in `StatementLaws/FreeArrivalLaws`).
unfoldable pub free_after : Line → ℕ → ℕ → ℕ
free_after l i zero = (train l i).earliest + run_of l i 0
free_after l i (suc k) = max (free_after l i k + stop_of l i k) (floor_of l i (suc k)) + run_of l i (suc k)

abbrev pub free_arrival : Line → ℕ → ℕ
free_arrival l i = free_after l i (legs l i - 1)

-- the minutes that a list of trains has for train i, or those given where it is not in the list
unfoldable pub listed_for : List Listed → ℕ → ℕ → ℕ
listed_for [] i given = given
listed_for (x ∷ xs) i given = cond (x.train == i + 1) x.minutes (listed_for xs i given)

-- document 02, K2: the section of dues "gives train and due minute"; "a train not listed is due at its free arrival" (`due-listed` and `due-free` in
-- `StatementLaws/DueLaws`)
unfoldable pub due : Line → ℕ → ℕ
due l i = listed_for (dues_of l) i (free_arrival l i)

-- document 02, K2: "A train's delay becomes its last arrival less due, and 0 when it is early": the difference is cut off at 0
abbrev pub delay : Line → List ℕ → ℕ → ℕ
delay l m i = last_arrival l m i - due l i

-- "weighted delay is the sum of weight times delay"
unfoldable pub weighted_delay : Line → List ℕ → ℕ
weighted_delay l m = sum (λ i. (train l i).weight * delay l m i) l.traffic.train_count

-- "Two timetables of one line are the same when all their minutes agree"
abbrev pub Same : Line → List ℕ → List ℕ → Type 0
Same l m m' = EachTrain l (λ i. EachLeg l i (λ k. (departure l m i k ≡ departure l m' i k) × (arrival l m i k ≡ arrival l m' i k)))

-- what is compared at equal delay, of each train one after the other: "departures", "each train's in travel order"
abbrev pub compared_count : Line → ℕ → ℕ
compared_count l i = legs l i

abbrev pub compared : Line → List ℕ → ℕ → ℕ → ℕ
compared l m i k = departure l m i k

-- "departures are compared from train 1 up": m has the earlier minute at the first that differs, number `place` of train `who`
pub record Earlier (l : Line) (m m' : List ℕ) : Type 0 where
  pub who : ℕ
  pub place : ℕ
  pub real : (who < l.traffic.train_count) × (place < compared_count l who)
  pub alike : EachTrain l (λ i. EachBelow (compared_count l i) (λ k. (i < who) ⊎ ((i ≡ who) × (k < place)) → compared l m i k ≡ compared l m' i k))
  pub less : compared l m who place < compared l m' who place

-- m is to be preferred: it has the smaller weighted delay, or the same and the earlier departures
abbrev pub Preferred : Line → List ℕ → List ℕ → Type 0
Preferred l m m' = (weighted_delay l m < weighted_delay l m') ⊎ ((weighted_delay l m ≡ weighted_delay l m') × Earlier l m m')

-- m keeps every rule, and is to be preferred to every other timetable that does
pub record Best (l : Line) (m : List ℕ) : Type 0 where
  pub lawful : Lawful l m
  pub preferred : (m' : List ℕ) → Lawful l m' → (Same l m m' → ⊥) → Preferred l m m'

-- m keeps every rule, and no timetable that does has less delay: what the best has, and others may have too
pub record LeastDelay (l : Line) (m : List ℕ) : Type 0 where
  pub lawful : Lawful l m
  pub least : (m' : List ℕ) → Lawful l m' → weighted_delay l m ≤ weighted_delay l m'
