-- Rules 10 to 12 and 18 and the choices of a plan as arcs, and the plan's least minutes.
use Rattle.std.specs.Prelude.{ℕ, suc, ◌+◌, ◌*◌, ◌-◌, Bool, true, false, cond, ◌&&◌, List, [], ◌∷◌, ◌++◌}
use Rattle.finite.specs.Below.{gather}
use Rattle.line.specs.declared.Kind.{Kind}
use Rattle.line.specs.declared.Segment.{Segment}
use Rattle.line.specs.declared.Train.{Train}
use Rattle.line.specs.declared.Line.{Line}
use Rattle.rules.specs.Statement.Paths.{train, segment_count, segment, run_of, stop_of, legs, segment_of, same_way, into, out_of}
use Rattle.rules.specs.Statement.Bookings.{floor_of}
use Rattle.rules.specs.Statement.Minutes.{departs, arrives}
use Rattle.rules.specs.Statement.Rules.{middle}
use Rattle.rules.specs.Conflict.Directions.{uses_between}
use Rattle.orders.specs.LeastMinutes.Least.{Least}
use Rattle.orders.specs.LeastMinutes.Settle.{settle}
use Rattle.orders.specs.LeastMinutes.Arcs.{Arc, pull_all}
use Rattle.orders.specs.Plan.Choices.{Choice, on_segment, at_station}
use Rattle.orders.specs.Plan.Marks.{Plan, marked}

abbrev pub after : ℕ → ℕ → ℕ → Arc
after from wait to = record { from = from; to = to; wait = wait; allow = 0 }

-- the entries of leg k of train i
abbrev pub departs_at : Line → ℕ → ℕ → ℕ
departs_at l i k = departs (segment_of (train l i) k) i

abbrev pub arrives_at : Line → ℕ → ℕ → ℕ
arrives_at l i k = arrives (segment_of (train l i) k) i

-- 10, 11 and 12, of train i and its leg k; entry 352 is none, and so minute 0
abbrev pub floor_arc : Line → ℕ → ℕ → ℕ → Arc
floor_arc l i k minute = after 352 minute (departs_at l i k)

abbrev pub early_arcs : Line → ℕ → List Arc
early_arcs l i = floor_arc l i 0 (train l i).earliest ∷ []

abbrev pub run_arcs : Line → ℕ → ℕ → List Arc
run_arcs l i k =
    after (departs_at l i k) (run_of l i k) (arrives_at l i k)
    ∷ record { from = arrives_at l i k; to = departs_at l i k; wait = 0; allow = run_of l i k }
    ∷ []

abbrev pub stop_arcs : Line → ℕ → ℕ → List Arc
stop_arcs l i k = after (arrives_at l i k) (stop_of l i k) (departs_at l i (k + 1)) ∷ []

-- 18: what is booked for leg k is a floor under its departure
abbrev pub booked_arcs : Line → ℕ → ℕ → List Arc
booked_arcs l i k = floor_arc l i k (floor_of l i k) ∷ []

unfoldable pub train_arcs : Line → ℕ → List Arc
train_arcs l i =
    early_arcs l i ++ (gather (run_arcs l i) (legs l i) ++ (gather (stop_arcs l i) (legs l i - 1) ++ gather (booked_arcs l i) (legs l i)))

-- 14, by entries as `GapBy` by minutes
abbrev pub gap_arcs : Kind → Bool → Segment → ℕ → ℕ → ℕ → ℕ → List Arc
gap_arcs Kind.S true g d a d' a' = after a g.following d' ∷ []
gap_arcs Kind.F true g d a d' a' = after d g.following d' ∷ after a g.following a' ∷ []
gap_arcs Kind.D true g d a d' a' = after d g.following d' ∷ after a g.following a' ∷ []
gap_arcs Kind.S false g d a d' a' = after a g.opposing d' ∷ []
gap_arcs Kind.F false g d a d' a' = after a g.opposing d' ∷ []
gap_arcs Kind.D false g d a d' a' = []

abbrev pub choice_arcs : Line → Choice → List Arc
choice_arcs l (on_segment p i j) =
    gap_arcs (segment l p).kind (same_way l i j) (segment l p) (departs p i) (arrives p i) (departs p j) (arrives p j)
choice_arcs l (at_station s a b) = after (departs (out_of (train l a) s) a) 1 (arrives (into (train l b) s) b) ∷ []

abbrev pub uses : Train → ℕ → Bool
uses t p = uses_between t.origin t.destination p

-- both trains go over the segment; both have the station as a middle one
abbrev pub shared : Line → Choice → Bool
shared l (on_segment p i j) = uses (train l i) p && uses (train l j) p
shared l (at_station s a b) = middle (train l a) s && middle (train l b) s

unfoldable pub chosen_arcs : Line → Plan → Choice → List Arc
chosen_arcs l q c = cond (marked q c && shared l c) (choice_arcs l c) []

-- for each of the first n numbers, and each pair of trains
abbrev pub for_pairs : Line → ℕ → (ℕ → ℕ → ℕ → List Arc) → List Arc
for_pairs l n f = gather (λ p. gather (λ i. gather (λ j. f p i j) l.traffic.train_count) l.traffic.train_count) n

unfoldable pub arcs : Line → Plan → List Arc
arcs l q =
    gather (train_arcs l) l.traffic.train_count
    ++ (for_pairs l (segment_count l) (λ p i j. chosen_arcs l q (on_segment p i j))
    ++ for_pairs l l.track.station_count (λ s a b. chosen_arcs l q (at_station s a b)))

-- more than any slack
unfoldable pub rounds : ℕ
rounds = suc (2880 * 352)

-- "the least minutes that meet them and rules 10 to 12", from `s` on
unfoldable pub least : Line → Plan → List ℕ → Least
least l q s = settle (pull_all (arcs l q)) rounds s
