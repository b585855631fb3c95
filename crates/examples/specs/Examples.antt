-- The starred examples of document 01 hold: the walk, run on each line, finds the timetable that document 01 gives.
use Rattle.std.specs.Prelude.{ℕ, ◌≡◌, refl, true, List, [], ◌∷◌, Ok}
use Rattle.finite.specs.Each.{Each}
use Rattle.text.specs.Elements.Padded.{padded}
use Rattle.text.specs.Elements.PaddedLaws.{padded-length, each_padded}
use Rattle.text.specs.Reading.Limits.{bounded_of}
use Rattle.finite.specs.Below.{first, all, count, sum, most, gather, table}
use Rattle.line.specs.declared.Kind.{Kind}
use Rattle.line.specs.declared.Segment.{Segment}
use Rattle.line.specs.declared.Train.{Train}
use Rattle.line.specs.declared.Line.{Line}
use Rattle.line.specs.Record.{no_segment, no_train, no_booking, no_listed}
use Rattle.line.specs.Within.{TrainArrays, Arrays}
use Rattle.line.specs.Writing.{number_fault, lines_fault, times_fault, segment_fault, path_fault, head_fault, train_fault, booking_fault, rising_fault, track_fault_of, traffic_fault_of, booked_fault_of, listed_fault, list_fault, fault_of}
use Rattle.line.specs.WithinLaws.{within_of}
use Rattle.rules.specs.Statement.Paths.{segment_between}
use Rattle.rules.specs.Statement.Rules.{Lawful, middle}
use Rattle.rules.specs.Statement.Bookings.{floor_of}
use Rattle.rules.specs.Statement.Delay.{free_after, listed_for, due, weighted_delay}
use Rattle.rules.specs.Check.Tests.{starts_right, runs_right, stops_right, booked_right, ends_right, keeps_by}
use Rattle.rules.specs.Conflict.Directions.{uses_between, direction_between, direction_entry, directions_of}
use Rattle.rules.specs.Conflict.Conflicts.{first_conflict, keeps_after, neither_first, clash, partner_of, pair_on, segment_conflict}
use Rattle.rules.specs.Conflict.Conflicts.{stands_in, standing_at, earliest_crowd, in_crowd, crowd_mask, crowd_on, station_conflict, conflict_of}
use Rattle.rules.specs.Check.Breaches.{train_breach, breach_of}
use Rattle.rules.proofs.Check.ExactLaws.{lawful_of}
use Rattle.orders.specs.LeastMinutes.Settle.{within_days, same, next, settle}
use Rattle.orders.specs.LeastMinutes.SettleLaws.{within_true}
use Rattle.orders.specs.LeastMinutes.Arcs.{pull, pull_all}
use Rattle.orders.specs.Plan.Bits.{bit, with_bit, change}
use Rattle.orders.specs.Plan.Marks.{free, also, marked}
use Rattle.orders.specs.LeastMinutes.Carried.{start}
use Rattle.orders.specs.LeastMinutes.PlanArcs.{departs_at, arrives_at, train_arcs, chosen_arcs, arcs, rounds, least}
use Rattle.plans.specs.Theory.Ranking.{ahead_from, ahead}
use Rattle.plans.specs.Theory.BestSoFar.{BestSoFar, found, improves}
use Rattle.walk.specs.Walk.{in_order, look_ways, look_least, look, follow, take_up, plenty, walk}
use Rattle.plans.specs.Conflict.Ways.{way_of, ways_of, ways}
use Rattle.plans.specs.Instance.Planning.{is_leg, departures, in_time, planning}
use Rattle.walk.specs.WalkBestLaws.{walk_best, walk-nothing}
use Rattle.examples.specs.Lines.{given_train, given_line, minutes_of, file_a, two_stations, double_line, ExampleAnswer, Costs, Examples}

-- ---- the arrays of the records

train_arrays : (o d e l w : ℕ) (rs ss : List ℕ) → TrainArrays (given_train o d e l w rs ss)
train_arrays o d e l w rs ss = (padded-length 11 0 rs, padded-length 11 0 ss)

line_arrays : (ts : List ℕ) (gs : List Segment) (rs : List Train) → Each TrainArrays rs → Arrays (given_line ts gs rs)
line_arrays ts gs rs h =
    record {
      tracks = padded-length 12 0 ts;
      segments = padded-length 11 no_segment gs;
      trains = padded-length 12 no_train rs;
      each_train = each_padded TrainArrays 12 no_train rs (refl, refl) h;
      bookings = padded-length 120 no_booking [];
      dues = padded-length 12 no_listed [];
    }

arrays_a : (n x y : ℕ) → Arrays (file_a n x y)
arrays_a n x y = line_arrays _ _ _ (train_arrays 1 3 0 x 1 _ _, (train_arrays 3 1 0 y 2 _ _, tt))

arrays_two : (k : Kind) (w : ℕ) → Arrays (two_stations k w)
arrays_two k w = line_arrays _ _ _ (train_arrays 1 2 0 100 w _ _, (train_arrays 1 2 0 100 1 _ _, tt))

arrays_double : Arrays double_line
arrays_double = line_arrays _ _ _ (train_arrays 1 3 0 100 1 _ _, (train_arrays 3 1 0 100 1 _ _, tt))

-- ---- by the walk

-- what the walk finds; to unfold it is to unfold all that it computes with
unfoldable answer_of : Line → BestSoFar
unfolding
    first all count sum most gather table padded bounded_of
    number_fault lines_fault times_fault segment_fault path_fault head_fault train_fault booking_fault rising_fault track_fault_of traffic_fault_of booked_fault_of listed_fault list_fault fault_of
    segment_between middle floor_of free_after listed_for due weighted_delay booked_right ends_right keeps_by uses_between direction_between direction_entry directions_of
    first_conflict keeps_after neither_first clash partner_of pair_on segment_conflict
    stands_in standing_at earliest_crowd in_crowd crowd_mask crowd_on station_conflict conflict_of
    within_days same next settle pull pull_all bit with_bit change free also marked train_arcs chosen_arcs arcs rounds least
    ahead_from ahead in_order improves look_ways look_least look follow take_up plenty walk way_of ways_of ways start is_leg departures in_time
answer_of l = (walk (planning l)).best

answer :
    (l : Line) (d : ℕ) (rows : List (List ℕ)) → Arrays l → fault_of l ≡ Ok tt → answer_of l ≡ found (minutes_of l rows) →
    weighted_delay l (minutes_of l rows) ≡ d → ExampleAnswer l d rows
unfolding answer_of
answer l d rows a f e c = record { best = walk_best l (within_of l f) a (minutes_of l rows) e; delay = c }

-- by the check of the rules
costs :
    (l : Line) (d : ℕ) (rows : List (List ℕ)) → Arrays l → fault_of l ≡ Ok tt → breach_of l (minutes_of l rows) ≡ Ok tt →
    within_days (minutes_of l rows) ≡ true → weighted_delay l (minutes_of l rows) ≡ d → Costs l d rows
costs l d rows a f b t c =
    let low = within_true (minutes_of l rows) t in
    record { lawful = lawful_of l (within_of l f) a (minutes_of l rows) (λ i _ k _. (low (departs_at l i k), low (arrives_at l i k))) b; delay = c }

-- ---- the examples

e1 : ExampleAnswer (file_a 2 200 200) 18 ((0 ∷ 20 ∷ 20 ∷ 40 ∷ []) ∷ (0 ∷ 15 ∷ 24 ∷ 39 ∷ []) ∷ [])
unfolding answer_of
e1 = answer (file_a 2 200 200) 18 ((0 ∷ 20 ∷ 20 ∷ 40 ∷ []) ∷ (0 ∷ 15 ∷ 24 ∷ 39 ∷ []) ∷ []) (arrays_a 2 200 200) refl refl refl

e2 : ExampleAnswer (file_a 1 200 200) 34 ((34 ∷ 54 ∷ 54 ∷ 74 ∷ []) ∷ (0 ∷ 15 ∷ 15 ∷ 30 ∷ []) ∷ [])
unfolding answer_of
e2 = answer (file_a 1 200 200) 34 ((34 ∷ 54 ∷ 54 ∷ 74 ∷ []) ∷ (0 ∷ 15 ∷ 15 ∷ 30 ∷ []) ∷ []) (arrays_a 1 200 200) refl refl refl

e3 : ExampleAnswer (file_a 2 200 39) 18 ((0 ∷ 20 ∷ 20 ∷ 40 ∷ []) ∷ (0 ∷ 15 ∷ 24 ∷ 39 ∷ []) ∷ [])
unfolding answer_of
e3 = answer (file_a 2 200 39) 18 ((0 ∷ 20 ∷ 20 ∷ 40 ∷ []) ∷ (0 ∷ 15 ∷ 24 ∷ 39 ∷ []) ∷ []) (arrays_a 2 200 39) refl refl refl

e4 : ExampleAnswer (file_a 2 200 38) 34 ((34 ∷ 54 ∷ 54 ∷ 74 ∷ []) ∷ (0 ∷ 15 ∷ 15 ∷ 30 ∷ []) ∷ [])
unfolding answer_of
e4 = answer (file_a 2 200 38) 34 ((34 ∷ 54 ∷ 54 ∷ 74 ∷ []) ∷ (0 ∷ 15 ∷ 15 ∷ 30 ∷ []) ∷ []) (arrays_a 2 200 38) refl refl refl

e5 : (m : List ℕ) → Lawful (file_a 1 73 73) m → ⊥
unfolding answer_of
e5 = walk-nothing (file_a 1 73 73) (within_of (file_a 1 73 73) refl) (arrays_a 1 73 73) refl

e6 : ExampleAnswer (file_a 1 74 73) 34 ((34 ∷ 54 ∷ 54 ∷ 74 ∷ []) ∷ (0 ∷ 15 ∷ 15 ∷ 30 ∷ []) ∷ [])
unfolding answer_of
e6 = answer (file_a 1 74 73) 34 ((34 ∷ 54 ∷ 54 ∷ 74 ∷ []) ∷ (0 ∷ 15 ∷ 15 ∷ 30 ∷ []) ∷ []) (arrays_a 1 74 73) refl refl refl

e7 : ExampleAnswer (two_stations Kind.F 1) 3 ((3 ∷ 13 ∷ []) ∷ (0 ∷ 4 ∷ []) ∷ [])
unfolding answer_of
e7 = answer (two_stations Kind.F 1) 3 ((3 ∷ 13 ∷ []) ∷ (0 ∷ 4 ∷ []) ∷ []) (arrays_two Kind.F 1) refl refl refl

e8 : ExampleAnswer (two_stations Kind.F 3) 9 ((0 ∷ 10 ∷ []) ∷ (9 ∷ 13 ∷ []) ∷ [])
unfolding answer_of
e8 = answer (two_stations Kind.F 3) 9 ((0 ∷ 10 ∷ []) ∷ (9 ∷ 13 ∷ []) ∷ []) (arrays_two Kind.F 3) refl refl refl

e8_other : Costs (two_stations Kind.F 3) 9 ((3 ∷ 13 ∷ []) ∷ (0 ∷ 4 ∷ []) ∷ [])
unfolding answer_of breach_of train_breach starts_right runs_right stops_right
e8_other =
    costs (two_stations Kind.F 3) 9 ((3 ∷ 13 ∷ []) ∷ (0 ∷ 4 ∷ []) ∷ []) (arrays_two Kind.F 3) refl refl refl refl

e9 : ExampleAnswer (two_stations Kind.S 1) 7 ((7 ∷ 17 ∷ []) ∷ (0 ∷ 4 ∷ []) ∷ [])
unfolding answer_of
e9 = answer (two_stations Kind.S 1) 7 ((7 ∷ 17 ∷ []) ∷ (0 ∷ 4 ∷ []) ∷ []) (arrays_two Kind.S 1) refl refl refl

e10 : ExampleAnswer double_line 1 ((0 ∷ 10 ∷ 20 ∷ 30 ∷ []) ∷ (1 ∷ 21 ∷ 21 ∷ 31 ∷ []) ∷ [])
unfolding answer_of
e10 = answer double_line 1 ((0 ∷ 10 ∷ 20 ∷ 30 ∷ []) ∷ (1 ∷ 21 ∷ 21 ∷ 31 ∷ []) ∷ []) arrays_double refl refl refl

pub examples : Examples
examples = record { e1 = e1; e2 = e2; e3 = e3; e4 = e4; e5 = e5; e6 = e6; e7 = e7; e8 = e8; e8_other = e8_other; e9 = e9; e10 = e10 }
