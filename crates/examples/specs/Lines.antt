-- The starred examples of document 01 as one statement about the rules: their lines, as the records that reading gives, and what is said of each.
use Rattle.std.specs.Prelude.{ℕ, suc, ◌≡◌, List, [], ◌∷◌, length, set, replicate}
use Rattle.text.specs.Elements.Padded.{padded}
use Rattle.line.specs.declared.Kind.{Kind}
use Rattle.line.specs.declared.Segment.{Segment}
use Rattle.line.specs.declared.Train.{Train}
use Rattle.line.specs.declared.Line.{Line}
use Rattle.line.specs.Record.{no_segment, no_train, line_with}
use Rattle.rules.specs.Statement.Paths.{train, segment_of}
use Rattle.rules.specs.Statement.Minutes.{departs, arrives}
use Rattle.rules.specs.Statement.Rules.{Lawful}
use Rattle.rules.specs.Statement.Delay.{weighted_delay, Best}

-- ---- lines and timetables, in the order of their files

-- kind, following gap, opposing gap
abbrev given_segment : Kind → ℕ → ℕ → Segment
given_segment k f o = record { kind = k; following = f; opposing = o }

-- origin, destination, earliest, latest, weight; then the runs, and the stops
abbrev pub given_train : ℕ → ℕ → ℕ → ℕ → ℕ → List ℕ → List ℕ → Train
given_train o d e l w rs ss =
    record { origin = o; destination = d; earliest = e; latest = l; weight = w; runs = padded 11 0 rs; stops = padded 11 0 ss }

-- tracks, segments, trains; no bookings and no dues
abbrev pub given_line : List ℕ → List Segment → List Train → Line
given_line ts gs rs = line_with (length ts) (padded 12 0 ts) (padded 11 no_segment gs) (length rs) (padded 12 no_train rs) (record { bookings = []; dues = [] })

-- "departure and arrival for each segment in travel order": those of train i from its leg k on, put among the minutes m
abbrev row_of : Line → ℕ → ℕ → List ℕ → List ℕ → List ℕ
row_of l i k [] m = m
row_of l i k (x ∷ []) m = m
row_of l i k (x ∷ (y ∷ r)) m =
    row_of l i (suc k) r (set (set m (departs (segment_of (train l i) k) i) x) (arrives (segment_of (train l i) k) i) y)

-- "a line for each train", from train i on
abbrev rows_of : Line → ℕ → List (List ℕ) → List ℕ → List ℕ
rows_of l i [] m = m
rows_of l i (r ∷ rs) m = rows_of l (suc i) rs (row_of l i 0 r m)

abbrev pub minutes_of : Line → List (List ℕ) → List ℕ
minutes_of l rs = rows_of l 0 rs (replicate 352 0)

-- ---- the lines

-- file A with the tracks of station 2 and the latest of each train
abbrev pub file_a : ℕ → ℕ → ℕ → Line
file_a n x y =
    given_line (2 ∷ n ∷ 2 ∷ []) (given_segment Kind.S 5 4 ∷ given_segment Kind.S 5 4 ∷ [])
    (given_train 1 3 0 x 1 (20 ∷ 20 ∷ []) (0 ∷ []) ∷ given_train 3 1 0 y 2 (15 ∷ 15 ∷ []) (0 ∷ []) ∷ [])

-- "Two stations, segment `F 3 3`, trains `1 2 0 100 1 10` and `1 2 0 100 1 4`" with the kind and the weight of train 1
abbrev pub two_stations : Kind → ℕ → Line
two_stations k w =
    given_line (2 ∷ 2 ∷ []) (given_segment k 3 3 ∷ [])
    (given_train 1 2 0 100 w (10 ∷ []) [] ∷ given_train 1 2 0 100 1 (4 ∷ []) [] ∷ [])

-- "segments D, station 2 with one track, trains `1 3 0 100 1 10 10 10` and `3 1 0 100 1 20 0 10`"
abbrev pub double_line : Line
double_line =
    given_line (2 ∷ 1 ∷ 2 ∷ []) (given_segment Kind.D 5 4 ∷ given_segment Kind.D 5 4 ∷ [])
    (given_train 1 3 0 100 1 (10 ∷ 10 ∷ []) (10 ∷ []) ∷ given_train 3 1 0 100 1 (20 ∷ 10 ∷ []) (0 ∷ []) ∷ [])

-- ---- the statement

-- the timetable with these rows is the best, and this is its weighted delay
pub record ExampleAnswer (l : Line) (d : ℕ) (rows : List (List ℕ)) : Type 0 where
  pub best : Best l (minutes_of l rows)
  pub delay : weighted_delay l (minutes_of l rows) ≡ d

-- the timetable with these rows is lawful, and this is its weighted delay
pub record Costs (l : Line) (d : ℕ) (rows : List (List ℕ)) : Type 0 where
  pub lawful : Lawful l (minutes_of l rows)
  pub delay : weighted_delay l (minutes_of l rows) ≡ d

pub record Examples : Type 0 where
  pub e1 : ExampleAnswer (file_a 2 200 200) 18 ((0 ∷ 20 ∷ 20 ∷ 40 ∷ []) ∷ (0 ∷ 15 ∷ 24 ∷ 39 ∷ []) ∷ [])
  pub e2 : ExampleAnswer (file_a 1 200 200) 34 ((34 ∷ 54 ∷ 54 ∷ 74 ∷ []) ∷ (0 ∷ 15 ∷ 15 ∷ 30 ∷ []) ∷ [])
  pub e3 : ExampleAnswer (file_a 2 200 39) 18 ((0 ∷ 20 ∷ 20 ∷ 40 ∷ []) ∷ (0 ∷ 15 ∷ 24 ∷ 39 ∷ []) ∷ [])
  pub e4 : ExampleAnswer (file_a 2 200 38) 34 ((34 ∷ 54 ∷ 54 ∷ 74 ∷ []) ∷ (0 ∷ 15 ∷ 15 ∷ 30 ∷ []) ∷ [])
  -- number 5
  pub e5 : (m : List ℕ) → Lawful (file_a 1 73 73) m → ⊥
  pub e6 : ExampleAnswer (file_a 1 74 73) 34 ((34 ∷ 54 ∷ 54 ∷ 74 ∷ []) ∷ (0 ∷ 15 ∷ 15 ∷ 30 ∷ []) ∷ [])
  pub e7 : ExampleAnswer (two_stations Kind.F 1) 3 ((3 ∷ 13 ∷ []) ∷ (0 ∷ 4 ∷ []) ∷ [])
  pub e8 : ExampleAnswer (two_stations Kind.F 3) 9 ((0 ∷ 10 ∷ []) ∷ (9 ∷ 13 ∷ []) ∷ [])
  -- "both orders cost 9": the other is lawful too
  pub e8_other : Costs (two_stations Kind.F 3) 9 ((3 ∷ 13 ∷ []) ∷ (0 ∷ 4 ∷ []) ∷ [])
  pub e9 : ExampleAnswer (two_stations Kind.S 1) 7 ((7 ∷ 17 ∷ []) ∷ (0 ∷ 4 ∷ []) ∷ [])
  pub e10 : ExampleAnswer double_line 1 ((0 ∷ 10 ∷ 20 ∷ 30 ∷ []) ∷ (1 ∷ 21 ∷ 21 ∷ 31 ∷ []) ∷ [])
