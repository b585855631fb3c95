-- The text of a timetable: the bytes for the minutes of a line, with its order lists and total. Each part is written with what follows it.
use Rattle.std.specs.Prelude.{ℕ, zero, suc, ◌+◌, cond, List, [], ◌∷◌, map, length, eqb}
use Rattle.text.specs.Elements.EachThen.{each_then}
use Rattle.line.specs.declared.Train.{Train}
use Rattle.line.specs.declared.Line.{Line}
use Rattle.line.specs.Spell.{field}
use Rattle.line.specs.File.{after_field}
use Rattle.rules.specs.Statement.Paths.{train, legs}
use Rattle.rules.specs.Check.Tests.{departure_of, arrival_of}
use Rattle.rules.specs.Statement.Delay.{weighted_delay}
use Rattle.rules.specs.Lists.Orders.{list_count, order_lists}

-- ---- "Train count, then a line for each train: departure and arrival for each segment in travel order"

-- k more legs of a train, which is train i, the next of them leg j
unfoldable pub legs_text : ℕ → Train → List ℕ → ℕ → ℕ → List ℕ → List ℕ
legs_text zero t m i j rest = rest
legs_text (suc k) t m i j rest = field (departure_of t m i j) 32 (field (arrival_of t m i j) (after_field k) (legs_text k t m i (j + 1) rest))

-- k more trains, the next of them train i
unfoldable pub trains_text : ℕ → Line → List ℕ → ℕ → List ℕ → List ℕ
trains_text zero l m i rest = rest
trains_text (suc k) l m i rest = legs_text (legs l i) (train l i) m i 0 (trains_text k l m (i + 1) rest)

-- the first part
unfoldable pub minutes_text : Line → List ℕ → List ℕ → List ℕ
minutes_text l m rest = field l.traffic.train_count 10 (trains_text l.traffic.train_count l m 0 rest)

-- ---- "Then the count of order lists ..; each line has the number of trains in it and then their numbers by departure minute. Last, the total
-- weighted delay."

-- the numbers of the trains of a list, a line feed after the last
unfoldable pub names_text : List ℕ → List ℕ → List ℕ
names_text [] rest = rest
names_text (x ∷ xs) rest = field x (after_field (length xs)) (names_text xs rest)

-- a line feed after a count of 0, a space after any other
unfoldable pub list_text : List ℕ → List ℕ → List ℕ
list_text xs rest = field (length xs) (cond (eqb (length xs) 0) 10 32) (names_text xs rest)

-- the second part
unfoldable pub rest_text : Line → List (List ℕ) → ℕ → List ℕ
rest_text l ls total = field (list_count l) 10 (each_then list_text ls (field total 10 []))

-- ---- the whole text of a line's minutes

-- the numbers of trains by index
abbrev pub numbers : List ℕ → List ℕ
numbers is = map (λ i. i + 1) is

-- "their numbers by departure minute"
abbrev pub list_numbers : Line → List ℕ → List (List ℕ)
list_numbers l m = map numbers (order_lists l m)

unfoldable pub timetable_text : Line → List ℕ → List ℕ
timetable_text l m = minutes_text l m (rest_text l (list_numbers l m) (weighted_delay l m))
