-- Reading the timetable's text for a line: document 01, "The timetable text", field by field: the field's form and the byte after it (8), then its
-- range (9).
use Rattle.std.specs.Prelude.{ℕ, zero, suc, ◌+◌, cond, List, length, set, replicate, ltb, eqb}
use Rattle.text.specs.declared.Cursor.{Cursor}
use Rattle.text.specs.Reading.Choice.{pick, on_some}
use Rattle.text.specs.Reading.Bytes.{past_of}
use Rattle.text.specs.Reading.Numbers.{number_at, field_at}
use Rattle.text.specs.Reading.Limits.{bounded_of}
use Rattle.text.specs.Reading.Parsed.{Parsed, then_read, many, lines, ranged_at}
use Rattle.line.specs.declared.Train.{Train}
use Rattle.line.specs.declared.Line.{Line}
use Rattle.line.specs.File.{after_field}
use Rattle.rules.specs.Statement.Paths.{train, legs, segment_of}
use Rattle.rules.specs.Statement.Minutes.{departs, arrives}
use Rattle.rules.specs.Lists.Orders.{list_count}

-- "a time over 2,879" is 9
abbrev pub time_at : ℕ → List ℕ → Cursor → Parsed ℕ
time_at b s c = ranged_at 8 9 0 2879 b s c

-- "a train or list count not the line's" is 9
abbrev pub count_at : ℕ → List ℕ → Cursor → Parsed ℕ
count_at n s c = ranged_at 8 9 n n 10 s c

-- ---- "Train count, then a line for each train: departure and arrival for each segment in travel order"

-- the minutes with those of leg j of a train, which is train i
abbrev pub with_leg : Train → ℕ → ℕ → ℕ → ℕ → List ℕ → List ℕ
with_leg t i j d a m = set (set m (departs (segment_of t j) i) d) (arrives (segment_of t j) i) a

-- k more legs on a train's line, the next of them leg j
unfoldable pub legs_at : ℕ → Train → ℕ → ℕ → List ℕ → List ℕ → Cursor → Parsed (List ℕ)
legs_at zero t i j m s c = Parsed.got m c
legs_at (suc k) t i j m s c =
    then_read (time_at 32 s c) (λ d c₁.
    then_read (time_at (after_field k) s c₁) (λ a c₂.
    legs_at k t i (j + 1) (with_leg t i j d a m) s c₂))

-- k more trains, the next of them train i
unfoldable pub trains_at : ℕ → Line → ℕ → List ℕ → List ℕ → Cursor → Parsed (List ℕ)
trains_at zero l i m s c = Parsed.got m c
trains_at (suc k) l i m s c = then_read (legs_at (legs l i) (train l i) i 0 m s c) (λ m' next. trains_at k l (i + 1) m' s next)

-- the first part of the text: the minutes; entries of no train's leg are 0
unfoldable pub minutes_at : Line → List ℕ → Cursor → Parsed (List ℕ)
minutes_at l s c = then_read (count_at l.traffic.train_count s c) (λ n c₁. trains_at n l 0 (replicate 352 0) s c₁)

-- ---- "Then the count of order lists, one for S or F and two for D (outbound, then inbound), by segment; each line has the number of trains in it and
-- then their numbers by departure minute"

-- a list's own count: a line feed after 0, a space after any other; "over the trains" is 9
unfoldable pub own_count_at : ℕ → List ℕ → Cursor → Parsed ℕ
own_count_at n s c =
    on_some (number_at 4 s c)
    (λ (v, after). on_some (past_of s after (cond (eqb v 0) 10 32))
    (λ next. on_some (bounded_of 0 n v) (λ w. Parsed.got w next) (Parsed.bad 9 c.line))
    (Parsed.bad 8 c.line))
    (Parsed.bad 8 c.line)

-- the number of a train in a list, with `left` more after it, of a line with n trains: "a train number not from 1 to the line's trains" is 9
abbrev pub name_at : ℕ → ℕ → List ℕ → Cursor → Parsed ℕ
name_at n left s c = ranged_at 8 9 1 n (after_field left) s c

-- one list, on a line of its own
unfoldable pub list_at : ℕ → List ℕ → Cursor → Parsed (List ℕ)
list_at n s c = then_read (own_count_at n s c) (λ v c₁. many v (name_at n) s c₁)

-- ---- "Last, the total weighted delay": up to seven digits, no range

unfoldable pub total_at : List ℕ → Cursor → Parsed ℕ
total_at s c = on_some (field_at 7 s c 10) (λ (v, next). Parsed.got v next) (Parsed.bad 8 c.line)

-- lists and total
pub record Rest : Type 0 where
  pub lists : List (List ℕ)
  pub total : ℕ

-- the second part of the text, and nothing after it
unfoldable pub rest_at : Line → List ℕ → Cursor → Parsed Rest
rest_at l s c =
    then_read (count_at (list_count l) s c) (λ n c₁.
    then_read (lines n (list_at l.traffic.train_count) s c₁) (λ ls c₂.
    then_read (total_at s c₂) (λ v c₃.
    pick (ltb c₃.at (length s)) (Parsed.bad 8 c₃.line) (Parsed.got (record { lists = ls; total = v }) c₃))))

-- what was read of the text
pub record Timetable : Type 0 where
  pub minutes : List ℕ
  pub rest : Rest

-- the whole text: over 4,096 bytes is 7 at 0
unfoldable pub timetable_file : Line → List ℕ → Parsed Timetable
timetable_file l s =
    pick (ltb 4096 (length s)) (Parsed.bad 7 0)
    (then_read (minutes_at l s (record { at = 0; line = 1 })) (λ m c.
    then_read (rest_at l s c) (λ r end.
    Parsed.got (record { minutes = m; rest = r }) end)))
