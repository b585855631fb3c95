-- What the answers of the timetable's reader tell.
use Rattle.std.specs.Prelude.{ℕ, List, Result, Ok, Err, map, take}
use Rattle.text.specs.declared.Cursor.{Cursor}
use Rattle.text.specs.declared.Refusal.{Refusal}
use Rattle.line.specs.declared.Line.{Line}
use Rattle.rules.specs.declared.orders.OrderList.{OrderList}
use Rattle.rules.specs.Lists.Orders.{list_count, listed}
use Rattle.timetable.specs.declared.reading.Timetable as code
use Rattle.timetable.specs.Reading.{Rest, Timetable}
use Rattle.timetable.specs.Spell.{numbers}

-- the numbers of a list's trains, which the code holds by index
abbrev pub named : OrderList → List ℕ
named o = numbers (listed o)

-- of the first n lists
abbrev pub named_first : ℕ → List OrderList → List (List ℕ)
named_first n lists = map named (take n lists)

-- the lists and the total, of a line
abbrev pub rest_of : Line → List OrderList → ℕ → Rest
rest_of l lists total = record { lists = named_first (list_count l) lists; total = total }

-- as the code hands them on together
abbrev pub rest_read : Line → List OrderList × ℕ → Rest
rest_read l (lists, total) = rest_of l lists total

abbrev pub timetable_of : Line → code.Timetable → Timetable
timetable_of l t = record { minutes = t.minutes; rest = rest_of l t.lists t.total }

-- an answer without the cursor after what was read
abbrev pub without_cursor : {A : Type 0} → Result (A × Cursor) Refusal → Result A Refusal
without_cursor (Ok (x, c)) = Ok x
without_cursor (Err r) = Err r

-- the second part of a line's text
abbrev pub rest_told : Line → Result (List OrderList × ℕ) Refusal → Result Rest Refusal
rest_told l (Ok (lists, total)) = Ok (rest_of l lists total)
rest_told l (Err r) = Err r

-- the whole text
abbrev pub timetable_told : Line → Result code.Timetable Refusal → Result Timetable Refusal
timetable_told l (Ok t) = Ok (timetable_of l t)
timetable_told l (Err r) = Err r
