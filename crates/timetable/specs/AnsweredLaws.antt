-- What was read of a text, from what reading it to its end answered; and what the timetable's reader answered, from what it told.
use Rattle.std.specs.Prelude.{ℕ, ◌≡◌, refl, List, Result, Ok, Err}
use Rattle.std.proofs.Common.{ap, arith}
use Rattle.text.specs.declared.Cursor.{Cursor}
use Rattle.text.specs.declared.Refusal.{Refusal}
use Rattle.text.specs.Reading.Parsed.{Parsed, map_parsed}
use Rattle.text.specs.Reading.Told.{told}
use Rattle.line.specs.declared.Line.{Line}
use Rattle.line.specs.File.{answered}
use Rattle.rules.specs.declared.orders.OrderList.{OrderList}
use Rattle.timetable.specs.declared.reading.Timetable as code
use Rattle.timetable.specs.Reading.{Rest, Timetable}
use Rattle.timetable.specs.Told.{rest_read, timetable_of, without_cursor, rest_told, timetable_told}

-- x was read
pub record Got {A : Type 0} (r : Parsed A) (x : A) : Type 0 where
  pub end : Cursor
  pub got : r ≡ Parsed.got x end

pub answered_got : {A : Type 0} (r : Parsed A) {x : A} → ◌≡◌ {A = Result A Refusal} (Ok x) (answered r) → Got r x
answered_got (Parsed.got y c) {x} e = let same : x ≡ y = cc in rw same (record { end = c; got = refl })
answered_got (Parsed.bad n p) e = let z : ◌≡◌ {A = ℕ} 0 1 = cc in absurd (omega arith)

-- it was refused
pub answered_bad : {A : Type 0} (r : Parsed A) {e : Refusal} → ◌≡◌ {A = Result A Refusal} (Err e) (answered r) → r ≡ Parsed.bad e.number e.place
answered_bad (Parsed.got y c) q = let z : ◌≡◌ {A = ℕ} 0 1 = cc in absurd (omega arith)
answered_bad (Parsed.bad n p) {e} q = let same : e ≡ record { number = n; place = p } = cc in rw same refl

-- ---- the answers of the reader are those of the text

-- the lists and the total
pub rest_answered : (l : Line) {p : Parsed Rest} (r : Result ((List OrderList × ℕ) × Cursor) Refusal) → map_parsed (rest_read l) (told r) ≡ p →
    rest_told l (without_cursor r) ≡ answered p
rest_answered l (Ok ((lists, total), c)) e = ap answered e
rest_answered l (Err r) e = ap answered e

-- the whole text
pub timetable_answered : (l : Line) {p : Parsed Timetable} (r : Result (code.Timetable × Cursor) Refusal) → map_parsed (timetable_of l) (told r) ≡ p →
    timetable_told l (without_cursor r) ≡ answered p
timetable_answered l (Ok (t, c)) e = ap answered e
timetable_answered l (Err r) e = ap answered e
