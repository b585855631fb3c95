-- Places: what going past a byte keeps, every part of the timetable's text keeps. So a refusal by 8 or 9 names the line on which the refused field
-- began (`refused_on`): one more than the line feeds before it. So the number and the place of a refused text have their bounds (`text_refusal`).
use Prim.Native.Nat.{ℕ, zero, suc, ◌+◌, ◌≤◌}
use Rattle.std.specs.Prelude.{◌≡◌, cond, List, Option, Some, None, ltb, eqb, length, replicate}
use Rattle.std.proofs.Math.Path.{refl}
use Rattle.std.proofs.Common.{sym, ◌∙◌, arith}
use Rattle.std.proofs.Math.Decide.{dec_le}
use Rattle.text.specs.declared.Cursor.{Cursor}
use Rattle.text.specs.Reading.Choice.{on_some}
use Rattle.text.specs.Reading.Bytes.{past_of}
use Rattle.text.specs.Reading.Numbers.{number_at, field_at}
use Rattle.text.specs.Reading.Limits.{bounded_of}
use Rattle.text.specs.Reading.Parsed.{Parsed, lines}
use Rattle.text.specs.Reading.Told.{told}
use Rattle.text.specs.Places.Lines.{LineAt, Counted, Stood, HoldsOn, AnyNumber, OnLine}
use Rattle.text.proofs.Places.LinesLaws.{KeepsPassing, keeps_line, keeps_counted, line_first, stood_line, line_most, stands_got, stands_bad, stands_then, stands_test, past_keeps, number_keeps, field_keeps, stands_ranged, stands-many}
use Rattle.line.specs.declared.Train.{Train}
use Rattle.line.specs.declared.Line.{Line}
use Rattle.line.specs.File.{after_field}
use Rattle.rules.specs.Statement.Paths.{train, legs}
use Rattle.rules.specs.Lists.Orders.{list_count}
use Rattle.timetable.specs.Reading.{time_at, count_at, with_leg, legs_at, trains_at, minutes_at, own_count_at, name_at, list_at, total_at, rest_at, timetable_file}
use Rattle.timetable.specs.RestLaws.{file_short, file_long}

-- Q holds of the numbers by which a part of the timetable's text can be refused
pub record TimetableNumbers (Q : ℕ → Type 0) : Type 0 where
  pub form : Q 8
  pub range : Q 9

pub any_timetable_number : TimetableNumbers AnyNumber
any_timetable_number = record { form = tt; range = tt }

module _ (s : List ℕ) (P : Cursor → Type 0) (k : KeepsPassing s P) (Q : ℕ → Type 0) (q : TimetableNumbers Q) where
  stands-time : (b : ℕ) (c : Cursor) → P c → HoldsOn P Q (time_at b s c)
  stands-time b c h = stands_ranged s P k Q 8 9 0 2879 b q.form q.range c h

  stands-count : (n : ℕ) (c : Cursor) → P c → HoldsOn P Q (count_at n s c)
  stands-count n c h = stands_ranged s P k Q 8 9 n n 10 q.form q.range c h

  -- ---- the minutes

  pub stands-legs : (n : ℕ) (t : Train) (i j : ℕ) (m : List ℕ) (c : Cursor) → P c → HoldsOn P Q (legs_at n t i j m s c)
  unfolding legs_at
  stands-legs zero t i j m c h = h
  stands-legs (suc n) t i j m c h =
      stands_then P Q (time_at 32 s c) _ (stands-time 32 c h)
      (λ d c₁ h₁. stands_then P Q (time_at (after_field n) s c₁) _ (stands-time (after_field n) c₁ h₁)
      (λ a c₂ h₂. stands-legs n t i (j + 1) (with_leg t i j d a m) c₂ h₂))

  stands_trains : (n : ℕ) (l : Line) (i : ℕ) (m : List ℕ) (c : Cursor) → P c → HoldsOn P Q (trains_at n l i m s c)
  unfolding trains_at
  stands_trains zero l i m c h = h
  stands_trains (suc n) l i m c h =
      stands_then P Q (legs_at (legs l i) (train l i) i 0 m s c) _ (stands-legs (legs l i) (train l i) i 0 m c h)
      (λ m' c₁ h₁. stands_trains n l (i + 1) m' c₁ h₁)

  pub stands_minutes : (l : Line) (c : Cursor) → P c → HoldsOn P Q (minutes_at l s c)
  unfolding minutes_at
  stands_minutes l c h =
      stands_then P Q (count_at l.traffic.train_count s c) _ (stands-count l.traffic.train_count c h)
      (λ n c₁ h₁. stands_trains n l 0 (replicate 352 0) c₁ h₁)

  -- ---- the order lists and the total

  pub stands_own : (n : ℕ) (c : Cursor) → P c → HoldsOn P Q (own_count_at n s c)
  unfolding own_count_at
  stands_own n c h = number (number_at 4 s c) refl
    where
      bounded : (next : Cursor) → P next → (a : Option ℕ) → HoldsOn P Q (on_some a (λ w. Parsed.got w next) (Parsed.bad 9 c.line))
      bounded next w (Some v) = w
      bounded next w None = record { cursor = c; keeps = h; line = refl; number = q.range }

      step : (v b : ℕ) (after : Cursor) → P after → (a : Option Cursor) → past_of s after b ≡ a →
          HoldsOn P Q (on_some a (λ next. on_some (bounded_of 0 n v) (λ w. Parsed.got w next) (Parsed.bad 9 c.line)) (Parsed.bad 8 c.line))
      step v b after w (Some next) e = bounded next (past_keeps s P k after b next w e) (bounded_of 0 n v)
      step v b after w None e = record { cursor = c; keeps = h; line = refl; number = q.form }

      number : (a : Option (ℕ × Cursor)) → number_at 4 s c ≡ a → HoldsOn P Q (on_some a
          (λ (v, after). on_some (past_of s after (cond (eqb v 0) 10 32))
          (λ next. on_some (bounded_of 0 n v) (λ w. Parsed.got w next) (Parsed.bad 9 c.line)) (Parsed.bad 8 c.line)) (Parsed.bad 8 c.line))
      number (Some (v, after)) e =
          step v (cond (eqb v 0) 10 32) after (number_keeps s P k 4 c v after h e) (past_of s after (cond (eqb v 0) 10 32)) refl
      number None e = record { cursor = c; keeps = h; line = refl; number = q.form }

  pub stands-list : (n : ℕ) (c : Cursor) → P c → HoldsOn P Q (list_at n s c)
  unfolding list_at
  stands-list n c h =
      stands_then P Q (own_count_at n s c) _ (stands_own n c h)
      (λ v c₁ h₁. stands-many s P k Q v (name_at n) (λ left c₂ h₂. stands_ranged s P k Q 8 9 1 n (after_field left) q.form q.range c₂ h₂) c₁ h₁)

  pub stands_lists : (n m : ℕ) (c : Cursor) → P c → HoldsOn P Q (lines m (list_at n) s c)
  stands_lists n m c h = stands-many s P k Q m (λ left. list_at n) (λ left. stands-list n) c h

  stands_total : (c : Cursor) → P c → HoldsOn P Q (total_at s c)
  unfolding total_at
  stands_total c h = go (field_at 7 s c 10) refl
    where
      go : (a : Option (ℕ × Cursor)) → field_at 7 s c 10 ≡ a → HoldsOn P Q (on_some a (λ (v, next). Parsed.got v next) (Parsed.bad 8 c.line))
      go (Some (v, next)) e = field_keeps s P k 7 c 10 v next h e
      go None e = record { cursor = c; keeps = h; line = refl; number = q.form }

  stands_rest : (l : Line) (c : Cursor) → P c → HoldsOn P Q (rest_at l s c)
  unfolding rest_at
  stands_rest l c h =
      stands_then P Q (count_at (list_count l) s c) _ (stands-count (list_count l) c h)
      (λ n c₁ h₁. stands_then P Q (lines n (list_at l.traffic.train_count) s c₁) _ (stands_lists l.traffic.train_count n c₁ h₁)
      (λ ls c₂ h₂. stands_then P Q (total_at s c₂) _ (stands_total c₂ h₂)
      (λ v c₃ h₃. stands_test P Q (ltb c₃.at (length s)) 8 c₃ _ q.form h₃ h₃)))

-- ---- the numbers and places of a timetable's refusals

-- 8 or 9
abbrev pub TextNumber : ℕ → Type 0
TextNumber n = (8 ≤ n) × (n ≤ 9)

text_numbers : TimetableNumbers TextNumber
text_numbers = record { form = (omega arith, omega arith); range = (omega arith, omega arith) }

-- A timetable's text of at most 4,096 bytes that is refused in the reading is refused by 8 or 9, on the line of a position in it, that at which the
-- field began.
refused_at : (l : Line) (s : List ℕ) (n p : ℕ) → length s ≤ 4096 → timetable_file l s ≡ Parsed.bad n p → Stood (LineAt s) TextNumber n p
refused_at l s n p short e =
    let start : Cursor = record { at = 0; line = 1 } in
    let k = keeps_line s in
    let whole = sym (file_short l s short) ∙ e in
    stands_bad (LineAt s) TextNumber _ (stands_then (LineAt s) TextNumber (minutes_at l s start) _
    (stands_minutes s (LineAt s) k TextNumber text_numbers l start (line_first s))
    (λ m c h. stands_then (LineAt s) TextNumber (rest_at l s c) _ (stands_rest s (LineAt s) k TextNumber text_numbers l c h) (λ r c₁ h₁. h₁))) whole

pub refused_on : (l : Line) (s : List ℕ) (n p : ℕ) → length s ≤ 4096 → timetable_file l s ≡ Parsed.bad n p → OnLine s p
refused_on l s n p short e = stood_line (refused_at l s n p short e)

-- A text that is refused in the reading is refused by 7, 8 or 9, at a place of at most 4,097.
pub record TextRefusal (n p : ℕ) : Type 0 where
  pub number : (7 ≤ n) × (n ≤ 9)
  pub place : p ≤ 4097

pub text_refusal : (l : Line) (s : List ℕ) (n p : ℕ) → timetable_file l s ≡ Parsed.bad n p → TextRefusal n p
text_refusal l s n p e = elim (dec_le (length s) 4096) [
  | yes short ↦ (
      let w = refused_at l s n p short e in
      record { number = (omega (arith, w.number), omega (arith, w.number)); place = omega (arith, line_most (stood_line w)) })
  | no long ↦ (
      let q = sym (file_long l s (omega arith)) ∙ e in
      let seven : 7 ≡ n = cc in
      let zero : 0 ≡ p = cc in
      record { number = (omega arith, omega arith); place = omega arith })
]

-- ---- for the reader's code

-- after a list's own count there are still no more lines than bytes
pub own_counted : (n : ℕ) (s : List ℕ) {c : Cursor} {v : ℕ} {next : Cursor} → Counted c → Parsed.got v next ≡ own_count_at n s c →
    Counted next
own_counted n s {c} h told = stands_got Counted AnyNumber _ (stands_own s Counted (keeps_counted s) AnyNumber any_timetable_number n c h) (sym told)
