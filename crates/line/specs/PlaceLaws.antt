-- Places: what going past a byte keeps, every part of the line file keeps (`KeepsPassing`, `HoldsOn`). So the cursor at which each section, line and field
-- starts stands on its line, and a refusal by 2, 3, 4 or 19 names the line on which the refused field began (`refused_on`): one more than the line feeds
-- before it. So the number and the place of a refused file have their bounds (`file_refusal`).
use Prim.Native.Nat.{ℕ, zero, suc, ◌-◌, ◌<◌, ◌≤◌}
use Rattle.std.specs.Prelude.{◌≡◌, ◌⊎◌, not, Option, Some, None, Result, Err, ltb, eqb, length}
use Rattle.std.proofs.Math.Path.{refl}
use Rattle.std.proofs.Common.{sym, ap, ◌∙◌, inl, inr, arith}
use mathlib.Core.List.{List, []}
use Rattle.text.proofs.Sections.ChainedLaws.{stands-chained, stands_optional}
use Rattle.std.proofs.Math.Decide.{dec_le}
use Rattle.text.specs.declared.Cursor.{Cursor}
use Rattle.text.specs.declared.Limits.{Limits}
use Rattle.text.specs.declared.Refusal.{Refusal as Refused}
use Rattle.text.specs.Reading.Choice.{on_some}
use Rattle.text.specs.Reading.Bytes.{byte_at, ahead, past_of}
use Rattle.text.specs.Reading.Parsed.{Parsed, lines, ranged_at}
use Rattle.text.proofs.Reading.ParsedLaws.{ranged_spelt}
use Rattle.text.specs.Places.Lines.{LineAt, Counted, Stood, HoldsOn, AnyNumber, OnLine}
use Rattle.text.proofs.Places.LinesLaws.{KeepsPassing, keeps_line, keeps_counted, line_first, stood_line, line_most, stands_got, stands_bad, stands_then, stands_test, ahead_keeps, past_keeps, stands_ranged, stands-many}
use Rattle.line.specs.declared.Kind.{Kind}
use Rattle.line.specs.declared.Train.{Train}
use Rattle.line.specs.declared.Booking.{Booking}
use Rattle.line.specs.declared.Listed.{Listed}
use Rattle.line.specs.declared.Line.{Line}
use Rattle.line.specs.declared.reading.Section.{Section}
use Rattle.line.specs.declared.reading.Path.{Path}
use Rattle.line.specs.declared.reading.Head.{Head}
use Rattle.line.specs.Ranges.{station_count, tracks, gap, train_count, train_number, booking_count, list_count, newest, station, time, weight, run, stop}
use Rattle.line.specs.Record.{no_segment, no_train, no_booking, no_listed, legs_between}
use Rattle.line.specs.Bookings.{bookable}
use Rattle.line.specs.Spell.{letter_byte}
use Rattle.line.specs.File.{number, section_at, station_line, station_section, letter_of, kind_at, segment_line, segment_section, joins, path_at, head_at, journey_at, train_line, used_in, train_section, booking_line, rising_at, null, rising_section, booking_section, listed_line, due_section, further_at, line_at, line_file, answered}
use Rattle.line.specs.FileLaws.{letter_byte_lem}
use Rattle.line.specs.SectionLaws.{file_long, file_short}

-- a kind's letter is no line feed
letter_other : (k : Kind) → letter_byte k ≡ 10 → ⊥
letter_other Kind.S e = omega arith
letter_other Kind.F e = omega arith
letter_other Kind.D e = omega arith

-- Q holds of the numbers by which a part of the line file can be refused
pub record LineNumbers (Q : ℕ → Type 0) : Type 0 where
  pub form : Q 2
  pub range : Q 3
  pub path : Q 4
  pub order : Q 19

pub any_line_number : LineNumbers AnyNumber
any_line_number = record { form = tt; range = tt; path = tt; order = tt }

module _ (s : List ℕ) (P : Cursor → Type 0) (k : KeepsPassing s P) (Q : ℕ → Type 0) (q : LineNumbers Q) where
  stands-number : (r : Limits) (b : ℕ) (c : Cursor) → P c → HoldsOn P Q (number r b s c)
  stands-number r b c h = stands_ranged s P k Q 2 3 r.min r.max b q.form q.range c h

  pub letter_keeps : (c : Cursor) (x : Kind) → letter_of (byte_at s c) ≡ Some x → P c → P (ahead c)
  letter_keeps c x e h = ahead_keeps s P k c (λ z. letter_other x (sym (letter_byte_lem (byte_at s c) x e) ∙ z)) h

  pub stands_kind : (c : Cursor) → P c → HoldsOn P Q (kind_at s c)
  unfolding kind_at
  stands_kind c h = go (letter_of (byte_at s c)) refl
    where
      step : (x : Kind) → P (ahead c) → (y : Option Cursor) → past_of s (ahead c) 32 ≡ y → HoldsOn P Q (on_some y (λ next. Parsed.got x next) (Parsed.bad 2 c.line))
      step x w (Some next) e = past_keeps s P k (ahead c) 32 next w e
      step x w None e = record { cursor = c; keeps = h; line = refl; number = q.form }

      go : (x : Option Kind) → letter_of (byte_at s c) ≡ x →
          HoldsOn P Q (on_some x (λ m. on_some (past_of s (ahead c) 32) (λ next. Parsed.got m next) (Parsed.bad 2 c.line)) (Parsed.bad 2 c.line))
      go (Some x) e = step x (letter_keeps c x e h) (past_of s (ahead c) 32) refl
      go None e = record { cursor = c; keeps = h; line = refl; number = q.form }

  pub stands-segment : (c : Cursor) → P c → HoldsOn P Q (segment_line s c)
  unfolding segment_line
  stands-segment c h =
      stands_then P Q (kind_at s c) _ (stands_kind c h)
      (λ x c₁ h₁. stands_then P Q (number gap 32 s c₁) _ (stands-number gap 32 c₁ h₁)
      (λ f c₂ h₂. stands_then P Q (number gap 10 s c₂) _ (stands-number gap 10 c₂ h₂)
      (λ o c₃ h₃. h₃)))

  pub stands_path : (n : ℕ) (c : Cursor) → P c → HoldsOn P Q (path_at n s c)
  unfolding path_at
  stands_path n c h =
      stands_then P Q (number (station n) 32 s c) _ (stands-number (station n) 32 c h)
      (λ o c₁ h₁. stands_then P Q (number (station n) 32 s c₁) _ (stands-number (station n) 32 c₁ h₁)
      (λ d c₂ h₂. stands_test P Q (eqb d o) 4 c₁ (Parsed.got (record { origin = o; destination = d }) c₂) q.path h₁ h₂))

  pub stands_head : (n : ℕ) (c : Cursor) → P c → HoldsOn P Q (head_at n s c)
  unfolding head_at
  stands_head n c h =
      stands_then P Q (path_at n s c) _ (stands_path n c h)
      (λ path c₁ h₁. stands_then P Q (number time 32 s c₁) _ (stands-number time 32 c₁ h₁)
      (λ e c₂ h₂. stands_then P Q (number time 32 s c₂) _ (stands-number time 32 c₂ h₂)
      (λ l c₃ h₃. stands_then P Q (number weight 32 s c₃) _ (stands-number weight 32 c₃ h₃)
      (λ w c₄ h₄. h₄))))

  stands_journey : (j : ℕ) (c : Cursor) → P c → HoldsOn P Q (journey_at j s c)
  unfolding journey_at
  stands_journey zero c h = stands_then P Q (number run 10 s c) _ (stands-number run 10 c h) (λ r c₁ h₁. h₁)
  stands_journey (suc j) c h =
      stands_then P Q (number run 32 s c) _ (stands-number run 32 c h)
      (λ r c₁ h₁. stands_then P Q (number stop 32 s c₁) _ (stands-number stop 32 c₁ h₁)
      (λ t c₂ h₂. stands_then P Q (journey_at j s c₂) _ (stands_journey j c₂ h₂)
      (λ x c₃ h₃. h₃)))

  pub stands-train : (n : ℕ) (c : Cursor) → P c → HoldsOn P Q (train_line n s c)
  unfolding train_line
  stands-train n c h =
      stands_then P Q (head_at n s c) _ (stands_head n c h)
      (λ x c₁ h₁. stands_then P Q (journey_at (legs_between x.origin x.destination - 1) s c₁) _ (stands_journey _ c₁ h₁)
      (λ j c₂ h₂. h₂))

  -- ---- the sections

  stands_section : {A : Type 0} (r : Limits) (size : ℕ) (none : A) (line : List ℕ → Cursor → Parsed A) →
      ((c : Cursor) → P c → HoldsOn P Q (line s c)) → (c : Cursor) → P c → HoldsOn P Q (section_at r size none line s c)
  unfolding section_at
  stands_section r size none line one c h =
      stands_then P Q (number r 10 s c) _ (stands-number r 10 c h)
      (λ n c₁ h₁. stands_then P Q (lines n line s c₁) _ (stands-many s P k Q n (λ left. line) (λ left. one) c₁ h₁)
      (λ xs c₂ h₂. h₂))

  pub stands_stations : (c : Cursor) → P c → HoldsOn P Q (station_section s c)
  stands_stations c h = stands_section station_count 12 0 station_line (stands-number tracks 10) c h

  pub stands_segments : (n : ℕ) (c : Cursor) → P c → HoldsOn P Q (segment_section n s c)
  stands_segments n c h = stands_section (joins n) 11 no_segment segment_line stands-segment c h

  pub stands_trains : (n : ℕ) (c : Cursor) → P c → HoldsOn P Q (train_section n s c)
  stands_trains n c h = stands_section train_count 12 no_train (train_line n) (stands-train n) c h

  pub stands-booking : (n : ℕ) (trains : List Train) (before : Booking) (c : Cursor) → P c → HoldsOn P Q (booking_line n trains before s c)
  unfolding booking_line
  stands-booking n trains before c h =
      stands_then P Q (number (train_number (length trains)) 32 s c) _ (stands-number (train_number (length trains)) 32 c h)
      (λ i c₁ h₁. stands_then P Q (number (station n) 32 s c₁) _ (stands-number (station n) 32 c₁ h₁)
      (λ p c₂ h₂. stands_test P Q (not (bookable trains before i p)) 19 c₁ _ q.order h₁
      (stands_then P Q (number time 10 s c₂) _ (stands-number time 10 c₂ h₂) (λ m c₃ h₃. h₃))))

  pub stands-listed : (t : ℕ) (r : Limits) (before : Listed) (c : Cursor) → P c → HoldsOn P Q (listed_line t r before s c)
  unfolding listed_line
  stands-listed t r before c h =
      stands_then P Q (number (train_number t) 32 s c) _ (stands-number (train_number t) 32 c h)
      (λ i c₁ h₁. stands_test P Q (not (ltb before.train i)) 19 c _ q.order h
      (stands_then P Q (number r 10 s c₁) _ (stands-number r 10 c₁ h₁) (λ m c₂ h₂. h₂)))

  stands_rising : {A : Type 0} (r : Limits) (none : A) (line : A → List ℕ → Cursor → Parsed A) →
      ((before : A) (c : Cursor) → P c → HoldsOn P Q (line before s c)) → (c : Cursor) → P c → HoldsOn P Q (rising_section r none line s c)
  unfolding rising_section rising_at
  stands_rising r none line one c h =
      stands_optional 3 [] null refl _ s P Q q.range c h
      (stands_then P Q (number r 10 s c) _ (stands-number r 10 c h)
      (λ k c₁ h₁. stands-chained P Q (λ before x. x) line s one k none c₁ h₁))

  pub stands_bookings : (n : ℕ) (trains : List Train) (c : Cursor) → P c → HoldsOn P Q (booking_section n trains s c)
  stands_bookings n trains c h = stands_rising booking_count no_booking (booking_line n trains) (stands-booking n trains) c h

  stands_further : (n : ℕ) (trains : Section Train 12) (c : Cursor) → P c → HoldsOn P Q (further_at n trains s c)
  unfolding further_at
  stands_further n trains c h =
      let t = trains.count in
      stands_then P Q (booking_section n (used_in trains) s c) _ (stands_bookings n (used_in trains) c h)
      (λ bs c₁ h₁. stands_then P Q (due_section t s c₁) _ (stands_rising (newest (list_count t)) no_listed (listed_line t time) (stands-listed t time) c₁ h₁)
      (λ ds c₂ h₂. h₂))

  stands_line : (c : Cursor) → P c → HoldsOn P Q (line_at s c)
  unfolding line_at
  stands_line c h =
      stands_then P Q (station_section s c) _ (stands_stations c h)
      (λ x c₁ h₁. stands_then P Q (segment_section x.count s c₁) _ (stands_segments x.count c₁ h₁)
      (λ y c₂ h₂. stands_then P Q (train_section x.count s c₂) _ (stands_trains x.count c₂ h₂)
      (λ z c₃ h₃. stands_then P Q (further_at x.count z s c₃) _ (stands_further x.count z c₃ h₃)
      (λ bs c₄ h₄. stands_test P Q (ltb c₄.at (length s)) 2 c₄ _ q.form h₄ h₄))))

-- ---- the numbers and places of a line file's refusals

-- 2, 3, 4 or 19
abbrev pub FieldNumber : ℕ → Type 0
FieldNumber n = ((2 ≤ n) × (n ≤ 4)) ⊎ (n ≡ 19)

field-numbers : LineNumbers FieldNumber
field-numbers =
    record {
      form = inl (omega arith, omega arith);
      range = inl (omega arith, omega arith);
      path = inl (omega arith, omega arith);
      order = inr refl;
    }

-- A line file of at most 4,096 bytes that is refused is refused by 2, 3, 4 or 19, on the line of a position in it, that at which the field began.
refused_at : (s : List ℕ) (n p : ℕ) → length s ≤ 4096 → line_file s ≡ Parsed.bad n p → Stood (LineAt s) FieldNumber n p
refused_at s n p short e =
    let start : Cursor = record { at = 0; line = 1 } in
    let whole : line_at s start ≡ Parsed.bad n p = sym (file_short s short) ∙ e in
    stands_bad (LineAt s) FieldNumber (line_at s start) (stands_line s (LineAt s) (keeps_line s) FieldNumber field-numbers start (line_first s)) whole

pub refused_on : (s : List ℕ) (n p : ℕ) → length s ≤ 4096 → line_file s ≡ Parsed.bad n p → OnLine s p
refused_on s n p short e = stood_line (refused_at s n p short e)

-- 1 to 4, or 19
abbrev pub FileNumber : ℕ → Type 0
FileNumber n = ((1 ≤ n) × (n ≤ 4)) ⊎ (n ≡ 19)

pub file_number : {n : ℕ} → FileNumber n → (1 ≤ n) × (n ≤ 19)
file_number (inl (low, high)) = (low, omega (arith, high))
file_number (inr e) = (omega (arith, e), omega (arith, e))

-- A refused file is refused by 1 to 4 or by 19, at a place of at most 4,097.
pub record Refusal (n p : ℕ) : Type 0 where
  pub number : FileNumber n
  pub place : p ≤ 4097

pub file_refusal : (s : List ℕ) (n p : ℕ) → line_file s ≡ Parsed.bad n p → Refusal n p
file_refusal s n p e = elim (dec_le (length s) 4096) [
  | yes short ↦ (
      let w = refused_at s n p short e in
      record { number = from_field w.number; place = omega (arith, line_most (stood_line w)) })
  | no long ↦ (
      let q : ◌≡◌ {A = Parsed Line} (Parsed.bad 1 0) (Parsed.bad n p) = sym (file_long s (omega arith)) ∙ e in
      let one : 1 ≡ n = cc in
      let zero : 0 ≡ p = cc in
      record { number = inl (omega arith, omega arith); place = omega arith })
]
  where
    from_field : FieldNumber n → FileNumber n
    from_field (inl (low, high)) = inl (omega (arith, low), high)
    from_field (inr e) = inr e

-- the same of what the code answers
refused_is : (a : Parsed Line) {r : Refused} → ◌≡◌ {A = Result Line Refused} (Err r) (answered a) → a ≡ Parsed.bad r.number r.place
refused_is (Parsed.got l c) e = absurd (cc)
refused_is (Parsed.bad n p) {r} e = let q : r ≡ record { number = n; place = p } = cc in sym (ap (λ (x : Refused). Parsed.bad x.number x.place) q)

pub answer_refusal : (s : List ℕ) {r : Refused} → ◌≡◌ {A = Result Line Refused} (Err r) (answered (line_file s)) → Refusal r.number r.place
answer_refusal s {r} is = file_refusal s r.number r.place (refused_is (line_file s) is)

-- ---- for the reader's code

-- after a part that was read there are still no more lines than bytes
pub part_counted : {A : Type 0} (r : Parsed A) {x : A} {next : Cursor} → HoldsOn Counted AnyNumber r → Parsed.got x next ≡ r → Counted next
part_counted r w is = stands_got Counted AnyNumber r w (sym is)

-- a number that was read is in its range
pub number_least : (form range lo hi b : ℕ) (s : List ℕ) (c next : Cursor) (v : ℕ) → b < 256 → Parsed.got v next ≡ ranged_at form range lo hi b s c → lo ≤ v
number_least form range lo hi b s c next v h is = (ranged_spelt form range lo hi b s c v next h (sym is)).low

pub number_most : (form range lo hi b : ℕ) (s : List ℕ) (c next : Cursor) (v : ℕ) → b < 256 → Parsed.got v next ≡ ranged_at form range lo hi b s c → v ≤ hi
number_most form range lo hi b s c next v h is = (ranged_spelt form range lo hi b s c v next h (sym is)).high

module _ (s : List ℕ) (c next : Cursor) (h : Counted c) where
  pub path_counted : (n : ℕ) (x : Path) → Parsed.got x next ≡ path_at n s c → Counted next
  path_counted n x is = part_counted _ (stands_path s Counted (keeps_counted s) AnyNumber any_line_number n c h) is

  pub head_counted : (n : ℕ) (x : Head) → Parsed.got x next ≡ head_at n s c → Counted next
  head_counted n x is = part_counted _ (stands_head s Counted (keeps_counted s) AnyNumber any_line_number n c h) is

  pub listed_counted : (t : ℕ) (r : Limits) (before x : Listed) → Parsed.got x next ≡ listed_line t r before s c → Counted next
  listed_counted t r before x is = part_counted _ (stands-listed s Counted (keeps_counted s) AnyNumber any_line_number t r before c h) is

  pub booking_counted : (n : ℕ) (trains : List Train) (before x : Booking) → Parsed.got x next ≡ booking_line n trains before s c → Counted next
  booking_counted n trains before x is = part_counted _ (stands-booking s Counted (keeps_counted s) AnyNumber any_line_number n trains before c h) is

  pub stations_counted : (x : Section ℕ 12) → Parsed.got x next ≡ station_section s c → Counted next
  stations_counted x is = part_counted _ (stands_stations s Counted (keeps_counted s) AnyNumber any_line_number c h) is

  pub trains_counted : (n : ℕ) (x : Section Train 12) → Parsed.got x next ≡ train_section n s c → Counted next
  trains_counted n x is = part_counted _ (stands_trains s Counted (keeps_counted s) AnyNumber any_line_number n c h) is

  pub bookings_counted : (n : ℕ) (trains : List Train) (xs : List Booking) → booking_section n trains s c ≡ Parsed.got xs next → Counted next
  bookings_counted n trains xs is = part_counted _ (stands_bookings s Counted (keeps_counted s) AnyNumber any_line_number n trains c h) (sym is)

  pub kind_counted : (x : Kind) → Parsed.got x next ≡ kind_at s c → Counted next
  kind_counted x is = part_counted _ (stands_kind s Counted (keeps_counted s) AnyNumber any_line_number c h) is
