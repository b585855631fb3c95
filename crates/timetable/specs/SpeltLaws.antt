-- What is read of a timetable's text is that text: each field that was read is its digits and the byte after it, and no later field is stored over the
-- minutes of an earlier one.
use Prim.Native.Nat.{ℕ, zero, suc, ◌+◌, ◌≤◌, ◌<◌}
use Rattle.std.specs.Prelude.{◌≡◌, true, false, cond, Option, Some, None, ltb, eqb, length, get_or, replicate}
use Rattle.std.proofs.Math.Path.{refl, sym, ap}
use Rattle.std.proofs.Common.{◌∙◌, arith, ltb-false, drop_of_length-le}
use mathlib.Core.List.{List, [], ◌++◌}
use Rattle.std.proofs.Math.ListN.{length-replicate}
use Rattle.text.specs.declared.Cursor.{Cursor}
use Rattle.text.specs.Reading.Choice.{on_some}
use Rattle.text.specs.Reading.Bytes.{from, past_of}
use Rattle.text.specs.Reading.BytesLaws.{past_spelt}
use Rattle.text.specs.Reading.Numbers.{number_at, field_at}
use Rattle.text.specs.Writing.Digits.{digits}
use Rattle.text.specs.Writing.DigitsLaws.{number-spelt, field-spelt}
use Rattle.text.specs.Reading.Limits.{bounded_of}
use Rattle.text.specs.Elements.EachThen.{each_then}
use Rattle.finite.specs.Below.{EachFrom}
use Rattle.finite.specs.LoopLaws.{each_first}
use Rattle.text.specs.Reading.Parsed.{Parsed, many, lines}
use Rattle.text.proofs.Reading.ParsedLaws.{then_got, pick_got, got_is, bounded_within, ranged_spelt, PartSpelt, many-spelt, many-length}
use Rattle.line.specs.declared.Train.{Train}
use Rattle.line.specs.declared.Line.{Line}
use Rattle.line.specs.Record.{legs_of}
use Rattle.line.specs.Within.{Within}
use Rattle.line.specs.RunnableLaws.{within_runnable}
use Rattle.line.specs.Spell.{field}
use Rattle.line.specs.File.{after_field}
use Rattle.rules.specs.Statement.Paths.{train, legs, segment_of, Routed, EachTrain}
use Rattle.rules.specs.Statement.Minutes.{departs, arrives}
use Rattle.rules.specs.Check.Tests.{departure_of, arrival_of}
use Rattle.rules.specs.Statement.Rules.{InDays}
use Rattle.rules.specs.Lists.Orders.{list_count}
use Rattle.rules.specs.StatementLaws.PathsLaws.{routed_leg}
use Rattle.timetable.specs.Reading.{time_at, count_at, with_leg, legs_at, trains_at, minutes_at, own_count_at, name_at, list_at, total_at, Rest, rest_at, Timetable, timetable_file}
use Rattle.timetable.specs.ReadingLaws.{after_byte, count_is, minutes_counted}
use Rattle.timetable.specs.ListLaws.{own_malformed, own_unended, own_over, own_value}
use Rattle.timetable.specs.Spell.{legs_text, trains_text, minutes_text, names_text, list_text, rest_text}
use Rattle.timetable.specs.SameTextLaws.{legs-same}
use Rattle.timetable.specs.StoresLaws.{departure_stored, arrival_stored, leg_stored, legs_stored, trains_stored, earlier_stays, OfNoLeg, idle_zero}

-- ---- fields

count-spelt : (n : ℕ) (s : List ℕ) (c : Cursor) (v : ℕ) (next : Cursor) → count_at n s c ≡ Parsed.got v next → from s c ≡ field n 10 (from s next)
count-spelt n s c v next e =
    let w = ranged_spelt 8 9 n n 10 s c v next (omega arith) e in
    let same : v ≡ n = omega (arith, w.low, w.high) in
    rw same at w.text

-- ---- the legs of a train, which is train i

-- the minutes of leg q are times of two days
abbrev pub DaysAt : Train → List ℕ → ℕ → ℕ → Type 0
DaysAt t m i q = (departure_of t m i q ≤ 2879) × (arrival_of t m i q ≤ 2879)

module _ (t : Train) (r : 1 ≤ legs_of t → Routed t) (i : ℕ) (few : i < 16) (s : List ℕ) where
  -- k legs from leg j on that were read
  record LegsSpelt (k j : ℕ) (c : Cursor) (m : List ℕ) (next : Cursor) : Type 0 where
    days : EachFrom k j (DaysAt t m i)
    text : from s c ≡ legs_text k t m i j (from s next)

  legs-spelt : (k j : ℕ) (m : List ℕ) (c : Cursor) (m' : List ℕ) (next : Cursor) → length m ≡ 352 → j + k ≤ legs_of t →
      legs_at k t i j m s c ≡ Parsed.got m' next → LegsSpelt k j c m' next
  unfolding legs_at legs_text
  legs-spelt zero j m c m' next size path e = got_is (λ y end. LegsSpelt 0 j c y end) e (record { days = λ q low high. absurd (omega arith); text = refl })
  legs-spelt (suc k) j m c m' next size path e =
      let d = then_got (time_at 32 s c) _ m' next e in
      let a = then_got (time_at (after_field k) s d.next) _ m' next d.after in
      let w = ranged_spelt 8 9 0 2879 32 s c d.value d.next (omega arith) d.first in
      let x = ranged_spelt 8 9 0 2879 (after_field k) s d.next a.value a.next (after_byte k) a.first in
      let path_ends = r (omega arith) in
      let stored = legs_stored t i k (j + 1) (with_leg t i j d.value a.value m) s a.next m' next a.after in
      let depart = departure_stored t i path_ends few k j d.value a.value m m' size path stored in
      let arrive = arrival_stored t i path_ends few k j d.value a.value m m' size path stored in
      let long = (leg_stored t i j d.value a.value m).size ∙ size in
      let others = legs-spelt k (j + 1) (with_leg t i j d.value a.value m) a.next m' next long (omega arith) a.after in
      record {
        days = each_first (DaysAt t m' i) k j (omega (arith, depart, w.high), omega (arith, arrive, x.high)) others.days;
        text =
            w.text
            ∙ ap (λ (y : List ℕ). field d.value 32 y) x.text
            ∙ ap (λ (y : List ℕ). field d.value 32 (field a.value (after_field k) y)) others.text
            ∙ (rw (depart, arrive) refl);
      }

-- ---- the trains of a line

module _ (l : Line) (w : Within l) (s : List ℕ) where
  -- k trains from train i on that were read
  record TrainsSpelt (k i : ℕ) (c : Cursor) (m : List ℕ) (next : Cursor) : Type 0 where
    days : EachFrom k i (InDays l m)
    text : from s c ≡ trains_text k l m i (from s next)

  trains_spelt : (k i : ℕ) (m : List ℕ) (c : Cursor) (m' : List ℕ) (next : Cursor) → length m ≡ 352 → i + k ≤ l.traffic.train_count →
      trains_at k l i m s c ≡ Parsed.got m' next → TrainsSpelt k i c m' next
  unfolding trains_at trains_text
  trains_spelt zero i m c m' next size count e = got_is (λ y end. TrainsSpelt 0 i c y end) e (record { days = λ q low high. absurd (omega arith); text = refl })
  trains_spelt (suc k) i m c m' next size count e =
      let t = train l i in
      let few : i + suc k ≤ 12 = omega (arith, w.trains) in
      let a = then_got (legs_at (legs l i) t i 0 m s c) _ m' next e in
      let one = legs-spelt t (routed_leg l i (within_runnable l w) (omega arith)) i (omega arith) s (legs l i) 0 m c a.value a.next size (omega arith) a.first in
      let long = (legs_stored t i (legs l i) 0 m s c a.value a.next a.first).size ∙ size in
      let kept = earlier_stays l (trains_stored l k (i + 1) a.value s a.next m' next a.after) (omega arith) in
      let others = trains_spelt k (i + 1) a.value a.next m' next long (omega arith) a.after in
      let same : (q : ℕ) → (departure_of t a.value i q ≡ departure_of t m' i q) × (arrival_of t a.value i q ≡ arrival_of t m' i q) =
      λ q. (sym (kept (departs (segment_of t q) i) (omega arith)), sym (kept (arrives (segment_of t q) i) (omega arith))) in
      record {
        days = each_first (InDays l m') k i
            (λ j h. let d = one.days j (omega arith) (omega arith) in (omega (arith, d.0, (same j).0), omega (arith, d.1, (same j).1)))
            others.days;
        text =
            one.text
            ∙ ap (λ (y : List ℕ). legs_text (legs l i) t a.value i 0 y) others.text
            ∙ legs-same a.value m' (legs l i) t i 0 (trains_text k l m' (i + 1) (from s next)) (λ q _ _. same q);
      }

  -- the first part of the text that was read; entries of no train's leg are 0
  pub record MinutesSpelt (c : Cursor) (m : List ℕ) (next : Cursor) : Type 0 where
    pub days : EachTrain l (InDays l m)
    pub many : length m ≡ 352
    pub idle : (x : ℕ) → OfNoLeg l x → get_or m x 0 ≡ 0
    pub text : from s c ≡ minutes_text l m (from s next)

  pub minutes_spelt : (c : Cursor) (m : List ℕ) (next : Cursor) → minutes_at l s c ≡ Parsed.got m next → MinutesSpelt c m next
  unfolding minutes_text
  minutes_spelt c m next e =
      let n = l.traffic.train_count in
      let count = then_got (count_at n s c) (λ v c₁. trains_at v l 0 (replicate 352 0) s c₁) m next (unfold minutes_at in e) in
      let lines = sym (minutes_counted l s c count.first) ∙ e in
      let stored = trains_stored l n 0 (replicate 352 0) s count.next m next lines in
      let read = trains_spelt n 0 (replicate 352 0) count.next m next (length-replicate {A = ℕ} 352 0) (omega arith) lines in
      record {
        days = λ i h. read.days i (omega arith) (omega arith);
        many = stored.size ∙ length-replicate {A = ℕ} 352 0;
        idle = idle_zero l stored;
        text = count-spelt n s c count.value count.next count.first ∙ ap (λ (y : List ℕ). field n 10 y) read.text;
      }

-- ---- an order list

-- the byte after a list's own count, and the count with it
abbrev own_byte : ℕ → ℕ
own_byte v = cond (eqb v 0) 10 32

abbrev own_field : ℕ → List ℕ → List ℕ
own_field v rest = field v (own_byte v) rest

own_byte_lem : (v : ℕ) → own_byte v < 256
own_byte_lem v = elim (eqb v 0) as (λ b. cond b 10 32 < 256) [ true ↦ omega arith | false ↦ omega arith ]

own_spelt : (n : ℕ) (s : List ℕ) (c : Cursor) (v : ℕ) (next : Cursor) → own_count_at n s c ≡ Parsed.got v next → from s c ≡ own_field v (from s next)
own_spelt n s c v next e = number (number_at 4 s c) refl
  where
    bounded : (m : ℕ) (after x : Cursor) → number_at 4 s c ≡ Some (m, after) → past_of s after (own_byte m) ≡ Some x → (a : Option ℕ) →
        bounded_of 0 n m ≡ a → from s c ≡ own_field v (from s next)
    bounded m after x f h None o = let refused = sym (own_over n s c f refl h o) ∙ e in let z : ◌≡◌ {A = ℕ} 0 1 = cc in absurd (omega arith)
    bounded m after x f h (Some w) o =
        let past = past_spelt s after x (own_byte m) (own_byte_lem m) h in
        let text = number-spelt 4 (omega arith) (omega arith) s c after m f ∙ ap (λ (y : List ℕ). digits m ++ y) past in
        got_is (λ y end. from s c ≡ own_field y (from s end)) (sym (own_value n s c f refl h o) ∙ e) (rw (bounded_within 0 n m w o).same text)

    step : (m : ℕ) (after : Cursor) → number_at 4 s c ≡ Some (m, after) → (a : Option Cursor) → past_of s after (own_byte m) ≡ a → from s c ≡ own_field v (from s next)
    step m after f (Some x) h = bounded m after x f h (bounded_of 0 n m) refl
    step m after f None h = let refused = sym (own_unended n s c f refl h) ∙ e in let z : ◌≡◌ {A = ℕ} 0 1 = cc in absurd (omega arith)

    number : (a : Option (ℕ × Cursor)) → number_at 4 s c ≡ a → from s c ≡ own_field v (from s next)
    number (Some (m, after)) f = step m after f (past_of s after (own_byte m)) refl
    number None f = let refused = sym (own_malformed n s c f) ∙ e in let z : ◌≡◌ {A = ℕ} 0 1 = cc in absurd (omega arith)

-- k trains of a list, each with as many after it as are left
names-spelt : (n : ℕ) (s : List ℕ) (k : ℕ) (c : Cursor) (xs : List ℕ) (next : Cursor) → many k (name_at n) s c ≡ Parsed.got xs next →
    from s c ≡ names_text xs (from s next)
unfolding many names_text
names-spelt n s zero c xs next e = got_is (λ ys end. from s c ≡ names_text ys (from s end)) e refl
names-spelt n s (suc k) c xs next e =
    let a = then_got (name_at n k s c) _ xs next e in
    let b = then_got (many k (name_at n) s a.next) _ xs next a.after in
    let one = ranged_spelt 8 9 1 n (after_field k) s c a.value a.next (after_byte k) a.first in
    let left : k ≡ length b.value = sym (many-length (name_at n) k s a.next b.value b.next b.first) in
    let others = names-spelt n s k a.next b.value b.next b.first in
    got_is (λ ys end. from s c ≡ names_text ys (from s end)) b.after (
    one.text
    ∙ ap (λ (j : ℕ). field a.value (after_field j) (from s a.next)) left
    ∙ ap (λ (y : List ℕ). field a.value (after_field (length b.value)) y) others)

list-spelt : (n : ℕ) (s : List ℕ) (c : Cursor) (xs : List ℕ) (next : Cursor) → list_at n s c ≡ Parsed.got xs next →
    PartSpelt (λ _. Unit {0}) list_text s c xs next
unfolding list_at list_text
list-spelt n s c xs next e =
    let a = then_got (own_count_at n s c) _ xs next e in
    let size : a.value ≡ length xs = sym (many-length (name_at n) a.value s a.next xs next a.after) in
    record {
      valid = tt;
      spelt =
          own_spelt n s c a.value a.next a.first
          ∙ ap (λ (v : ℕ). own_field v (from s a.next)) size
          ∙ ap (λ (y : List ℕ). own_field (length xs) y) (names-spelt n s a.value a.next xs next a.after);
    }

-- ---- lists and total

total_spelt : (s : List ℕ) (c : Cursor) (v : ℕ) (next : Cursor) → total_at s c ≡ Parsed.got v next → from s c ≡ field v 10 (from s next)
unfolding total_at
total_spelt s c v next e = go (field_at 7 s c 10) refl e
  where
    go : (a : Option (ℕ × Cursor)) → field_at 7 s c 10 ≡ a → on_some a (λ (m, x). Parsed.got m x) (Parsed.bad 8 c.line) ≡ Parsed.got v next → from s c ≡ field v 10 (from s next)
    go (Some (m, x)) f g =
        let q : m ≡ v = cc in
        let y : x ≡ next = cc in
        rw (q, y) at (field-spelt 7 (omega arith) (omega arith) s c x 10 m (omega arith) f)
    go None f g = let z : ◌≡◌ {A = ℕ} 0 1 = cc in absurd (omega arith)

-- the second part of the text, and nothing after it
record RestSpelt (l : Line) (s : List ℕ) (c : Cursor) (r : Rest) : Type 0 where
  many : length r.lists ≡ list_count l
  text : from s c ≡ rest_text l r.lists r.total

rest_spelt : (l : Line) (s : List ℕ) (c : Cursor) (r : Rest) (end : Cursor) → rest_at l s c ≡ Parsed.got r end → RestSpelt l s c r
unfolding rest_at rest_text
rest_spelt l s c r end e =
    let n = list_count l in
    let count = then_got (count_at n s c) _ r end e in
    let lists = then_got (lines count.value (list_at l.traffic.train_count) s count.next) _ r end count.after in
    let total = then_got (total_at s lists.next) _ r end lists.after in
    let same = count_is n s c count.value count.next count.first in
    let one = list-spelt l.traffic.train_count s in
    let lines = many-spelt (λ _. Unit {0}) list_text s (λ left. list_at l.traffic.train_count) (λ left. one) count.value count.next lists.value lists.next lists.first in
    let last = pick_got (ltb total.next.at (length s)) 8 total.next.line _ r end total.after in
    let none : from s total.next ≡ [] = drop_of_length-le s (ltb-false total.next.at (length s) last.0) in
    got_is (λ x _. RestSpelt l s c x) last.1 (record {
      many = lines.many ∙ same;
      text =
          count-spelt n s c count.value count.next count.first
          ∙ ap (λ (y : List ℕ). field n 10 y) lines.spelt
          ∙ ap (λ (y : List ℕ). field n 10 (each_then list_text lists.value y)) (total_spelt s lists.next total.value total.next total.first)
          ∙ ap (λ (y : List ℕ). field n 10 (each_then list_text lists.value (field total.value 10 y))) none;
    })

-- ---- the whole text

-- what is known of a timetable that was read
pub record TimetableRead (l : Line) (s : List ℕ) (t : Timetable) : Type 0 where
  pub text : s ≡ minutes_text l t.minutes (rest_text l t.rest.lists t.rest.total)
  pub days : EachTrain l (InDays l t.minutes)
  pub many_lists : length t.rest.lists ≡ list_count l
  pub many_minutes : length t.minutes ≡ 352
  pub idle : (x : ℕ) → OfNoLeg l x → get_or t.minutes x 0 ≡ 0

pub timetable_spelt : (l : Line) → Within l → (s : List ℕ) (t : Timetable) (end : Cursor) → timetable_file l s ≡ Parsed.got t end →
    TimetableRead l s t
unfolding timetable_file
timetable_spelt l w s t end e =
    let start : Cursor = record { at = 0; line = 1 } in
    let parts = (pick_got (ltb 4096 (length s)) 7 0 _ t end e).1 in
    let a = then_got (minutes_at l s start) _ t end parts in
    let b = then_got (rest_at l s a.next) _ t end a.after in
    let minutes = minutes_spelt l w s start a.value a.next a.first in
    let rest = rest_spelt l s a.next b.value b.next b.first in
    got_is (λ x _. TimetableRead l s x) b.after (record {
      text = minutes.text ∙ ap (λ (y : List ℕ). minutes_text l a.value y) rest.text;
      days = minutes.days;
      many_lists = rest.many;
      many_minutes = minutes.many;
      idle = minutes.idle;
    })
