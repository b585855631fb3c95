-- Laws of one line of stop_times.txt: each step of its reading, what is read is its text, a text is read as its value, and where the cursor stands after it.
use Rattle.std.specs.Prelude.{ℕ, ◌+◌, ◌*◌, ◌/◌, ◌%◌, ◌≤◌, ◌≡◌, Bool, true, ◌&&◌, List, [], ◌∷◌, ◌++◌, Option, Some, None, ltb}
use Rattle.std.proofs.Math.Path.{refl}
use Rattle.std.proofs.Common.{ap, ◌∙◌, true≢false, arith}
use Rattle.finite.specs.Decide.{Decides}
use Rattle.finite.specs.DecideLaws.{decides_and, decides_lt}
use Rattle.text.specs.declared.Cursor.{Cursor}
use Rattle.text.specs.Reading.Bytes.{from, digit_of}
use Rattle.text.specs.Reading.BytesLaws.{digit_worth, feed_ends}
use Rattle.text.specs.Reading.Parsed.{Parsed}
use Rattle.text.proofs.Reading.ParsedLaws.{then_got, got_is, ranged_spelt, ranged_reads, Reads, reads_then, at_end}
use Rattle.text.specs.Reading.Fixed.{text_at, paired_at}
use Rattle.text.proofs.Reading.FixedLaws.{Bytes, text_spelt, text_reads, paired_spelt, paired_reads}
use Rattle.text.specs.Writing.Digits.{pair_text}
use Rattle.text.specs.Places.Lines.{feeds, HoldsOn, Spans}
use Rattle.text.proofs.Places.LinesLaws.{KeepsPassing, stands_then, stands_ranged, stands_paired, stands_text}
use Rattle.text.proofs.Places.SpansLaws.{spans_then, spans_as, spans_ranged, spans_paired, spans_text}
use Rattle.line.specs.Spell.{field}
use Rattle.gtfs.specs.declared.stops.StopTime.{StopTime}
use Rattle.gtfs.specs.Spell.{seconds, clock_text, stop_time_text}
use Rattle.gtfs.specs.Reading.{numeral_at, clock_at, stop_time_at}

-- ---- a time of day, step by step

module _ (s : List ℕ) (c : Cursor) where
  pub clock_no_hour : {n p : ℕ} → paired_at 20 20 0 47 58 s c ≡ Parsed.bad n p → clock_at s c ≡ Parsed.bad n p
  unfolding clock_at
  clock_no_hour e = rw e refl

  module _ {h : ℕ} {c₁ : Cursor} (hour : paired_at 20 20 0 47 58 s c ≡ Parsed.got h c₁) where
    pub clock_no_minute : {n p : ℕ} → paired_at 20 20 0 59 58 s c₁ ≡ Parsed.bad n p → clock_at s c ≡ Parsed.bad n p
    unfolding clock_at
    clock_no_minute e = rw (hour, e) refl

    module _ {m : ℕ} {c₂ : Cursor} (minute : paired_at 20 20 0 59 58 s c₁ ≡ Parsed.got m c₂) where
      pub clock_no_seconds : {n p : ℕ} → text_at 20 seconds s c₂ ≡ Parsed.bad n p → clock_at s c ≡ Parsed.bad n p
      unfolding clock_at
      clock_no_seconds e = rw (hour, minute, e) refl

      pub clock_got : {c₃ : Cursor} → text_at 20 seconds s c₂ ≡ Parsed.got tt c₃ → clock_at s c ≡ Parsed.got (h * 60 + m) c₃
      unfolding clock_at
      clock_got e = rw (hour, minute, e) refl

-- ---- a line, step by step

module _ (s : List ℕ) (c : Cursor) where
  pub time_no_letter : {n p : ℕ} → text_at 20 (84 ∷ []) s c ≡ Parsed.bad n p → stop_time_at s c ≡ Parsed.bad n p
  unfolding stop_time_at
  time_no_letter e = rw e refl

  module _ {c₁ : Cursor} (letter : text_at 20 (84 ∷ []) s c ≡ Parsed.got tt c₁) where
    pub time_no_trip : {n p : ℕ} → numeral_at 44 s c₁ ≡ Parsed.bad n p → stop_time_at s c ≡ Parsed.bad n p
    unfolding stop_time_at
    time_no_trip e = rw (letter, e) refl

    module _ {t : ℕ} {c₂ : Cursor} (trip : numeral_at 44 s c₁ ≡ Parsed.got t c₂) where
      pub time_no_arrival : {n p : ℕ} → clock_at s c₂ ≡ Parsed.bad n p → stop_time_at s c ≡ Parsed.bad n p
      unfolding stop_time_at
      time_no_arrival e = rw (letter, trip, e) refl

      module _ {a : ℕ} {c₃ : Cursor} (arrival : clock_at s c₂ ≡ Parsed.got a c₃) where
        pub time_no_departure : {n p : ℕ} → clock_at s c₃ ≡ Parsed.bad n p → stop_time_at s c ≡ Parsed.bad n p
        unfolding stop_time_at
        time_no_departure e = rw (letter, trip, arrival, e) refl

        module _ {d : ℕ} {c₄ : Cursor} (departure : clock_at s c₃ ≡ Parsed.got d c₄) where
          pub time_no_station : {n p : ℕ} → numeral_at 44 s c₄ ≡ Parsed.bad n p → stop_time_at s c ≡ Parsed.bad n p
          unfolding stop_time_at
          time_no_station e = rw (letter, trip, arrival, departure, e) refl

          module _ {k : ℕ} {c₅ : Cursor} (station : numeral_at 44 s c₄ ≡ Parsed.got k c₅) where
            pub time_no_sequence : {n p : ℕ} → numeral_at 10 s c₅ ≡ Parsed.bad n p → stop_time_at s c ≡ Parsed.bad n p
            unfolding stop_time_at
            time_no_sequence e = rw (letter, trip, arrival, departure, station, e) refl

            pub time_got : {q : ℕ} {c₆ : Cursor} → numeral_at 10 s c₅ ≡ Parsed.got q c₆ →
                stop_time_at s c ≡ Parsed.got (record { trip = t; arrival = a; departure = d; station = k; sequence = q }) c₆
            unfolding stop_time_at
            time_got e = rw (letter, trip, arrival, departure, station, e) refl

-- ---- what is read is its text

-- that a given text has bytes alone is computed
abbrev all_bytes : List ℕ → Bool
all_bytes [] = true
all_bytes (b ∷ t) = ltb b 256 && all_bytes t

decides_bytes : (t : List ℕ) → Decides (Bytes t) (all_bytes t)
decides_bytes [] = record { yea = λ _. tt; nay = λ e h. true≢false e }
decides_bytes (b ∷ t) = decides_and (decides_lt b 256) (decides_bytes t)

pub bytes_so : (t : List ℕ) → all_bytes t ≡ true → Bytes t
bytes_so t e = (decides_bytes t).yea e

-- a time of day that was read
record ClockSpelt (s : List ℕ) (c : Cursor) (v : ℕ) (next : Cursor) : Type 0 where
  most : v ≤ 2879
  text : from s c ≡ clock_text v (from s next)

clock_spelt : (s : List ℕ) (c : Cursor) (v : ℕ) (next : Cursor) → clock_at s c ≡ Parsed.got v next → ClockSpelt s c v next
unfolding clock_at
clock_spelt s c v next e =
    let a = then_got (paired_at 20 20 0 47 58 s c) _ v next e in
    let b = then_got (paired_at 20 20 0 59 58 s a.next) _ v next a.after in
    let d = then_got (text_at 20 seconds s b.next) _ v next b.after in
    let hour = paired_spelt 20 20 0 47 58 s c a.value a.next (omega arith) a.first in
    let minute = paired_spelt 20 20 0 59 58 s a.next b.value b.next (omega arith) b.first in
    let rest = text_spelt 20 seconds s b.next d.next (bytes_so seconds refl) d.first in
    let parts : from s c ≡ pair_text a.value ++ (58 ∷ (pair_text b.value ++ (58 ∷ (seconds ++ from s d.next)))) =
    hour.text
    ∙ ap (λ (l : List ℕ). pair_text a.value ++ (58 ∷ l)) minute.text
    ∙ ap (λ (l : List ℕ). pair_text a.value ++ (58 ∷ (pair_text b.value ++ (58 ∷ l)))) rest in
    let hours : (a.value * 60 + b.value) / 60 ≡ a.value = omega (arith, minute.high) in
    let minutes : (a.value * 60 + b.value) % 60 ≡ b.value = omega (arith, minute.high) in
    got_is (ClockSpelt s c) d.after (record { most = omega (arith, hour.high, minute.high); text = rw (hours, minutes) parts })

-- what a line has in it that was read
pub record TimeSpelt (s : List ℕ) (c : Cursor) (x : StopTime) (next : Cursor) : Type 0 where
  pub arrival : x.arrival ≤ 2879
  pub departure : x.departure ≤ 2879
  pub text : from s c ≡ stop_time_text x (from s next)

pub time-spelt : (s : List ℕ) (c : Cursor) (x : StopTime) (next : Cursor) → stop_time_at s c ≡ Parsed.got x next → TimeSpelt s c x next
unfolding stop_time_at stop_time_text
time-spelt s c x next e =
    let r₁ = then_got (text_at 20 (84 ∷ []) s c) _ x next e in
    let r₂ = then_got (numeral_at 44 s r₁.next) _ x next r₁.after in
    let r₃ = then_got (clock_at s r₂.next) _ x next r₂.after in
    let r₄ = then_got (clock_at s r₃.next) _ x next r₃.after in
    let r₅ = then_got (numeral_at 44 s r₄.next) _ x next r₄.after in
    let r₆ = then_got (numeral_at 10 s r₅.next) _ x next r₅.after in
    let letter = text_spelt 20 (84 ∷ []) s c r₁.next (bytes_so (84 ∷ []) refl) r₁.first in
    let trip = ranged_spelt 20 20 0 9999 44 s r₁.next r₂.value r₂.next (omega arith) r₂.first in
    let arrival = clock_spelt s r₂.next r₃.value r₃.next r₃.first in
    let departure = clock_spelt s r₃.next r₄.value r₄.next r₄.first in
    let station = ranged_spelt 20 20 0 9999 44 s r₄.next r₅.value r₅.next (omega arith) r₅.first in
    let sequence = ranged_spelt 20 20 0 9999 10 s r₅.next r₆.value r₆.next (omega arith) r₆.first in
    got_is (TimeSpelt s c) r₆.after (record {
      arrival = arrival.most;
      departure = departure.most;
      text =
          letter
          ∙ ap (λ (l : List ℕ). 84 ∷ l) trip.text
          ∙ ap (λ (l : List ℕ). 84 ∷ field r₂.value 44 l) arrival.text
          ∙ ap (λ (l : List ℕ). 84 ∷ field r₂.value 44 (clock_text r₃.value l)) departure.text
          ∙ ap (λ (l : List ℕ). 84 ∷ field r₂.value 44 (clock_text r₃.value (clock_text r₄.value l))) station.text
          ∙ ap (λ (l : List ℕ). 84 ∷ field r₂.value 44 (clock_text r₃.value (clock_text r₄.value (field r₅.value 44 l)))) sequence.text;
    })

-- ---- a text is read as its value

-- a comma is no digit
comma_ends : digit_of 44 ≡ None
comma_ends = go (digit_of 44) refl
  where
    go : (d : Option ℕ) → digit_of 44 ≡ d → d ≡ None
    go (Some v) e = absurd (omega (arith, (digit_worth 44 v e).low))
    go None e = refl

clock_reads : (s : List ℕ) (c : Cursor) (v : ℕ) (rest : List ℕ) → v ≤ 2879 → from s c ≡ clock_text v rest → Reads (clock_at s c) v s rest
unfolding clock_at
clock_reads s c v rest h e =
    let value : v / 60 * 60 + v % 60 ≡ v = omega arith in
    reads_then _ (paired_reads 20 20 0 47 58 s c (v / 60) _ (omega arith) (omega arith) (omega arith) e)
    (λ c₁ e₁. reads_then _ (paired_reads 20 20 0 59 58 s c₁ (v % 60) _ (omega arith) (omega arith) (omega arith) e₁)
    (λ c₂ e₂. reads_then _ (text_reads 20 seconds s c₂ rest e₂)
    (λ c₃ e₃. rw value (at_end v c₃ e₃))))

-- a line that can be written: numbers of at most four digits, minutes of the two days
pub record Plain (x : StopTime) : Type 0 where
  pub trip : x.trip ≤ 9999
  pub arrival : x.arrival ≤ 2879
  pub departure : x.departure ≤ 2879
  pub station : x.station ≤ 9999
  pub sequence : x.sequence ≤ 9999

pub time_reads : (s : List ℕ) (c : Cursor) (x : StopTime) (rest : List ℕ) → Plain x → from s c ≡ stop_time_text x rest → Reads (stop_time_at s c) x s rest
unfolding stop_time_at stop_time_text
time_reads s c x rest w e =
    reads_then _ (text_reads 20 (84 ∷ []) s c _ e)
    (λ c₁ e₁. reads_then _ (ranged_reads 20 20 0 9999 44 s c₁ x.trip _ comma_ends (omega arith) w.trip (omega arith) e₁)
    (λ c₂ e₂. reads_then _ (clock_reads s c₂ x.arrival _ w.arrival e₂)
    (λ c₃ e₃. reads_then _ (clock_reads s c₃ x.departure _ w.departure e₃)
    (λ c₄ e₄. reads_then _ (ranged_reads 20 20 0 9999 44 s c₄ x.station _ comma_ends (omega arith) w.station (omega arith) e₄)
    (λ c₅ e₅. reads_then _ (ranged_reads 20 20 0 9999 10 s c₅ x.sequence rest feed_ends (omega arith) w.sequence (omega arith) e₅)
    (λ c₆ e₆. at_end x c₆ e₆))))))

-- ---- what holds of the cursors of a line

module _ (s : List ℕ) (P : Cursor → Type 0) (k : KeepsPassing s P) (Q : ℕ → Type 0) (q : Q 20) where
  stands_numeral : (b : ℕ) (c : Cursor) → P c → HoldsOn P Q (numeral_at b s c)
  stands_numeral b c h = stands_ranged s P k Q 20 20 0 9999 b q q c h

  pub stands_clock : (c : Cursor) → P c → HoldsOn P Q (clock_at s c)
  unfolding clock_at
  stands_clock c h =
      stands_then P Q (paired_at 20 20 0 47 58 s c) _ (stands_paired s P k Q 20 20 0 47 58 q q c h)
      (λ v c₁ h₁. stands_then P Q (paired_at 20 20 0 59 58 s c₁) _ (stands_paired s P k Q 20 20 0 59 58 q q c₁ h₁)
      (λ m c₂ h₂. stands_then P Q (text_at 20 seconds s c₂) _ (stands_text s P k Q 20 seconds q c₂ h₂)
      (λ _ c₃ h₃. h₃)))

  pub stands-time : (c : Cursor) → P c → HoldsOn P Q (stop_time_at s c)
  unfolding stop_time_at
  stands-time c h =
      stands_then P Q (text_at 20 (84 ∷ []) s c) _ (stands_text s P k Q 20 (84 ∷ []) q c h)
      (λ _ c₁ h₁. stands_then P Q (numeral_at 44 s c₁) _ (stands_numeral 44 c₁ h₁)
      (λ t c₂ h₂. stands_then P Q (clock_at s c₂) _ (stands_clock c₂ h₂)
      (λ a c₃ h₃. stands_then P Q (clock_at s c₃) _ (stands_clock c₃ h₃)
      (λ d c₄ h₄. stands_then P Q (numeral_at 44 s c₄) _ (stands_numeral 44 c₄ h₄)
      (λ p c₅ h₅. stands_then P Q (numeral_at 10 s c₅) _ (stands_numeral 10 c₅ h₅)
      (λ r c₆ h₆. h₆))))))

-- ---- it is one line

module _ (s : List ℕ) (n : ℕ) where
  -- parts that end on the line on which they began
  spans_pair : (hi : ℕ) (c : Cursor) → c.line ≡ n → Spans n n (paired_at 20 20 0 hi 58 s c)
  spans_pair hi c e = spans_as {n = c.line} {m = c.line} (paired_at 20 20 0 hi 58 s c) e e (spans_paired 20 20 0 hi 58 s c)

  spans_literal : (t : List ℕ) → feeds t ≡ 0 → (c : Cursor) → c.line ≡ n → Spans n n (text_at 20 t s c)
  spans_literal t none c e = spans_as {n = c.line} {m = c.line + feeds t} (text_at 20 t s c) e (omega arith) (spans_text 20 t s c)

  spans_numeral : (c : Cursor) → c.line ≡ n → Spans n n (numeral_at 44 s c)
  spans_numeral c e = spans_as {n = c.line} {m = c.line} (numeral_at 44 s c) e e (spans_ranged 20 20 0 9999 44 s c)

  spans_clock : (c : Cursor) → c.line ≡ n → Spans n n (clock_at s c)
  unfolding clock_at
  spans_clock c e =
      spans_then {m = n} (paired_at 20 20 0 47 58 s c) _ (omega arith) (omega arith) (spans_pair 47 c e)
      (λ h c₁ e₁. spans_then {m = n} (paired_at 20 20 0 59 58 s c₁) _ (omega arith) (omega arith) (spans_pair 59 c₁ e₁)
      (λ m c₂ e₂. spans_then {m = n} (text_at 20 seconds s c₂) _ (omega arith) (omega arith) (spans_literal seconds refl c₂ e₂)
      (λ _ c₃ e₃. e₃)))

  -- and the last, which is followed by the line feed
  spans_last : (c : Cursor) → c.line ≡ n → Spans n (n + 1) (numeral_at 10 s c)
  spans_last c e = spans_as {n = c.line} {m = c.line + 1} (numeral_at 10 s c) e (omega arith) (spans_ranged 20 20 0 9999 10 s c)

  pub spans_time : (c : Cursor) → c.line ≡ n → Spans n (n + 1) (stop_time_at s c)
  unfolding stop_time_at
  spans_time c e =
      spans_then {m = n} (text_at 20 (84 ∷ []) s c) _ (omega arith) (omega arith) (spans_literal (84 ∷ []) refl c e)
      (λ _ c₁ e₁. spans_then {m = n} (numeral_at 44 s c₁) _ (omega arith) (omega arith) (spans_numeral c₁ e₁)
      (λ t c₂ e₂. spans_then {m = n} (clock_at s c₂) _ (omega arith) (omega arith) (spans_clock c₂ e₂)
      (λ a c₃ e₃. spans_then {m = n} (clock_at s c₃) _ (omega arith) (omega arith) (spans_clock c₃ e₃)
      (λ d c₄ e₄. spans_then {m = n} (numeral_at 44 s c₄) _ (omega arith) (omega arith) (spans_numeral c₄ e₄)
      (λ p c₅ e₅. spans_then {m = n + 1} (numeral_at 10 s c₅) _ (omega arith) (omega arith) (spans_last c₅ e₅)
      (λ r c₆ e₆. e₆))))))
