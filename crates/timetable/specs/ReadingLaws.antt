-- Laws of reading the minutes of a timetable's text: the legs of a train and the lines of the trains a step at a time.
use Rattle.std.specs.Prelude.{ℕ, zero, suc, ◌+◌, ◌*◌, ◌<◌, ◌≡◌, List, set, replicate}
use Rattle.std.proofs.Math.Path.{refl}
use Rattle.std.proofs.Common.{ap, arith}
use Rattle.text.specs.declared.Cursor.{Cursor}
use Rattle.text.specs.Reading.Parsed.{Parsed}
use Rattle.text.proofs.Reading.ParsedLaws.{ranged_spelt}
use Rattle.line.specs.declared.Train.{Train}
use Rattle.line.specs.declared.Line.{Line}
use Rattle.line.specs.File.{after_field}
use Rattle.rules.specs.Statement.Paths.{train, legs, segment_of}
use Rattle.timetable.specs.Reading.{time_at, count_at, legs_at, trains_at, minutes_at}

pub after_byte : (k : ℕ) → after_field k < 256
after_byte zero = omega arith
after_byte (suc k) = omega arith

-- a count that was read is the line's
pub count_is : (n : ℕ) (s : List ℕ) (c : Cursor) (v : ℕ) (next : Cursor) → count_at n s c ≡ Parsed.got v next → v ≡ n
count_is n s c v next e =
    let w = ranged_spelt 8 9 n n 10 s c v next (omega arith) e in
    omega (arith, w.low, w.high)

-- ---- the legs of a train

module _ (n : ℕ) (t : Train) (i j : ℕ) (m s : List ℕ) (c : Cursor) where
  pub legs_done : n ≡ 0 → legs_at n t i j m s c ≡ Parsed.got m c
  unfolding legs_at
  legs_done e = rw e refl

  module _ (k : ℕ) (e : n ≡ suc k) where
    pub legs_no_departure : {x q : ℕ} → time_at 32 s c ≡ Parsed.bad x q → legs_at n t i j m s c ≡ Parsed.bad x q
    unfolding legs_at
    legs_no_departure f = rw (e, f) refl

    module _ {d : ℕ} {c₁ : Cursor} (departure : time_at 32 s c ≡ Parsed.got d c₁) where
      pub legs_no_arrival : {x q : ℕ} → time_at (after_field k) s c₁ ≡ Parsed.bad x q → legs_at n t i j m s c ≡ Parsed.bad x q
      unfolding legs_at
      legs_no_arrival f = rw (e, departure, f) refl

      -- g is the segment of leg j
      pub legs_step : {a : ℕ} {c₂ : Cursor} (g : ℕ) → time_at (after_field k) s c₁ ≡ Parsed.got a c₂ → g ≡ segment_of t j →
          legs_at n t i j m s c ≡ legs_at k t i (j + 1) (set (set m (16 * g + i) d) (176 + (16 * g + i)) a) s c₂
      unfolding legs_at
      legs_step g f h = rw (e, departure, f, h) refl

-- ---- the lines of the trains

module _ (n : ℕ) (l : Line) (i : ℕ) (m s : List ℕ) (c : Cursor) where
  pub trains_done : n ≡ 0 → trains_at n l i m s c ≡ Parsed.got m c
  unfolding trains_at
  trains_done e = rw e refl

  module _ (k : ℕ) (e : n ≡ suc k) where
    pub trains_refused : {x q : ℕ} → legs_at (legs l i) (train l i) i 0 m s c ≡ Parsed.bad x q → trains_at n l i m s c ≡ Parsed.bad x q
    unfolding trains_at
    trains_refused f = rw (e, f) refl

    pub trains_step : {m' : List ℕ} {next : Cursor} → legs_at (legs l i) (train l i) i 0 m s c ≡ Parsed.got m' next →
        trains_at n l i m s c ≡ trains_at k l (i + 1) m' s next
    unfolding trains_at
    trains_step f = rw (e, f) refl

-- ---- the first part of the text

module _ (l : Line) (s : List ℕ) (c : Cursor) where
  pub minutes_no_count : {x q : ℕ} → count_at l.traffic.train_count s c ≡ Parsed.bad x q → minutes_at l s c ≡ Parsed.bad x q
  unfolding minutes_at
  minutes_no_count e = rw e refl

  pub minutes_counted : {v : ℕ} {next : Cursor} → count_at l.traffic.train_count s c ≡ Parsed.got v next →
      minutes_at l s c ≡ trains_at l.traffic.train_count l 0 (replicate 352 0) s next
  unfolding minutes_at
  minutes_counted {v} {next} e = rw e (ap (λ (k : ℕ). trains_at k l 0 (replicate 352 0) s next) (count_is l.traffic.train_count s c v next e))
