-- Laws of reading the line file: each line's refusals and its value.
use Rattle.std.specs.Prelude.{ℕ, ◌<◌, ◌≤◌, Bool, true, false, Some, None, Result, eqb, length, get_or, replicate}
use Rattle.std.proofs.Math.Path.{◌≡◌, refl}
use Rattle.std.proofs.Common.{ap, ◌∙◌, arith}
use mathlib.Core.List.{List, [], ◌∷◌}
use borrow.Author.Tests.{eqb-true, eq-eqb, ne_eqb, lt-ltb, le-ltb}
use Rattle.std.proofs.Math.Seq.{sets}
use Rattle.text.specs.declared.Cursor.{Cursor}
use Rattle.text.specs.declared.Limits.{Limits}
use Rattle.text.specs.declared.Refusal.{Refusal}
use Rattle.text.specs.Reading.Choice.{pick}
use Rattle.text.specs.Reading.Bytes.{byte_at}
use Rattle.text.specs.Reading.BytesLaws.{inside}
use Rattle.text.specs.Reading.Parsed.{Parsed, then_read, map_parsed, many}
use Rattle.text.specs.Reading.Told.{told_ending}
use Rattle.text.proofs.Elements.LayLaws.{lay_many}
use Rattle.line.specs.declared.Kind.{Kind}
use Rattle.line.specs.declared.Segment.{Segment}
use Rattle.line.specs.declared.Train.{Train}
use Rattle.line.specs.declared.Booking.{Booking}
use Rattle.line.specs.declared.Listed.{Listed}
use Rattle.line.specs.Ranges.{gap, train_number, station, time, weight}
use Rattle.line.specs.Spell.{letter_byte}
use Rattle.line.specs.File.{number, after_field, letter_of, kind_at, segment_line, path_at, head_at, booking_line, listed_line}
use Rattle.line.specs.declared.reading.Path.{Path}
use Rattle.line.specs.Bookings.{bookable}

-- what a part tells whose ending is known
pub ended_told : {A : Type 0} {e y : Result Cursor Refusal} (x : A) → e ≡ y → told_ending e x ≡ told_ending y x
ended_told x is = ap (λ (k : Result Cursor Refusal). told_ending k x) is

-- ---- a segment's line

-- a byte that names a kind is its letter
pub letter_byte_lem : (b : ℕ) (k : Kind) → letter_of b ≡ Some k → b ≡ letter_byte k
unfolding letter_of
letter_byte_lem b k e = go (eqb b 83) (eqb b 70) (eqb b 68) refl refl refl e
  where
    go : (p q r : Bool) → eqb b 83 ≡ p → eqb b 70 ≡ q → eqb b 68 ≡ r →
        pick p (Some Kind.S) (pick q (Some Kind.F) (pick r (Some Kind.D) None)) ≡ Some k → b ≡ letter_byte k
    go true q r hp hq hr h = let z : Kind.S ≡ k = cc in eqb-true b 83 hp ∙ ap letter_byte z
    go false true r hp hq hr h = let z : Kind.F ≡ k = cc in eqb-true b 70 hq ∙ ap letter_byte z
    go false false true hp hq hr h = let z : Kind.D ≡ k = cc in eqb-true b 68 hr ∙ ap letter_byte z
    go false false false hp hq hr h = let z : ◌≡◌ {A = ℕ} 0 1 = cc in absurd (omega arith)

-- past the end stands no letter
pub no_letter : letter_of 256 ≡ None
unfolding letter_of
no_letter = refl

letter_small : (k : Kind) → letter_byte k < 256
letter_small Kind.S = omega arith
letter_small Kind.F = omega arith
letter_small Kind.D = omega arith

-- it stands inside the text
pub letter_inside : (s : List ℕ) (c : Cursor) (k : Kind) → letter_of (byte_at s c) ≡ Some k → c.at < length s
letter_inside s c k e = inside s c.at (omega (arith, letter_byte_lem (byte_at s c) k e, letter_small k))

-- a gap with `left` more on its line
abbrev pub gap_at : ℕ → List ℕ → Cursor → Parsed ℕ
gap_at left s c = number gap (after_field left) s c

-- the segment of a kind and its two gaps
abbrev pub segment_with : Kind → List ℕ → Segment
segment_with k gs = record { kind = k; following = get_or gs 0 0; opposing = get_or gs 1 0 }

module _ (s : List ℕ) (c : Cursor) where
  pub segment_no_kind : {n q : ℕ} → kind_at s c ≡ Parsed.bad n q → segment_line s c ≡ Parsed.bad n q
  unfolding segment_line
  segment_no_kind e = rw e refl

  -- a segment from its kind and its gaps laid into an array
  pub segment-from : (k : Kind) (c₁ : Cursor) (r : Parsed (List ℕ)) → kind_at s c ≡ Parsed.got k c₁ → r ≡ lay_many 2 gap_at s c₁ (replicate 2 0) 0 →
      segment_line s c ≡ map_parsed (segment_with k) r
  unfolding segment_line many
  segment-from k c₁ r kind h = rw (kind, h) (following (number gap 32 s c₁))
    where
      opposing : (f : ℕ) (a : Parsed ℕ) → then_read a (λ o c₃. Parsed.got (record { kind = k; following = f; opposing = o }) c₃)
          ≡ map_parsed (segment_with k) (map_parsed (λ ys. sets (replicate 2 0) 0 ys)
          (then_read (then_read a (λ y c₃. then_read (Parsed.got [] c₃) (λ xs end. Parsed.got (y ∷ xs) end))) (λ xs end. Parsed.got (f ∷ xs) end)))
      opposing f (Parsed.got o c₃) = refl
      opposing f (Parsed.bad n p) = refl

      following : (a : Parsed ℕ) → then_read a (λ f c₂. then_read (number gap 10 s c₂) (λ o c₃. Parsed.got (record { kind = k; following = f; opposing = o }) c₃))
          ≡ map_parsed (segment_with k) (map_parsed (λ ys. sets (replicate 2 0) 0 ys)
          (then_read a (λ f c₂. then_read (then_read (number gap 10 s c₂) (λ y c₃. then_read (Parsed.got [] c₃) (λ xs end. Parsed.got (y ∷ xs) end))) (λ xs end. Parsed.got (f ∷ xs) end))))
      following (Parsed.got f c₂) = opposing f (number gap 10 s c₂)
      following (Parsed.bad n p) = refl

-- ---- origin and destination on a train's line

module _ (k : ℕ) (s : List ℕ) (c : Cursor) where
  pub path_no_origin : {n q : ℕ} → number (station k) 32 s c ≡ Parsed.bad n q → path_at k s c ≡ Parsed.bad n q
  unfolding path_at
  path_no_origin e = rw e refl

  module _ {o : ℕ} {c₁ : Cursor} (origin : number (station k) 32 s c ≡ Parsed.got o c₁) where
    pub path_no_destination : {n q : ℕ} → number (station k) 32 s c₁ ≡ Parsed.bad n q → path_at k s c ≡ Parsed.bad n q
    unfolding path_at
    path_no_destination e = rw (origin, e) refl

    module _ {d : ℕ} {c₂ : Cursor} (destination : number (station k) 32 s c₁ ≡ Parsed.got d c₂) where
      pub path_nowhere : d ≡ o → path_at k s c ≡ Parsed.bad 4 c₁.line
      unfolding path_at
      path_nowhere e = rw (origin, destination, eq-eqb _ _ e) refl

      pub path_got : (d ≡ o → ⊥) → path_at k s c ≡ Parsed.got (record { origin = o; destination = d }) c₂
      unfolding path_at
      path_got apart = rw (origin, destination, ne_eqb _ _ apart) refl

-- ---- a train's line up to its weight

module _ (k : ℕ) (s : List ℕ) (c : Cursor) where
  pub head_no_path : {n q : ℕ} → path_at k s c ≡ Parsed.bad n q → head_at k s c ≡ Parsed.bad n q
  unfolding head_at
  head_no_path e = rw e refl

  module _ {x : Path} {c₁ : Cursor} (path : path_at k s c ≡ Parsed.got x c₁) where
    pub head_no_earliest : {n q : ℕ} → number time 32 s c₁ ≡ Parsed.bad n q → head_at k s c ≡ Parsed.bad n q
    unfolding head_at
    head_no_earliest e = rw (path, e) refl

    module _ {t : ℕ} {c₂ : Cursor} (earliest : number time 32 s c₁ ≡ Parsed.got t c₂) where
      pub head_no_latest : {n q : ℕ} → number time 32 s c₂ ≡ Parsed.bad n q → head_at k s c ≡ Parsed.bad n q
      unfolding head_at
      head_no_latest e = rw (path, earliest, e) refl

      module _ {u : ℕ} {c₃ : Cursor} (latest : number time 32 s c₂ ≡ Parsed.got u c₃) where
        pub head_no_weight : {n q : ℕ} → number weight 32 s c₃ ≡ Parsed.bad n q → head_at k s c ≡ Parsed.bad n q
        unfolding head_at
        head_no_weight e = rw (path, earliest, latest, e) refl

        pub head_got : {w : ℕ} {c₄ : Cursor} → number weight 32 s c₃ ≡ Parsed.got w c₄ →
            head_at k s c ≡ Parsed.got (record { origin = x.origin; destination = x.destination; earliest = t; latest = u; weight = w }) c₄
        unfolding head_at
        head_got e = rw (path, earliest, latest, e) refl

-- ---- a booking's line

module _ (k : ℕ) (trains : List Train) (before : Booking) (s : List ℕ) (c : Cursor) where
  pub booking_no_train : {n q : ℕ} → number (train_number (length trains)) 32 s c ≡ Parsed.bad n q → booking_line k trains before s c ≡ Parsed.bad n q
  unfolding booking_line
  booking_no_train e = rw e refl

  module _ {i : ℕ} {c₁ : Cursor} (train : number (train_number (length trains)) 32 s c ≡ Parsed.got i c₁) where
    pub booking_no_station : {n q : ℕ} → number (station k) 32 s c₁ ≡ Parsed.bad n q → booking_line k trains before s c ≡ Parsed.bad n q
    unfolding booking_line
    booking_no_station e = rw (train, e) refl

    module _ {p : ℕ} {c₂ : Cursor} (at : number (station k) 32 s c₁ ≡ Parsed.got p c₂) where
      pub booking-not_standing : bookable trains before i p ≡ false → booking_line k trains before s c ≡ Parsed.bad 19 c₁.line
      unfolding booking_line
      booking-not_standing e = rw (train, at, e) refl

      module _ (stands : bookable trains before i p ≡ true) where
        pub booking_no_minute : {n q : ℕ} → number time 10 s c₂ ≡ Parsed.bad n q → booking_line k trains before s c ≡ Parsed.bad n q
        unfolding booking_line
        booking_no_minute e = rw (train, at, stands, e) refl

        pub booking_got : {m : ℕ} {c₃ : Cursor} → number time 10 s c₂ ≡ Parsed.got m c₃ →
            booking_line k trains before s c ≡ Parsed.got (record { train = i; station = p; minute = m }) c₃
        unfolding booking_line
        booking_got e = rw (train, at, stands, e) refl

-- ---- a line of a list of trains

module _ (t : ℕ) (r : Limits) (before : Listed) (s : List ℕ) (c : Cursor) where
  pub listed_no_train : {n q : ℕ} → number (train_number t) 32 s c ≡ Parsed.bad n q → listed_line t r before s c ≡ Parsed.bad n q
  unfolding listed_line
  listed_no_train e = rw e refl

  module _ {i : ℕ} {c₁ : Cursor} (train : number (train_number t) 32 s c ≡ Parsed.got i c₁) where
    pub listed-not_rising : i ≤ before.train → listed_line t r before s c ≡ Parsed.bad 19 c.line
    unfolding listed_line
    listed-not_rising e = rw (train, le-ltb before.train i e) refl

    module _ (rises : before.train < i) where
      pub listed_no_minutes : {n q : ℕ} → number r 10 s c₁ ≡ Parsed.bad n q → listed_line t r before s c ≡ Parsed.bad n q
      unfolding listed_line
      listed_no_minutes e = rw (train, lt-ltb before.train i rises, e) refl

      pub listed_got : {m : ℕ} {c₂ : Cursor} → number r 10 s c₁ ≡ Parsed.got m c₂ →
          listed_line t r before s c ≡ Parsed.got (record { train = i; minutes = m }) c₂
      unfolding listed_line
      listed_got e = rw (train, lt-ltb before.train i rises, e) refl
