-- Laws of reading the sections, how each is refused, at its count or in its lines, or left off; and of the file, by its length.
use Prim.Native.Nat.{ℕ, ◌≤◌, ◌<◌}
use Rattle.std.proofs.Math.Path.{◌≡◌, refl, sym, ap}
use Rattle.std.proofs.Common.{◌∙◌, arith}
use Rattle.std.specs.Prelude.{true, ◌&&◌, eqb, length, Result}
use Rattle.std.proofs.Math.Bool.{false, not, and-eq-true_iff}
use mathlib.Core.List.{List, [], ◌∷◌}
use borrow.Author.Tests.{lt-ltb, le-ltb, eqb-true}
use Rattle.text.specs.declared.Cursor.{Cursor}
use Rattle.text.specs.declared.Limits.{Limits}
use Rattle.text.specs.declared.Refusal.{Refusal}
use Rattle.text.specs.Reading.Choice.{pick}
use Rattle.text.specs.Reading.Parsed.{Parsed, then_read, map_parsed, lines}
use Rattle.text.specs.Reading.Told.{told_ending, refusal}
use Rattle.text.proofs.Reading.ParsedLaws.{then_got, got_is, ranged_spelt}
use Rattle.text.specs.Elements.Padded.{padded}
use Rattle.text.specs.Sections.Chained.{chained, left, optional_at}
use Rattle.text.proofs.Sections.ChainedLaws.{chained_done, chained-length}
use Rattle.line.specs.declared.Train.{Train}
use Rattle.line.specs.declared.Booking.{Booking}
use Rattle.line.specs.declared.Booked.{Booked}
use Rattle.line.specs.declared.Listed.{Listed}
use Rattle.line.specs.declared.TrainList.{TrainList}
use Rattle.line.specs.declared.reading.FurtherSections.{FurtherSections}
use Rattle.line.specs.declared.reading.Section.{Section}
use Rattle.line.specs.Ranges.{In}
use Rattle.line.specs.Record.{booked_with, list_with}
use Rattle.line.specs.Parts.{sections_with}
use Rattle.line.specs.File.{number, used_in, section_at, rising_at, empty_last, rising_section, null, booking_section, due_section, further_at, line_at, line_file}

-- a part whose value is turned into another
module _ {A B : Type 0} (f : A → B) (p : Parsed A) where
  pub got_map : {b : B} {x : A} {c : Cursor} → b ≡ f x → p ≡ Parsed.got x c → Parsed.got b c ≡ map_parsed f p
  got_map {c = c} made is = ap (λ (y : B). Parsed.got y c) made ∙ sym (ap (λ (y : Parsed A). map_parsed f y) is)

  pub bad_map : {n q : ℕ} → p ≡ Parsed.bad n q → Parsed.bad n q ≡ map_parsed f p
  bad_map is = sym (ap (λ (y : Parsed A). map_parsed f y) is)

  pub told_bad : {e : Result Cursor Refusal} (b : B) {n q : ℕ} → e ≡ refusal n q → p ≡ Parsed.bad n q → told_ending e b ≡ map_parsed f p
  told_bad b refused is = ap (λ (k : Result Cursor Refusal). told_ending k b) refused ∙ bad_map is

  -- and back: the value that was turned into this one
  pub record MadeOf (b : B) (next : Cursor) : Type 0 where
    pub value : A
    pub read : p ≡ Parsed.got value next
    pub made : b ≡ f value

  pub made_of : {b : B} {next : Cursor} → Parsed.got b next ≡ map_parsed f p → MadeOf b next
  made_of {b} {next} is = go p refl (sym is)
    where
      go : (y : Parsed A) → p ≡ y → map_parsed f y ≡ Parsed.got b next → MadeOf b next
      go (Parsed.got x d) h q = got_is (λ z end. MadeOf z end) q (record { value = x; read = h; made = refl })
      go (Parsed.bad m k) h q = let y : ◌≡◌ {A = ℕ} 0 1 = cc in absurd (omega arith)

  pub refused_of : {m q : ℕ} → Parsed.bad m q ≡ map_parsed f p → p ≡ Parsed.bad m q
  refused_of {m} {q} is = go p is
    where
      go : (y : Parsed A) → Parsed.bad m q ≡ map_parsed f y → y ≡ Parsed.bad m q
      go (Parsed.got x d) h = let y : ◌≡◌ {A = ℕ} 0 1 = cc in absurd (omega arith)
      go (Parsed.bad k r) h = cc

-- ---- a section: its count, then its lines

module _ {A : Type 0} (r : Limits) (size : ℕ) (none : A) (line : List ℕ → Cursor → Parsed A) (s : List ℕ) (c : Cursor) where
  pub section_no_count : {m q : ℕ} → number r 10 s c ≡ Parsed.bad m q → section_at r size none line s c ≡ Parsed.bad m q
  unfolding section_at
  section_no_count e = rw e refl

  -- the section of n lines, which are read into an array, or refused, as p says
  pub section_lines : (n : ℕ) (c₁ : Cursor) (p : Parsed (List A)) → number r 10 s c ≡ Parsed.got n c₁ →
      p ≡ map_parsed (padded size none) (lines n line s c₁) →
      map_parsed (λ xs. record { count = n; entries = xs }) p ≡ section_at r size none line s c
  unfolding section_at
  section_lines n c₁ p h told = rw h (ap (λ (q : Parsed (List A)). map_parsed with q) told ∙ both (lines n line s c₁))
    where
      with : List A → Section A size
      with ys = record { count = n; entries = ys }

      both : (q : Parsed (List A)) → map_parsed with (map_parsed (padded size none) q) ≡ map_parsed (λ ys. with (padded size none ys)) q
      both (Parsed.got ys d) = refl
      both (Parsed.bad m k) = refl

  -- its count is in its range
  pub section_range : (x : Section A size) (next : Cursor) → section_at r size none line s c ≡ Parsed.got x next → In r x.count
  unfolding section_at
  section_range x next e =
      let n = then_got (number r 10 s c) _ x next e in
      let xs = then_got (lines n.value line s n.next) _ x next n.after in
      let count = ranged_spelt 2 3 r.min r.max 10 s c n.value n.next (omega arith) n.first in
      got_is (λ y end. In r y.count) xs.after (count.low, count.high)

-- ---- a section that may be left off, of lines in rising order

module _ {A : Type 0} (r : Limits) (none : A) (line : A → List ℕ → Cursor → Parsed A) (s : List ℕ) (c : Cursor) where
  pub rising_left_off : length s ≤ c.at → rising_section r none line s c ≡ Parsed.got [] c
  unfolding rising_section optional_at
  rising_left_off end = rw (le-ltb c.at (length s) end) refl

  module _ (more : c.at < length s) where
    pub rising_no_count : {m q : ℕ} → number r 10 s c ≡ Parsed.bad m q → rising_section r none line s c ≡ Parsed.bad m q
    unfolding rising_section optional_at rising_at
    rising_no_count e = rw (lt-ltb c.at (length s) more, e) refl

    module _ (n : ℕ) (c₁ : Cursor) (count : number r 10 s c ≡ Parsed.got n c₁) where
      pub rising_empty_last : empty_last n s c₁ ≡ true → rising_section r none line s c ≡ Parsed.bad 3 c.line
      unfolding rising_section optional_at rising_at chained
      rising_empty_last e =
          let (empty, last) = (and-eq-true_iff (eqb n 0) (not (left s c₁))).0 e in
          rw (lt-ltb c.at (length s) more, count, eqb-true n 0 empty, last) refl

      -- else it is what its lines are
      rising_read : empty_last n s c₁ ≡ false → rising_section r none line s c ≡ chained (λ before x. x) line n none s c₁
      unfolding rising_section optional_at rising_at
      rising_read some = rw (lt-ltb c.at (length s) more, count) (go (chained (λ before x. x) line n none s c₁) refl)
        where
          go : (p : Parsed (List A)) → chained (λ before x. x) line n none s c₁ ≡ p →
              then_read p (λ x next. pick (null x && not (left s next)) (Parsed.bad 3 c.line) (Parsed.got x next)) ≡ p
          go (Parsed.got [] d) h =
              let none_read : n ≡ 0 = sym (chained-length (λ before x. x) line n none s c₁ [] d h) in
              let same : ◌≡◌ {A = Parsed (List A)} (Parsed.got [] c₁) (Parsed.got [] d) =
              sym (chained_done (λ before x. x) line n 0 none s c₁ none_read) ∙ h in
              let here : c₁ ≡ d = cc in
              let follows : not (left s d) ≡ false = rw (none_read, here) at some in
              rw follows refl
          go (Parsed.got (x ∷ xs) d) h = refl
          go (Parsed.bad m q) h = refl

      -- the section of n lines, which are read into an array, or refused, as p says; `with` makes a record of a count and an array
      pub rising_lines : {B : Type 0} (with : ℕ → List A → B) (size : ℕ) → empty_last n s c₁ ≡ false → (p : Parsed (List A)) →
          p ≡ map_parsed (padded size none) (chained (λ before x. x) line n none s c₁) →
          map_parsed (with n) p ≡ map_parsed (λ ys. with (length ys) (padded size none ys)) (rising_section r none line s c)
      rising_lines with size some p told =
          ap (λ (q : Parsed (List A)). map_parsed (with n) q) told ∙ both (chained (λ before x. x) line n none s c₁) refl
          ∙ ap (λ (q : Parsed (List A)). map_parsed (λ ys. with (length ys) (padded size none ys)) q) (sym (rising_read some))
        where
          both : (q : Parsed (List A)) → chained (λ before x. x) line n none s c₁ ≡ q →
              map_parsed (with n) (map_parsed (padded size none) q) ≡ map_parsed (λ ys. with (length ys) (padded size none ys)) q
          both (Parsed.got ys d) is =
              ap (λ (k : ℕ). Parsed.got (with k (padded size none ys)) d) (sym (chained-length (λ before x. x) line n none s c₁ ys d is))
          both (Parsed.bad m k) is = refl

-- ---- the sections past the third, one after the other

module _ (n : ℕ) (z : Section Train 12) (s : List ℕ) (c : Cursor) where
  pub further_no_bookings : {m q : ℕ} → booking_section n (used_in z) s c ≡ Parsed.bad m q → further_at n z s c ≡ Parsed.bad m q
  unfolding further_at
  further_no_bookings e = rw e refl

  -- with these bookings, and the dues after them, which are read, or refused, as p says
  pub further_dues : {bs : List Booking} {c₁ : Cursor} {b : Booked} (p : Parsed TrainList) → booking_section n (used_in z) s c ≡ Parsed.got bs c₁ →
      b ≡ booked_with bs → p ≡ map_parsed list_with (due_section z.count s c₁) →
      map_parsed (λ d. record { booked = b; dues = d }) p ≡ map_parsed sections_with (further_at n z s c)
  unfolding further_at
  further_dues {bs} {c₁} {b} p bookings made told =
      ap (λ (q : Parsed TrainList). map_parsed with q) told ∙ (rw bookings (both (due_section z.count s c₁)))
    where
      with : TrainList → FurtherSections
      with y = record { booked = b; dues = y }

      both : (q : Parsed (List Listed)) → map_parsed with (map_parsed list_with q)
          ≡ map_parsed sections_with (then_read q (λ ds c₂. Parsed.got (record { bookings = bs; dues = ds }) c₂))
      both (Parsed.got ds c₂) = ap (λ (y : Booked). Parsed.got (record { booked = y; dues = list_with ds }) c₂) made
      both (Parsed.bad m k) = refl

-- ---- the file

pub file_long : (s : List ℕ) → 4096 < length s → line_file s ≡ Parsed.bad 1 0
unfolding line_file
file_long s long = rw (lt-ltb 4096 (length s) long) refl

pub file_short : (s : List ℕ) → length s ≤ 4096 → line_file s ≡ line_at s (record { at = 0; line = 1 })
unfolding line_file
file_short s short = rw (le-ltb 4096 (length s) short) refl
