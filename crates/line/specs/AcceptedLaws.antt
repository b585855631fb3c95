-- What is accepted is the text of its line: each part that was read is within the limits, and its bytes are its text.
use Rattle.std.specs.Prelude.{ℕ, zero, suc, ◌-◌, ◌<◌, ◌≤◌, ◌≡◌, Bool, true, false, not, Option, Some, None, ltb, eqb, length, take}
use Rattle.std.proofs.Math.Path.{refl, ap}
use Rattle.std.proofs.Common.{sym, ◌∙◌, ltb-true, ltb-false, drop_of_length-le}
use mathlib.Core.List.{List, [], ◌∷◌}
use native.Mathlib.Omega.{arith}
use Rattle.std.proofs.lemmas.Bool.{eqb-false, not-false}
use Rattle.text.specs.declared.Cursor.{Cursor}
use Rattle.text.specs.declared.Limits.{Limits}
use Rattle.text.specs.Reading.Choice.{pick, on_some}
use Rattle.text.specs.Reading.Bytes.{byte_at, from, ahead, past_of}
use Rattle.text.specs.Reading.BytesLaws.{from_cons, past_spelt}
use Rattle.text.specs.Elements.Padded.{padded}
use Rattle.text.specs.Elements.PaddedLaws.{take-padded, padded-length}
use Rattle.text.specs.Elements.EachThen.{each_then}
use Rattle.text.specs.Sections.Chained.{EachAfter, optional_text}
use Rattle.text.proofs.Sections.ChainedLaws.{chained-spelt, optional_spelt}
use Rattle.finite.specs.Each.{Each}
use Rattle.text.specs.Reading.Parsed.{Parsed, lines}
use Rattle.text.proofs.Reading.ParsedLaws.{then_got, pick_got, got_is, ranged_spelt, PartSpelt, many-spelt}
use Rattle.line.specs.declared.Kind.{Kind}
use Rattle.line.specs.declared.Segment.{Segment}
use Rattle.line.specs.declared.Train.{Train}
use Rattle.line.specs.declared.Booking.{Booking}
use Rattle.line.specs.declared.Listed.{Listed}
use Rattle.line.specs.declared.Line.{Line}
use Rattle.line.specs.declared.reading.Path.{Path}
use Rattle.line.specs.declared.reading.Head.{Head}
use Rattle.line.specs.declared.reading.Section.{Section}
use Rattle.line.specs.Ranges.{In, station_count, tracks, gap, train_count, train_number, booking_count, list_count, newest, station, time, weight, run, stop}
use Rattle.line.specs.Record.{no_segment, no_train, no_booking, no_listed, Further, line_with, legs_between, tidy_train}
use Rattle.line.specs.Bookings.{bookable}
use Rattle.line.specs.BookingsLaws.{decides_bookable}
use Rattle.line.specs.File.{number, station_line, letter_of, kind_at, segment_line, path_at, head_at, Journey, journey_at, train_with, train_line, used_in, section_at, station_section, segment_section, train_section, booking_line, rising_at, null, rising_section, booking_section, listed_line, due_section, further_at, joins, line_from, line_at, line_file}
use Rattle.line.specs.Spell.{field, station_text, letter_byte, segment_text, journey_text, train_text, booking_text, listed_text, counted_text, further_text}
use Rattle.line.specs.RecordLaws.{path_legs}
use Rattle.line.specs.FileLaws.{letter_byte_lem, letter_inside}
use Rattle.line.specs.Within.{SegmentWithin, TrainWithin, BookingWithin, ListedWithin, FurtherWithin, TrainArrays}

-- a number that was read
pub record NumberSpelt (r : Limits) (b : ℕ) (s : List ℕ) (c : Cursor) (n : ℕ) (next : Cursor) : Type 0 where
  pub range : In r n
  pub text : from s c ≡ field n b (from s next)

number-spelt : (r : Limits) (b : ℕ) (s : List ℕ) (c : Cursor) (n : ℕ) (next : Cursor) → b < 256 → number r b s c ≡ Parsed.got n next →
    NumberSpelt r b s c n next
number-spelt r b s c n next h e =
    let a = ranged_spelt 2 3 r.min r.max b s c n next h e in
    record { range = (a.low, a.high); text = a.text }

-- ---- stations

station-spelt : (s : List ℕ) (c : Cursor) (t : ℕ) (next : Cursor) → station_line s c ≡ Parsed.got t next →
    PartSpelt (In tracks) station_text s c t next
station-spelt s c t next e =
    let a = number-spelt tracks 10 s c t next (omega arith) e in
    record { valid = a.range; spelt = a.text }

-- ---- segments

kind_spelt : (s : List ℕ) (c : Cursor) (k : Kind) (next : Cursor) → kind_at s c ≡ Parsed.got k next → from s c ≡ letter_byte k ∷ (32 ∷ from s next)
unfolding kind_at
kind_spelt s c k next e = go (letter_of (byte_at s c)) refl e
  where
    step : (m : Kind) → letter_of (byte_at s c) ≡ Some m → (y : Option Cursor) → past_of s (ahead c) 32 ≡ y →
        on_some y (λ x. Parsed.got m x) (Parsed.bad 2 c.line) ≡ Parsed.got k next → from s c ≡ letter_byte k ∷ (32 ∷ from s next)
    step m hx (Some x) hy f =
        let q : m ≡ k = cc in
        let z : x ≡ next = cc in
        let w = letter_byte_lem (byte_at s c) m hx in
        let t : from s c ≡ letter_byte m ∷ from s (ahead c) = rw w at (from_cons s c (letter_inside s c m hx)) in
        rw (← q, ← z) (t ∙ ap (λ (l : List ℕ). letter_byte m ∷ l) (past_spelt s (ahead c) x 32 (omega arith) hy))
    step m hx None hy f = let z : ◌≡◌ {A = ℕ} 0 1 = cc in absurd (omega arith)

    go : (x : Option Kind) → letter_of (byte_at s c) ≡ x →
        on_some x (λ m. on_some (past_of s (ahead c) 32) (λ y. Parsed.got m y) (Parsed.bad 2 c.line)) (Parsed.bad 2 c.line) ≡ Parsed.got k next →
        from s c ≡ letter_byte k ∷ (32 ∷ from s next)
    go (Some m) hx f = step m hx (past_of s (ahead c) 32) refl f
    go None hx f = let z : ◌≡◌ {A = ℕ} 0 1 = cc in absurd (omega arith)

segment-spelt : (s : List ℕ) (c : Cursor) (g : Segment) (next : Cursor) → segment_line s c ≡ Parsed.got g next →
    PartSpelt SegmentWithin segment_text s c g next
unfolding segment_line
segment-spelt s c g next e =
    let k = then_got (kind_at s c) _ g next e in
    let f = then_got (number gap 32 s k.next) _ g next k.after in
    let o = then_got (number gap 10 s f.next) _ g next f.after in
    let following = number-spelt gap 32 s k.next f.value f.next (omega arith) f.first in
    let opposing = number-spelt gap 10 s f.next o.value o.next (omega arith) o.first in
    got_is (λ x end. PartSpelt SegmentWithin segment_text s c x end) o.after (record {
      valid = record { following = following.range; opposing = opposing.range };
      spelt =
          kind_spelt s c k.value k.next k.first
          ∙ ap (λ (l : List ℕ). letter_byte k.value ∷ (32 ∷ l)) following.text
          ∙ ap (λ (l : List ℕ). letter_byte k.value ∷ (32 ∷ field f.value 32 l)) opposing.text;
    })

-- ---- trains

record PathSpelt (n : ℕ) (s : List ℕ) (c : Cursor) (h : Path) (next : Cursor) : Type 0 where
  origin : In (station n) h.origin
  destination : In (station n) h.destination
  apart : h.destination ≡ h.origin → ⊥
  text : from s c ≡ field h.origin 32 (field h.destination 32 (from s next))

path_spelt : (n : ℕ) (s : List ℕ) (c : Cursor) (h : Path) (next : Cursor) → path_at n s c ≡ Parsed.got h next → PathSpelt n s c h next
unfolding path_at
path_spelt n s c h next e =
    let o = then_got (number (station n) 32 s c) _ h next e in
    let d = then_got (number (station n) 32 s o.next) _ h next o.after in
    let from-o = number-spelt (station n) 32 s c o.value o.next (omega arith) o.first in
    let to-d = number-spelt (station n) 32 s o.next d.value d.next (omega arith) d.first in
    go o.value d.value o.next.line d.next (eqb d.value o.value) refl from-o.range to-d.range
    (from-o.text ∙ ap (λ (l : List ℕ). field o.value 32 l) to-d.text)
    d.after
  where
    go : (o d p : ℕ) (m : Cursor) (b : Bool) → eqb d o ≡ b → In (station n) o → In (station n) d → from s c ≡ field o 32 (field d 32 (from s m)) →
        pick b (Parsed.bad 4 p) (Parsed.got (record { origin = o; destination = d }) m) ≡ Parsed.got h next → PathSpelt n s c h next
    go o d p m true q io id t f = let z : ◌≡◌ {A = ℕ} 0 1 = cc in absurd (omega arith)
    go o d p m false q io id t f =
        let same : ◌≡◌ {A = Path} (record { origin = o; destination = d }) h = cc in
        let end : m ≡ next = cc in
        let so : o ≡ h.origin = ap (λ (x : Path). x.origin) same in
        let sd : d ≡ h.destination = ap (λ (x : Path). x.destination) same in
        record {
          origin = rw so at io;
          destination = rw sd at id;
          apart = λ w. eqb-false d o q (sd ∙ w ∙ sym so);
          text = rw (so, sd, end) at t;
        }

pub record HeadSpelt (n : ℕ) (s : List ℕ) (c : Cursor) (h : Head) (next : Cursor) : Type 0 where
  pub origin : In (station n) h.origin
  pub destination : In (station n) h.destination
  pub apart : h.destination ≡ h.origin → ⊥
  pub earliest : In time h.earliest
  pub latest : In time h.latest
  pub weight : In weight h.weight
  pub text : from s c ≡ field h.origin 32 (field h.destination 32 (field h.earliest 32 (field h.latest 32 (field h.weight 32 (from s next)))))

pub head_spelt : (n : ℕ) (s : List ℕ) (c : Cursor) (h : Head) (next : Cursor) → head_at n s c ≡ Parsed.got h next → HeadSpelt n s c h next
unfolding head_at
head_spelt n s c h next x =
    let path = then_got (path_at n s c) _ h next x in
    let e = then_got (number time 32 s path.next) _ h next path.after in
    let l = then_got (number time 32 s e.next) _ h next e.after in
    let w = then_got (number weight 32 s l.next) _ h next l.after in
    let ends = path_spelt n s c path.value path.next path.first in
    let earliest = number-spelt time 32 s path.next e.value e.next (omega arith) e.first in
    let latest = number-spelt time 32 s e.next l.value l.next (omega arith) l.first in
    let weighs = number-spelt weight 32 s l.next w.value w.next (omega arith) w.first in
    let o = path.value.origin in
    let d = path.value.destination in
    got_is (λ x end. HeadSpelt n s c x end) w.after (record {
      origin = ends.origin;
      destination = ends.destination;
      apart = ends.apart;
      earliest = earliest.range;
      latest = latest.range;
      weight = weighs.range;
      text =
          ends.text
          ∙ ap (λ (r : List ℕ). field o 32 (field d 32 r)) earliest.text
          ∙ ap (λ (r : List ℕ). field o 32 (field d 32 (field e.value 32 r))) latest.text
          ∙ ap (λ (r : List ℕ). field o 32 (field d 32 (field e.value 32 (field l.value 32 r)))) weighs.text;
    })

pub record JourneySpelt (k : ℕ) (s : List ℕ) (c : Cursor) (j : Journey) (next : Cursor) : Type 0 where
  pub many_runs : length j.runs ≡ suc k
  pub many_stops : length j.stops ≡ k
  pub runs : Each (In run) j.runs
  pub stops : Each (In stop) j.stops
  pub text : from s c ≡ journey_text j.stops j.runs (from s next)

journey_spelt : (k : ℕ) (s : List ℕ) (c : Cursor) (j : Journey) (next : Cursor) → journey_at k s c ≡ Parsed.got j next → JourneySpelt k s c j next
unfolding journey_at
journey_spelt zero s c j next e =
    let r = then_got (number run 10 s c) _ j next e in
    let last = number-spelt run 10 s c r.value r.next (omega arith) r.first in
    got_is (λ x end. JourneySpelt 0 s c x end) r.after
    (record { many_runs = refl; many_stops = refl; runs = (last.range, tt); stops = tt; text = last.text })
journey_spelt (suc k) s c j next e =
    let r = then_got (number run 32 s c) _ j next e in
    let t = then_got (number stop 32 s r.next) _ j next r.after in
    let x = then_got (journey_at k s t.next) _ j next t.after in
    let one = number-spelt run 32 s c r.value r.next (omega arith) r.first in
    let two = number-spelt stop 32 s r.next t.value t.next (omega arith) t.first in
    let rest = journey_spelt k s t.next x.value x.next x.first in
    got_is (λ x end. JourneySpelt (suc k) s c x end) x.after (record {
      many_runs = ap suc rest.many_runs;
      many_stops = ap suc rest.many_stops;
      runs = (one.range, rest.runs);
      stops = (two.range, rest.stops);
      text =
          one.text
          ∙ ap (λ (l : List ℕ). field r.value 32 l) two.text
          ∙ ap (λ (l : List ℕ). field r.value 32 (field t.value 32 l)) rest.text;
    })

-- what is known of a train that was read: its entries beyond the path are 0
pub record TrainRead (n : ℕ) (t : Train) : Type 0 where
  pub limits : TrainWithin n t
  pub arrays : TrainArrays t
  pub tidy : tidy_train t ≡ t

tidy_is : (h : Head) (rs ts : List ℕ) → take (legs_between h.origin h.destination) (padded 11 0 rs) ≡ rs →
    take (legs_between h.origin h.destination - 1) (padded 11 0 ts) ≡ ts →
    tidy_train (train_with h (padded 11 0 rs) (padded 11 0 ts)) ≡ train_with h (padded 11 0 rs) (padded 11 0 ts)
unfolding tidy_train
tidy_is h rs ts e f = λ i. train_with h (padded 11 0 (e i)) (padded 11 0 (f i))

module _ (n : ℕ) (few : n ≤ 12) (s : List ℕ) where
  train_read : (c m : Cursor) (h : Head) (j : Journey) (end : Cursor) → HeadSpelt n s c h m →
      JourneySpelt (legs_between h.origin h.destination - 1) s m j end →
      PartSpelt (TrainRead n) train_text s c (train_with h (padded 11 0 j.runs) (padded 11 0 j.stops)) end
  train_read c m h j end a b =
      let legs = path_legs n h.origin h.destination few a.origin a.destination a.apart in
      let many : length j.runs ≡ legs_between h.origin h.destination = b.many_runs ∙ (omega (arith, legs.0)) in
      let rs : take (legs_between h.origin h.destination) (padded 11 0 j.runs) ≡ j.runs = rw many at
      (take-padded 11 0 j.runs (omega (arith, many, legs.1))) in
      let ts : take (legs_between h.origin h.destination - 1) (padded 11 0 j.stops) ≡ j.stops = rw b.many_stops at
      (take-padded 11 0 j.stops (omega (arith, b.many_stops, legs.1))) in
      record {
        valid = record {
          limits = record {
            origin = a.origin;
            destination = a.destination;
            apart = a.apart;
            earliest = a.earliest;
            latest = a.latest;
            weight = a.weight;
            runs = rw rs b.runs;
            stops = rw ts b.stops;
          };
          arrays = (padded-length 11 0 j.runs, padded-length 11 0 j.stops);
          tidy = tidy_is h j.runs j.stops rs ts;
        };
        spelt =
            a.text
            ∙ ap (λ (l : List ℕ). field h.origin 32 (field h.destination 32 (field h.earliest 32 (field h.latest 32 (field h.weight 32 l)))))
            b.text
            ∙ (rw (rs, ts) refl);
      }

  train-spelt : (c : Cursor) (t : Train) (next : Cursor) → train_line n s c ≡ Parsed.got t next →
      PartSpelt (TrainRead n) train_text s c t next
  unfolding train_line
  train-spelt c t next e =
      let h = then_got (head_at n s c) _ t next e in
      let j = then_got (journey_at (legs_between h.value.origin h.value.destination - 1) s h.next) _ t next h.after in
      got_is (λ x end. PartSpelt (TrainRead n) train_text s c x end) j.after
      (train_read c h.next h.value j.value j.next (head_spelt n s c h.value h.next h.first)
      (journey_spelt _ s h.next j.value j.next j.first))

-- ---- the sections

-- a section that was read: the entries xs of its array, each within the limits, and its text
record SectionSpelt {A : Type 0} (r : Limits) (size : ℕ) (none : A) (P : A → Type 0) (text : A → List ℕ → List ℕ) (s : List ℕ) (c : Cursor)
    (x : Section A size) (next : Cursor) : Type 0 where
  xs : List A
  range : In r x.count
  many : length xs ≡ x.count
  each : Each P xs
  array : x.entries ≡ padded size none xs
  spelt : from s c ≡ field x.count 10 (each_then text xs (from s next))

section_spelt : {A : Type 0} (r : Limits) (size : ℕ) (none : A) (P : A → Type 0) (text : A → List ℕ → List ℕ) (line : List ℕ → Cursor → Parsed A)
    (s : List ℕ) → ((c : Cursor) (x : A) (next : Cursor) → line s c ≡ Parsed.got x next → PartSpelt P text s c x next) →
    (c : Cursor) (x : Section A size) (next : Cursor) → section_at r size none line s c ≡ Parsed.got x next → SectionSpelt r size none P text s c x next
unfolding section_at
section_spelt r size none P text line s one c x next e =
    let n = then_got (number r 10 s c) _ x next e in
    let xs = then_got (lines n.value line s n.next) _ x next n.after in
    let count = number-spelt r 10 s c n.value n.next (omega arith) n.first in
    let each = many-spelt P text s (λ left. line) (λ left. one) n.value n.next xs.value xs.next xs.first in
    got_is (λ y end. SectionSpelt r size none P text s c y end) xs.after (record {
      xs = xs.value;
      range = count.range;
      many = each.many;
      each = each.valid;
      array = refl;
      spelt = count.text ∙ ap (λ (l : List ℕ). field n.value 10 l) each.spelt;
    })

-- ---- bookings

booking-spelt : (n : ℕ) (trains : List Train) (s : List ℕ) (before : Booking) (c : Cursor) (b : Booking) (next : Cursor) →
    booking_line n trains before s c ≡ Parsed.got b next → BookingWithin n trains before b × (from s c ≡ booking_text b (from s next))
unfolding booking_line
booking-spelt n trains s before c b next e =
    let i = then_got (number (train_number (length trains)) 32 s c) _ b next e in
    let p = then_got (number (station n) 32 s i.next) _ b next i.after in
    let q = pick_got (not (bookable trains before i.value p.value)) 19 i.next.line _ b next p.after in
    let m = then_got (number time 10 s p.next) _ b next q.1 in
    let train = number-spelt (train_number (length trains)) 32 s c i.value i.next (omega arith) i.first in
    let place = number-spelt (station n) 32 s i.next p.value p.next (omega arith) p.first in
    let minute = number-spelt time 10 s p.next m.value m.next (omega arith) m.first in
    let stands = (decides_bookable trains before i.value p.value).yea (not-false _ q.0) in
    got_is (λ x end. BookingWithin n trains before x × (from s c ≡ booking_text x (from s end))) m.after (
      record { train = train.range; station = place.range; order = stands.0; middle = stands.1; minute = minute.range },
      train.text
          ∙ ap (λ (l : List ℕ). field i.value 32 l) place.text
          ∙ ap (λ (l : List ℕ). field i.value 32 (field p.value 32 l)) minute.text,
    )

-- ---- lists of trains

listed-spelt : (t : ℕ) (r : Limits) (s : List ℕ) (before : Listed) (c : Cursor) (x : Listed) (next : Cursor) →
    listed_line t r before s c ≡ Parsed.got x next → ListedWithin t r before x × (from s c ≡ listed_text x (from s next))
unfolding listed_line
listed-spelt t r s before c x next e =
    let i = then_got (number (train_number t) 32 s c) _ x next e in
    let q = pick_got (not (ltb before.train i.value)) 19 c.line _ x next i.after in
    let m = then_got (number r 10 s i.next) _ x next q.1 in
    let train = number-spelt (train_number t) 32 s c i.value i.next (omega arith) i.first in
    let minutes = number-spelt r 10 s i.next m.value m.next (omega arith) m.first in
    got_is (λ y end. ListedWithin t r before y × (from s c ≡ listed_text y (from s end))) m.after (
      record { train = train.range; order = ltb-true before.train i.value (not-false _ q.0); minutes = minutes.range },
      train.text ∙ ap (λ (l : List ℕ). field i.value 32 l) minutes.text,
    )

-- ---- the sections past the third

-- a section of lines in rising order, each of which was read as its text
module _ {A : Type 0} (r : Limits) (none : A) (line : A → List ℕ → Cursor → Parsed A) (P : A → A → Type 0) (text : A → List ℕ → List ℕ) (s : List ℕ)
    (one : (before : A) (c : Cursor) (x : A) (next : Cursor) → line before s c ≡ Parsed.got x next → P before x × (from s c ≡ text x (from s next))) where
  abbrev RisingWithin : List A → Type 0
  RisingWithin xs = (length xs ≤ r.max) × EachAfter (λ before x. x) P none xs

  rising_spelt : (c : Cursor) (xs : List A) (next : Cursor) → rising_at r none line s c ≡ Parsed.got xs next →
      RisingWithin xs × (from s c ≡ counted_text text xs (from s next))
  unfolding rising_at
  rising_spelt c xs next e =
      let m = then_got (number r 10 s c) _ xs next e in
      let count = number-spelt r 10 s c m.value m.next (omega arith) m.first in
      let each = chained-spelt (λ before x. x) line P text s one m.value none m.next xs next m.after in (
        (omega (arith, each.many, count.range.1), each.valid),
        (rw each.many (count.text ∙ ap (λ (l : List ℕ). field m.value 10 l) each.spelt)),
      )

  rising_section_spelt : (c : Cursor) (xs : List A) (next : Cursor) → rising_section r none line s c ≡ Parsed.got xs next →
      RisingWithin xs × (from s c ≡ optional_text null (counted_text text) xs (from s next))
  unfolding rising_section
  rising_section_spelt c xs next e =
      optional_spelt 3 [] null refl (rising_at r none line) s RisingWithin (counted_text text) (omega arith, tt) rising_spelt c xs next e

-- of a line with these trains
further_spelt : (n : ℕ) (z : Section Train 12) (trains : List Train) → used_in z ≡ trains → (s : List ℕ) (c : Cursor) (x : Further) (next : Cursor) →
    further_at n z s c ≡ Parsed.got x next → from s next ≡ [] → FurtherWithin n z.count trains x × (from s c ≡ further_text x)
unfolding further_at
further_spelt n z trains used s c x next e end =
    let t = z.count in
    let b = then_got (booking_section n (used_in z) s c) _ x next e in
    let d = then_got (due_section t s b.next) _ x next b.after in
    let bookings = rising_section_spelt booking_count no_booking (booking_line n trains) (BookingWithin n trains) booking_text s (booking-spelt n trains s) c
    b.value b.next (ap (λ (ts : List Train). booking_section n ts s c) (sym used) ∙ b.first) in
    let dues = rising_section_spelt (newest (list_count t)) no_listed (listed_line t time) (ListedWithin t time) listed_text s (listed-spelt t time s) b.next
    d.value d.next d.first in
    got_is (λ y last. from s last ≡ [] → FurtherWithin n t trains y × (from s c ≡ further_text y)) d.after (λ none. (
      record { bookings = bookings.0; dues = dues.0 },
      bookings.1 ∙ ap (λ (l : List ℕ). optional_text null (counted_text booking_text) b.value l)
          (dues.1 ∙ ap (λ (l : List ℕ). optional_text null (counted_text listed_text) d.value l) none),
    )) end

-- the record of a line with these stations, segments and trains, and what the sections past them give
abbrev pub line_of : ℕ → List ℕ → List Segment → ℕ → List Train → Further → Line
line_of n ts gs t trs x =
    line_with n (padded 12 0 ts) (padded 11 no_segment gs) t (padded 12 no_train trs) x

-- the whole file
pub record LineRead (s : List ℕ) (l : Line) : Type 0 where
  pub n : ℕ
  pub ts : List ℕ
  pub gs : List Segment
  pub t : ℕ
  pub trs : List Train
  pub stations : In station_count n
  pub many_stations : length ts ≡ n
  pub each_station : Each (In tracks) ts
  pub many_segments : length gs ≡ n - 1
  pub each_segment : Each SegmentWithin gs
  pub trains : In train_count t
  pub many_trains : length trs ≡ t
  pub each_train : Each (TrainRead n) trs
  pub x : Further
  pub further : FurtherWithin n t trs x
  pub line : l ≡ line_of n ts gs t trs x
  pub text : s ≡ field n 10 (each_then station_text ts (field (n - 1) 10 (each_then segment_text gs (field t 10 (each_then train_text trs (further_text x))))))

-- the used entries of a section that was read
used_spelt : {A : Type 0} (size : ℕ) (none : A) (x : Section A size) (xs : List A) → length xs ≡ x.count → x.count ≤ size → x.entries ≡ padded size none xs → used_in x ≡ xs
used_spelt size none x xs many few array =
    ap (take x.count) array ∙ ap (λ (k : ℕ). take k (padded size none xs)) (sym many) ∙ take-padded size none xs (omega (arith, many))

-- the line of three sections and those past them
line_of_lem : (s : List ℕ) (x : Section ℕ 12) (y : Section Segment 11) (z : Section Train 12) (u : Further) (c c₁ c₂ c₃ : Cursor) → from s c ≡ s →
    SectionSpelt station_count 12 0 (In tracks) station_text s c x c₁ → SectionSpelt (joins x.count) 11 no_segment SegmentWithin segment_text s c₁ y c₂ →
    (d : SectionSpelt train_count 12 no_train (TrainRead x.count) train_text s c₂ z c₃) →
    FurtherWithin x.count z.count d.xs u × (from s c₃ ≡ further_text u) → LineRead s (line_from x y z u)
line_of_lem s x y z u c c₁ c₂ c₃ start a b d further =
    let n = x.count in
    let joined : y.count ≡ n - 1 = omega (arith, b.range.0, b.range.1) in
    let trains = d.spelt ∙ ap (λ (l : List ℕ). field z.count 10 (each_then train_text d.xs l)) further.1 in
    let segments = b.spelt ∙ ap (λ (k : ℕ). field k 10 (each_then segment_text b.xs (from s c₂))) joined
    ∙ ap (λ (l : List ℕ). field (n - 1) 10 (each_then segment_text b.xs l)) trains in
    record {
      n = n;
      ts = a.xs;
      gs = b.xs;
      t = z.count;
      trs = d.xs;
      stations = a.range;
      many_stations = a.many;
      each_station = a.each;
      many_segments = b.many ∙ joined;
      each_segment = b.each;
      trains = d.range;
      many_trains = d.many;
      each_train = d.each;
      x = u;
      further = further.0;
      line = λ i. line_with n (a.array i) (b.array i) z.count (d.array i) u;
      text = sym start ∙ a.spelt ∙ ap (λ (l : List ℕ). field n 10 (each_then station_text a.xs l)) segments;
    }

line_spelt : (s : List ℕ) (l : Line) (end : Cursor) → line_at s (record { at = 0; line = 1 }) ≡ Parsed.got l end → LineRead s l
unfolding line_at
line_spelt s l end e =
    let start : Cursor = record { at = 0; line = 1 } in
    let x = then_got (station_section s start) _ l end e in
    let n = x.value.count in
    let y = then_got (segment_section n s x.next) _ l end x.after in
    let z = then_got (train_section n s y.next) _ l end y.after in
    let stations = section_spelt station_count 12 0 (In tracks) station_text station_line s (station-spelt s) start x.value x.next x.first in
    let segments = section_spelt (joins n) 11 no_segment SegmentWithin segment_text segment_line s (segment-spelt s) x.next y.value y.next y.first in
    let trains = section_spelt train_count 12 no_train (TrainRead n) train_text (train_line n) s (train-spelt n stations.range.1 s) y.next z.value
    z.next z.first in
    let u = then_got (further_at n z.value s z.next) _ l end z.after in
    let used = used_spelt 12 no_train z.value trains.xs trains.many trains.range.1 trains.array in
    let done = pick_got (ltb u.next.at (length s)) 2 u.next.line _ l end u.after in
    let further = further_spelt n z.value trains.xs used s z.next u.value u.next u.first
    (drop_of_length-le s (ltb-false u.next.at (length s) done.0)) in
    got_is (λ m c. LineRead s m) done.1
    (line_of_lem s x.value y.value z.value u.value start x.next y.next z.next refl stations segments trains further)

pub file_spelt : (s : List ℕ) (l : Line) (end : Cursor) → line_file s ≡ Parsed.got l end → LineRead s l
unfolding line_file
file_spelt s l end e = line_spelt s l end (pick_got (ltb 4096 (length s)) 1 0 _ l end e).1
