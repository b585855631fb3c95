-- Laws of the file in two parts: how each part is refused or read, and that the two, the second begun where the first ended, are the file.
use Rattle.std.specs.Prelude.{ℕ, ◌≤◌, ◌<◌, ◌≡◌, List, length}
use Rattle.std.proofs.Math.Path.{refl}
use Rattle.std.proofs.Common.{sym, ap, ◌∙◌, subst, arith}
use Rattle.std.proofs.Math.Decide.{dec_le}
use borrow.Author.Tests.{lt-ltb, le-ltb}
use Rattle.text.specs.declared.Cursor.{Cursor}
use Rattle.text.specs.Reading.Parsed.{Parsed, then_read}
use Rattle.text.specs.Places.Lines.{Counted, AnyNumber, HoldsOn}
use Rattle.text.proofs.Places.LinesLaws.{keeps_counted}
use Rattle.line.specs.declared.Segment.{Segment}
use Rattle.line.specs.declared.Track.{Track}
use Rattle.line.specs.declared.Train.{Train}
use Rattle.line.specs.declared.reading.Section.{Section}
use Rattle.line.specs.Record.{Further, track_with, traffic_with, booked_with, list_with}
use Rattle.line.specs.File.{station_section, segment_section, train_section, further_at, line_at, line_file}
use Rattle.line.specs.SectionLaws.{section_range, file_long, file_short}
use Rattle.line.specs.PlaceLaws.{any_line_number, stands_stations, stands_segments}
use Rattle.line.specs.Parts.{track_at, completed_at, track_from, end_of, completed_from, CanComplete}

-- ---- the stations and segments

pub track_long : (s : List ℕ) (i : ℕ) → 4096 < length s → track_from s i ≡ Parsed.bad 1 0
unfolding track_from
track_long s i long = rw (lt-ltb 4096 (length s) long) refl

module _ (s : List ℕ) (i : ℕ) (short : length s ≤ 4096) where
  abbrev start : Cursor
  start = record { at = i; line = 1 }

  track_short : track_from s i ≡ track_at s start
  unfolding track_from
  track_short = rw (le-ltb 4096 (length s) short) refl

  pub no_stations : {m q : ℕ} → station_section s start ≡ Parsed.bad m q → track_from s i ≡ Parsed.bad m q
  unfolding track_at
  no_stations e = track_short ∙ rw e refl

  module _ {x : Section ℕ 12} {c₁ : Cursor} (stations : station_section s start ≡ Parsed.got x c₁) where
    pub no_segments : {m q : ℕ} → segment_section x.count s c₁ ≡ Parsed.bad m q → track_from s i ≡ Parsed.bad m q
    unfolding track_at
    no_segments e = track_short ∙ rw (stations, e) refl

    pub track_read : {y : Section Segment 11} {c₂ : Cursor} → segment_section x.count s c₁ ≡ Parsed.got y c₂ →
        track_from s i ≡ Parsed.got (track_with x.count x.entries y.entries) c₂
    unfolding track_at
    track_read e = track_short ∙ rw (stations, e) refl

-- ---- the trains and the sections past them

module _ (t : Track) (s : List ℕ) (c : Cursor) where
  pub no_trains : {m q : ℕ} → train_section t.station_count s c ≡ Parsed.bad m q → completed_at t s c ≡ Parsed.bad m q
  unfolding completed_at
  no_trains e = rw e refl

  module _ {z : Section Train 12} {c₁ : Cursor} (trains : train_section t.station_count s c ≡ Parsed.got z c₁) where
    pub no_further : {m q : ℕ} → further_at t.station_count z s c₁ ≡ Parsed.bad m q → completed_at t s c ≡ Parsed.bad m q
    unfolding completed_at
    no_further e = rw (trains, e) refl

    module _ {x : Further} {c₂ : Cursor} (further : further_at t.station_count z s c₁ ≡ Parsed.got x c₂) where
      pub bytes_after : c₂.at < length s → completed_at t s c ≡ Parsed.bad 2 c₂.line
      unfolding completed_at
      bytes_after more = rw (trains, further, lt-ltb c₂.at (length s) more) refl

      pub track_completed : length s ≤ c₂.at →
          completed_at t s c ≡ Parsed.got
          (record { track = t; traffic = traffic_with z.count z.entries; booked = booked_with x.bookings; dues = list_with x.dues }) c₂
      unfolding completed_at
      track_completed done = rw (trains, further, le-ltb c₂.at (length s) done) refl

-- ---- the file is its two parts

-- one after the other and a third, either way
then_then : {A B C : Type 0} (a : Parsed A) (f : A → Cursor → Parsed B) (g : B → Cursor → Parsed C) →
    then_read (then_read a f) g ≡ then_read a (λ x c. then_read (f x c) g)
then_then (Parsed.got x c) f g = refl
then_then (Parsed.bad n p) f g = refl

-- with what gives the same after it
then_same : {A B : Type 0} (a : Parsed A) (f g : A → Cursor → Parsed B) → ((x : A) (c : Cursor) → f x c ≡ g x c) → then_read a f ≡ then_read a g
then_same (Parsed.got x c) f g h = h x c
then_same (Parsed.bad n p) f g h = refl

-- the sections in their order, where the first two have been read into a track
line_in_parts : (s : List ℕ) (c : Cursor) → then_read (track_at s c) (λ t c₁. completed_at t s c₁) ≡ line_at s c
unfolding line_at track_at completed_at
line_in_parts s c =
    then_then (station_section s c) _ _
    ∙ then_same (station_section s c) _ _ (λ x c₁. then_then (segment_section x.count s c₁) _ _)

-- the second part begun where the first ended
parts_joined : (s : List ℕ) (i : ℕ) (p : Parsed Track) → completed_from s (end_of i p) p ≡ then_read p (λ t c. completed_at t s c)
parts_joined s i (Parsed.got t c) = refl
parts_joined s i (Parsed.bad n q) = refl

pub file_in_parts : (s : List ℕ) → completed_from s (end_of 0 (track_from s 0)) (track_from s 0) ≡ line_file s
file_in_parts s = elim (dec_le (length s) 4096) [
  | yes short ↦ (
      let first = track_short s 0 short in
      parts_joined s 0 (track_from s 0) ∙ ap (λ (p : Parsed Track). then_read p (λ t c. completed_at t s c)) first
      ∙ line_in_parts s (record { at = 0; line = 1 }) ∙ sym (file_short s short))
  | no long ↦ (
      let more : 4096 < length s = omega arith in
      ap (λ (p : Parsed Track). completed_from s (end_of 0 p) p) (track_long s 0 more) ∙ sym (file_long s more))
]

-- ---- the second part can begin where the first ended

can_complete_at : (s : List ℕ) (c : Cursor) (i : ℕ) → Counted c → CanComplete (end_of i (track_at s c)) (track_at s c)
unfolding track_at
can_complete_at s c i h = after (station_section s c) refl (stands_stations s Counted (keeps_counted s) AnyNumber any_line_number c h)
  where
    joined : (x : Section ℕ 12) → x.count ≤ 12 → (b : Parsed (Section Segment 11)) → HoldsOn Counted AnyNumber b →
        let whole : Parsed Track = then_read b (λ y c₂. Parsed.got (track_with x.count x.entries y.entries) c₂) in CanComplete (end_of i whole) whole
    joined x most (Parsed.got y c₂) k = (most, k)
    joined x most (Parsed.bad n p) k = tt

    after : (a : Parsed (Section ℕ 12)) → station_section s c ≡ a → HoldsOn Counted AnyNumber a →
        let whole : Parsed Track = then_read a (λ x c₁. then_read (segment_section x.count s c₁)
        (λ y c₂. Parsed.got (track_with x.count x.entries y.entries) c₂)) in CanComplete (end_of i whole) whole
    after (Parsed.got x c₁) e k =
        joined x (section_range _ _ _ _ s c x c₁ e).1 (segment_section x.count s c₁)
        (stands_segments s Counted (keeps_counted s) AnyNumber any_line_number x.count c₁ k)
    after (Parsed.bad n p) e k = tt

pub can_complete : (s : List ℕ) (i : ℕ) → CanComplete (end_of i (track_from s i)) (track_from s i)
can_complete s i = elim (dec_le (length s) 4096) [
  | yes short ↦ subst (λ (p : Parsed Track). CanComplete (end_of i p) p) (sym (track_short s i short)) (can_complete_at s (record { at = i; line = 1 }) i (record { fits = omega arith }))
  | no long ↦ subst (λ (p : Parsed Track). CanComplete (end_of i p) p) (sym (track_long s i (omega arith))) tt
]

-- ---- for the reader's code

module _ (s : List ℕ) where
  -- the first part as it was told, and the file
  pub file_refused : {n p : ℕ} → Parsed.bad n p ≡ track_from s 0 → Parsed.bad n p ≡ line_file s
  file_refused is = ap (λ (x : Parsed Track). completed_from s (end_of 0 x) x) is ∙ file_in_parts s

  pub file_completed : {t : Track} {c : Cursor} → Parsed.got t c ≡ track_from s 0 → completed_at t s c ≡ line_file s
  file_completed is = ap (λ (x : Parsed Track). completed_from s (end_of 0 x) x) is ∙ file_in_parts s

  pub can_complete_after : {t : Track} {c : Cursor} → Parsed.got t c ≡ track_from s 0 → (t.station_count ≤ 12) × Counted c
  can_complete_after is = subst (λ (x : Parsed Track). CanComplete (end_of 0 x) x) (sym is) (can_complete s 0)

  pub told_can_complete : (p : Parsed Track) → p ≡ track_from s 0 → CanComplete (end_of 0 p) p
  told_can_complete (Parsed.got t c) is = can_complete_after is
  told_can_complete (Parsed.bad n q) is = tt

  pub told_in_parts : (p : Parsed Track) → p ≡ track_from s 0 → completed_from s (end_of 0 p) p ≡ line_file s
  told_in_parts (Parsed.got t c) is = file_completed is
  told_in_parts (Parsed.bad n q) is = file_refused is
