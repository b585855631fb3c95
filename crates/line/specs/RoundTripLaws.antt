-- The theorems of the line file (demand 2): an accepted file written out again has the same bytes; every line within the limits can be written and
-- is read back as the same line; and so a file is accepted exactly when it is the text of a line within the limits.
use Rattle.std.specs.Prelude.{ℕ, ◌-◌, ◌≤◌, ◌≡◌, refl, Result, Ok, take}
use Rattle.std.proofs.Math.Path.{sym, ap}
use Rattle.std.proofs.Common.{◌∙◌, length-take-le}
use mathlib.Core.List.{List, [], ◌∷◌, map}
use native.Mathlib.Omega.{arith}
use Rattle.std.proofs.Math.ListN.{length, length-replicate}
use Rattle.std.proofs.lemmas.List.{length-map}
use Rattle.text.specs.declared.Cursor.{Cursor}
use Rattle.text.specs.declared.Refusal.{Refusal}
use Rattle.text.specs.Elements.Padded.{padded}
use Rattle.text.specs.Elements.PaddedLaws.{take-padded, padded-length, each_padded}
use Rattle.text.specs.Elements.EachThen.{each_then}
use Rattle.finite.specs.Each.{Each}
use Rattle.finite.specs.EachLaws.{each_map, each_take}
use Rattle.text.specs.Writing.Lend.{Spelling}
use Rattle.text.specs.Reading.Parsed.{Parsed}
use Rattle.line.specs.declared.Segment.{Segment}
use Rattle.line.specs.declared.Train.{Train}
use Rattle.line.specs.declared.Line.{Line}
use Rattle.line.specs.Ranges.{In, station_count, tracks, train_count}
use Rattle.line.specs.Record.{no_segment, no_train, no_booking, no_listed, Further, legs_of, runs_of, stops_of, tracks_of, segments_of, trains_of, bookings_of, dues_of, further_of, tidy_train, tidy_line, SameTrain, SameTrains, SameLine}
use Rattle.line.specs.File.{line_file, answered}
use Rattle.line.specs.Writing.{spelling}
use Rattle.line.specs.Spell.{field, station_text, segment_text, train_text, further_text, text_of}
use Rattle.line.specs.Within.{SegmentWithin, TrainWithin, FurtherWithin, Within, TrainArrays, Arrays}
use Rattle.line.specs.RecordLaws.{train_path}
use Rattle.line.specs.FurtherLaws.{further_text_lem}
use Rattle.line.specs.WithinLaws.{fault_none}
use Rattle.line.specs.LengthLaws.{text_fits}
use Rattle.line.specs.AcceptedLaws.{TrainRead, LineRead, line_of, file_spelt}
use Rattle.line.specs.ReadableLaws.{text_reads}

-- ---- a line that was read

-- the used entries of a record are those that were laid into it
module _ (n : ℕ) (ts : List ℕ) (gs : List Segment) (t : ℕ) (trs : List Train) (x : Further) (few : n ≤ 12) (some : t ≤ 12) (a : length ts ≡ n) (b : length gs ≡ n - 1)
    (c : length trs ≡ t) (d : FurtherWithin n t trs x) where
  stations_used : tracks_of (line_of n ts gs t trs x) ≡ ts
  stations_used = rw a at (take-padded 12 0 ts (omega (arith, a)))

  segments_used : segments_of (line_of n ts gs t trs x) ≡ gs
  segments_used = rw b at (take-padded 11 no_segment gs (omega (arith, b)))

  trains_used : trains_of (line_of n ts gs t trs x) ≡ trs
  trains_used = rw c at (take-padded 12 no_train trs (omega (arith, c)))

  further_used : further_of (line_of n ts gs t trs x) ≡ x
  further_used =
      let bookings = take-padded 120 no_booking x.bookings d.bookings.0 in
      let dues = take-padded 12 no_listed x.dues (omega (arith, d.dues.0, some)) in
      λ i. record { bookings = bookings i; dues = dues i }

tidy_trains : (n : ℕ) (trs : List Train) → Each (TrainRead n) trs → map tidy_train trs ≡ trs
tidy_trains n [] v = refl
tidy_trains n (t ∷ trs) v = λ i. v.0.tidy i ∷ tidy_trains n trs v.1 i

-- ---- the tidied record is the same line

same-train : (n : ℕ) → n ≤ 12 → (t : Train) → TrainWithin n t → TrainArrays t → SameTrain (tidy_train t) t
unfolding tidy_train
same-train n few t w a =
    let legs = train_path n few t w in
    let runs = length-take-le (legs_of t) t.runs (omega (arith, legs.1, a.0)) in
    let stops = length-take-le (legs_of t - 1) t.stops (omega (arith, legs.1, a.1)) in
    record {
      origin = refl;
      destination = refl;
      earliest = refl;
      latest = refl;
      weight = refl;
      runs = rw runs at (take-padded 11 0 (runs_of t) (omega (arith, runs, legs.1)));
      stops = rw stops at (take-padded 11 0 (stops_of t) (omega (arith, stops, legs.1)));
    }

same_trains : (n : ℕ) → n ≤ 12 → (ts : List Train) → Each (TrainWithin n) ts → Each TrainArrays ts → SameTrains (map tidy_train ts) ts
same_trains n few [] w a = tt
same_trains n few (t ∷ ts) w a = (same-train n few t w.0 a.0, same_trains n few ts w.1 a.1)

same_tidy : (l : Line) → Within l → Arrays l → SameLine (tidy_line l) l
unfolding tidy_line
same_tidy l w a =
    let stations = length-take-le l.track.station_count l.track.tracks (omega (arith, w.stations.1, a.tracks)) in
    let segments = length-take-le (l.track.station_count - 1) l.track.segments (omega (arith, w.stations.1, a.segments)) in
    let many : length (map tidy_train (trains_of l)) ≡ l.traffic.train_count = length-map (trains_of l) tidy_train
    ∙ length-take-le l.traffic.train_count l.traffic.trains (omega (arith, w.trains.1, a.trains)) in
    let trains : take l.traffic.train_count (padded 12 no_train (map tidy_train (trains_of l))) ≡ map tidy_train (trains_of l) = rw many at
    (take-padded 12 no_train (map tidy_train (trains_of l)) (omega (arith, many, w.trains.1))) in
    record {
      stations = refl;
      tracks = rw stations at (take-padded 12 0 (tracks_of l) (omega (arith, stations, w.stations.1)));
      segments = rw segments at (take-padded 11 no_segment (segments_of l) (omega (arith, segments, w.stations.1)));
      trains = refl;
      each_train =
          rw trains (same_trains l.track.station_count w.stations.1 (trains_of l) w.each_train
          (each_take TrainArrays l.traffic.train_count l.traffic.trains a.each_train));
      bookings =
          take-padded 120 no_booking (bookings_of l)
          (omega (arith, length-take-le l.booked.booking_count l.booked.bookings (omega (arith, w.bookings.1, a.bookings)), w.bookings.1));
      dues =
          take-padded 12 no_listed (dues_of l)
          (omega (arith, length-take-le l.dues.count l.dues.listed (omega (arith, w.dues.1, w.trains.1, a.dues)), w.dues.1, w.trains.1));
    }

-- ---- what is known of a line that was read

pub record ReadFrom (s : List ℕ) (l : Line) : Type 0 where
  pub limits : Within l
  pub arrays : Arrays l
  pub tidy : tidy_line l ≡ l
  pub text : text_of l ≡ s

pub spelling_text : (l : Line) → Within l → spelling l ≡ Spelling.text (text_of l)
unfolding spelling
spelling_text l w = rw (fault_none l w) refl

pub record Got (r : Parsed Line) (l : Line) : Type 0 where
  pub end : Cursor
  pub got : r ≡ Parsed.got l end

-- the record with these entries, once its used entries are known
module _ (s : List ℕ) (n : ℕ) (ts : List ℕ) (gs : List Segment) (t : ℕ) (trs : List Train) (x : Further) where
  abbrev made : Line
  made = line_of n ts gs t trs x

  abbrev text_with : List ℕ → List Segment → List Train → Further → List ℕ
  text_with us hs us' u = field n 10 (each_then station_text us (field (n - 1) 10 (each_then segment_text hs (field t 10 (each_then train_text us' (further_text u))))))

  line_of_read : In station_count n → In train_count t → Each (In tracks) ts → Each SegmentWithin gs → Each (TrainRead n) trs → FurtherWithin n t trs x →
      tracks_of made ≡ ts → segments_of made ≡ gs → trains_of made ≡ trs → further_of made ≡ x → s ≡ text_with ts gs trs x → ReadFrom s made
  unfolding text_of tidy_line
  line_of_read i j a b c d p q r v e = record {
    limits = record {
      stations = i;
      tracks = rw p a;
      segments = rw q b;
      trains = j;
      each_train = rw r (each_map (TrainRead n) (TrainWithin n) (λ x y. y.limits) trs c);
      bookings = (omega arith, d.bookings.0);
      each_booking = rw (r, ap (λ (u : Further). u.bookings) v) d.bookings.1;
      dues = (omega arith, d.dues.0);
      each_due = rw (ap (λ (u : Further). u.dues) v) d.dues.1;
    };
    arrays = record {
      tracks = padded-length 12 0 ts;
      segments = padded-length 11 no_segment gs;
      trains = padded-length 12 no_train trs;
      each_train =
          each_padded TrainArrays 12 no_train trs (length-replicate {A = ℕ} 11 0, length-replicate {A = ℕ} 11 0)
          (each_map (TrainRead n) TrainArrays (λ x y. y.arrays) trs c);
      bookings = padded-length 120 no_booking x.bookings;
      dues = padded-length 12 no_listed x.dues;
    };
    tidy =
        ap (λ (y : List ℕ). line_of n y (segments_of made) t (map tidy_train (trains_of made)) (further_of made)) p
        ∙ ap (λ (y : List Segment). line_of n ts y t (map tidy_train (trains_of made)) (further_of made)) q
        ∙ ap (λ (y : List Train). line_of n ts gs t (map tidy_train y) (further_of made)) r
        ∙ ap (λ (y : List Train). line_of n ts gs t y (further_of made)) (tidy_trains n trs c)
        ∙ ap (λ (y : Further). line_of n ts gs t trs y) v;
    text =
        ap (λ (y : List ℕ). field n 10 (each_then station_text (tracks_of made) (field (n - 1) 10 (each_then segment_text (segments_of made)
        (field t 10 (each_then train_text (trains_of made) y))))))
        (further_text_lem made (ap (λ (u : Further). length u.bookings) v) (ap (λ (u : Further). length u.dues) v))
        ∙ ap (λ (y : List ℕ). text_with y (segments_of made) (trains_of made) (further_of made)) p
        ∙ ap (λ (y : List Segment). text_with ts y (trains_of made) (further_of made)) q
        ∙ ap (λ (y : List Train). text_with ts gs y (further_of made)) r
        ∙ ap (λ (y : Further). text_with ts gs trs y) v
        ∙ sym e;
  }

line_read : (s : List ℕ) (l : Line) → LineRead s l → ReadFrom s l
line_read s l r =
    let a = stations_used r.n r.ts r.gs r.t r.trs r.x r.stations.1 r.trains.1 r.many_stations r.many_segments r.many_trains r.further in
    let b = segments_used r.n r.ts r.gs r.t r.trs r.x r.stations.1 r.trains.1 r.many_stations r.many_segments r.many_trains r.further in
    let c = trains_used r.n r.ts r.gs r.t r.trs r.x r.stations.1 r.trains.1 r.many_stations r.many_segments r.many_trains r.further in
    let d = further_used r.n r.ts r.gs r.t r.trs r.x r.stations.1 r.trains.1 r.many_stations r.many_segments r.many_trains r.further in
    rw r.line (line_of_read s r.n r.ts r.gs r.t r.trs r.x r.stations r.trains r.each_station r.each_segment r.each_train
    r.further a b c d r.text)

-- ---- the answer of `read`

-- accepted with the line l
abbrev pub Accepts : List ℕ → Line → Type 0
Accepts s l = answered (line_file s) ≡ Ok l

pub accepted_got : (l : Line) (r : Parsed Line) → answered r ≡ Ok l → Got r l
accepted_got l (Parsed.got m c) e = let q : m ≡ l = cc in record { end = c; got = ap (λ (x : Line). Parsed.got x c) q }
accepted_got l (Parsed.bad n p) e = absurd (cc)

pub accepts_read : (s : List ℕ) (l : Line) → Accepts s l → ReadFrom s l
accepts_read s l e =
    let g = accepted_got l (line_file s) e in
    line_read s l (file_spelt s l g.end g.got)

-- the same of what the code answers
pub accepted_read : (s : List ℕ) {l : Line} → ◌≡◌ {A = Result Line Refusal} (Ok l) (answered (line_file s)) → ReadFrom s l
accepted_read s {l} is = accepts_read s l (sym is)

-- ---- the theorems

-- An accepted file written out again has the same bytes.
pub rewritten : (s : List ℕ) (l : Line) → Accepts s l → spelling l ≡ Spelling.text s
rewritten s l e =
    let r = accepts_read s l e in
    spelling_text l r.limits ∙ ap Spelling.text r.text

-- Every line within the limits can be written, in at most 4,096 bytes, and is read back as the same line.
pub record ReadBack (l : Line) : Type 0 where
  pub written : spelling l ≡ Spelling.text (text_of l)
  pub fits : length (text_of l) ≤ 4096
  pub read : Accepts (text_of l) (tidy_line l)
  pub same : SameLine (tidy_line l) l

pub read_back : (l : Line) → Arrays l → Within l → ReadBack l
read_back l a w =
    let r = text_reads l w a (text_fits l w) in
    record {
      written = spelling_text l w;
      fits = text_fits l w;
      read = ap answered r.reads;
      same = same_tidy l w a;
    }

-- So a file is accepted exactly when it is the text of a line within the limits.
pub record TextOf (s : List ℕ) : Type 0 where
  pub line : Line
  pub arrays : Arrays line
  pub limits : Within line
  pub text : text_of line ≡ s

pub accepted_is_text : (s : List ℕ) (l : Line) → Accepts s l → TextOf s
accepted_is_text s l e =
    let r = accepts_read s l e in
    record { line = l; arrays = r.arrays; limits = r.limits; text = r.text }

pub text_is_accepted : (s : List ℕ) (t : TextOf s) → Accepts s (tidy_line t.line)
text_is_accepted s t = rw t.text at (read_back t.line t.arrays t.limits).read

-- Entries beyond a count are 0 after reading.
pub read_tidy : (s : List ℕ) (l : Line) → Accepts s l → tidy_line l ≡ l
read_tidy s l e = (accepts_read s l e).tidy
