-- The texts of a line in parts: each part is its own text and then what follows it, so that parts written one after the other are the whole.
use Rattle.std.specs.Prelude.{ℕ, suc, ◌+◌, ◌-◌, ◌≤◌, ◌<◌, ◌≡◌, refl, Bool, true, false, ◌&&◌, length, get_or, take, drop}
use Rattle.std.proofs.Common.{sym, ◌∙◌, arith, add-one, length-append, drop-cons, drop_of_length-le, get_or-drop, drop-drop, get_or-take, length-take-le}
use Rattle.std.proofs.Math.Path.{ap}
use Rattle.std.proofs.Math.Bool.{and-true}
use mathlib.Core.List.{List, [], ◌∷◌, ◌++◌, append_assoc, append-nil}
use Rattle.text.specs.Reading.Choice.{pick}
use Rattle.text.specs.Writing.Digits.{digits, field_text}
use Rattle.text.specs.Writing.Splice.{Put}
use Rattle.text.specs.Writing.SpliceLaws.{Putting, putting_step, putting_room, putting_end}
use Rattle.text.specs.Elements.EachThen.{each_then}
use Rattle.text.specs.Elements.LeftLaws.{left_cons, left_none}
use Rattle.text.specs.Sections.Chained.{nothing, optional_text}
use Rattle.text.proofs.Sections.ChainedLaws.{optional_parts, optional_nothing}
use Rattle.line.specs.declared.Segment.{Segment}
use Rattle.line.specs.declared.Train.{Train}
use Rattle.line.specs.declared.Booking.{Booking}
use Rattle.line.specs.declared.Booked.{Booked}
use Rattle.line.specs.declared.Listed.{Listed}
use Rattle.line.specs.declared.TrainList.{TrainList}
use Rattle.line.specs.declared.Line.{Line}
use Rattle.line.specs.Record.{tracks_of, segments_of, trains_of, stops_of, runs_of}
use Rattle.line.specs.Spell.{field, station_text, segment_text, journey_text, head_text, train_text, booking_text, listed_text, array_text, booked_text, unbooked, train_list_text, unlisted, dues_text, text_of, letter_byte}

-- ---- each part, and then what follows it

pub station_then : (t : ℕ) (rest : List ℕ) → station_text t rest ≡ station_text t [] ++ rest
station_then t rest = simp append_assoc

pub segment_then : (g : Segment) (rest : List ℕ) → segment_text g rest ≡ segment_text g [] ++ rest
segment_then g rest = simp append_assoc

head_then : (t : Train) (rest : List ℕ) → head_text t rest ≡ head_text t [] ++ rest
head_then t rest = simp append_assoc

journey_then : (ts rs rest : List ℕ) → journey_text ts rs rest ≡ journey_text ts rs [] ++ rest
journey_then [] rs rest = simp append_assoc
journey_then (t ∷ ts) rs rest = simp (append_assoc, journey_then ts (drop 1 rs) rest)

pub train_then : (t : Train) (rest : List ℕ) → train_text t rest ≡ train_text t [] ++ rest
train_then t rest =
    ap (λ (l : List ℕ). head_text t l) (journey_then (stops_of t) (runs_of t) rest)
    ∙ (simp append_assoc)

pub booking_then : (b : Booking) (rest : List ℕ) → booking_text b rest ≡ booking_text b [] ++ rest
booking_then b rest = simp append_assoc

pub listed_then : (x : Listed) (rest : List ℕ) → listed_text x rest ≡ listed_text x [] ++ rest
listed_then x rest = simp append_assoc

module _ {A : Type 0} (text : A → List ℕ → List ℕ) (parts : (x : A) (rest : List ℕ) → text x rest ≡ text x [] ++ rest) where
  pub each_then_lem : (xs : List A) (rest : List ℕ) → each_then text xs rest ≡ each_then text xs [] ++ rest
  each_then_lem [] rest = refl
  each_then_lem (x ∷ xs) rest =
      parts x (each_then text xs rest)
      ∙ ap (λ (l : List ℕ). text x [] ++ l) (each_then_lem xs rest)
      ∙ sym (append_assoc (text x []) (each_then text xs []) rest)
      ∙ ap (λ (l : List ℕ). l ++ rest) (sym (parts x (each_then text xs [])))

  -- ---- the entries of which those before i are written, x is the next, and what is written with the others is the whole

  module _ (xs : List A) (i : ℕ) (now whole : List ℕ) (left : now ++ each_then text (drop i xs) [] ≡ whole) where
    pub each_next : (x d : A) → x ≡ get_or xs i d → i < length xs → (now ++ text x []) ++ each_then text (drop (i + 1) xs) [] ≡ whole
    each_next x d is h =
        append_assoc now (text x []) (each_then text (drop (i + 1) xs) [])
        ∙ ap (λ (l : List ℕ). now ++ l) (sym (parts x (each_then text (drop (i + 1) xs) [])))
        ∙ ap (λ (ys : List A). now ++ each_then text ys []) (ap (λ (y : A). y ∷ drop (i + 1) xs) is ∙ rest)
        ∙ left
      where
        rest : get_or xs i d ∷ drop (i + 1) xs ≡ drop i xs
        rest = rw (add-one i) (sym (drop-cons xs i d h))

    pub each_fits : (x d : A) → x ≡ get_or xs i d → i < length xs → length now + length (text x []) ≤ length whole
    each_fits x d is h =
        omega (arith, ap length (each_next x d is h), length-append (now ++ text x []) (each_then text (drop (i + 1) xs) []), length-append now (text x []))

    pub each_end : length xs ≤ i → now ≡ whole
    each_end h = sym (append-nil now) ∙ ap (λ (ys : List A). now ++ each_then text ys []) (sym (drop_of_length-le xs h)) ∙ left

  -- ---- a part for each of the first n elements, of which i are written

  module _ (n : ℕ) (xs : List A) (i : ℕ) (full : n ≤ length xs) where
    -- the lines yet to write: that of element i, and the others
    step : (d : A) → i < n → each_then text (drop i (take n xs)) [] ≡ text (get_or xs i d) [] ++ each_then text (drop (i + 1) (take n xs)) []
    step d h =
        ap (λ (l : List A). each_then text l []) (left_cons n xs i (length-take-le n xs full) d h)
        ∙ parts (get_or xs i d) (each_then text (drop (i + 1) (take n xs)) [])

    module _ {entry : List ℕ} {start : ℕ} {whole now : List ℕ} {at : ℕ}
        (putting : Putting entry start whole now at (each_then text (drop i (take n xs)) [])) where
      pub each_room : (d : A) → i < n → start + length whole ≤ length entry → at + length (text (get_or xs i d) []) ≤ length now
      each_room d h fits = putting_room (text (get_or xs i d) []) (each_then text (drop (i + 1) (take n xs)) []) putting (step d h) fits

      pub each_put : {then : List ℕ} {next : ℕ} (d : A) → i < n → Put now then at (text (get_or xs i d) []) next →
          Putting entry start whole then next (each_then text (drop (i + 1) (take n xs)) [])
      each_put d h put = putting_step (each_then text (drop (i + 1) (take n xs)) []) putting (step d h) put

      pub each_put_end : i ≡ n → Put entry now start whole at
      each_put_end e = putting_end putting (ap (λ (l : List A). each_then text l []) (left_none n xs i (length-take-le n xs full) e))

-- ---- the runs and stops of a path, of which k of each are written

module _ (runs stops : List ℕ) (legs k : ℕ) (full : legs - 1 ≤ length stops) where
  abbrev left : ℕ → List ℕ
  left j = journey_text (drop j (take (legs - 1) stops)) (drop j (take legs runs)) []

  abbrev leg : List ℕ
  leg = field_text (get_or runs k 0) 32 ++ field_text (get_or stops k 0) 32

  run_at : k < legs → get_or (drop k (take legs runs)) 0 0 ≡ get_or runs k 0
  run_at h =
      let at : k + 0 ≡ k = omega arith in
      get_or-drop k (take legs runs) 0 0 ∙ ap (λ (i : ℕ). get_or (take legs runs) i 0) at ∙ get_or-take legs runs k 0 h

  -- a run, a stop, and the others
  next-leg : k + 1 < legs → left k ≡ leg ++ left (k + 1)
  next-leg h =
      ap (λ (l : List ℕ). journey_text l (drop k (take legs runs)) []) (left_cons (legs - 1) stops k (length-take-le (legs - 1) stops full) 0 (omega arith))
      ∙ (rw (run_at (omega arith), drop-drop 1 k (take legs runs)) (simp append_assoc))

  -- the last run
  last_leg : k + 1 ≡ legs → left k ≡ field_text (get_or runs k 0) 10
  last_leg e =
      let none : drop k (take (legs - 1) stops) ≡ [] = left_none (legs - 1) stops k (length-take-le (legs - 1) stops full) (omega arith) in
      rw (none, run_at (omega arith)) refl

  module _ {entry : List ℕ} {start : ℕ} {whole now : List ℕ} {at : ℕ} (putting : Putting entry start whole now at (left k)) where
    pub journey_room : k + 1 < legs → start + length whole ≤ length entry →
        at + (length (field_text (get_or runs k 0) 32) + length (field_text (get_or stops k 0) 32)) ≤ length now
    journey_room h fits = rw length-append at (putting_room leg (left (k + 1)) putting (next-leg h) fits)

    pub journey_put : {then : List ℕ} {next : ℕ} → k + 1 < legs → Put now then at leg next → Putting entry start whole then next (left (k + 1))
    journey_put h put = putting_step (left (k + 1)) putting (next-leg h) put

    pub journey_last_room : k + 1 ≡ legs → start + length whole ≤ length entry → at + length (field_text (get_or runs k 0) 10) ≤ length now
    journey_last_room e fits = omega (arith, putting.next, putting.size, ap length (last_leg e))

    pub journey_end : {then : List ℕ} {next : ℕ} → k + 1 ≡ legs → Put now then at (field_text (get_or runs k 0) 10) next → Put entry then start whole next
    journey_end e put = putting_end (putting_step [] putting (last_leg e ∙ sym (append-nil (field_text (get_or runs k 0) 10))) put) refl

-- ---- what calls write one after the other, and its size

module _ (g : Segment) where
  pub segment-parts : segment_text g [] ≡ (letter_byte g.kind ∷ []) ++ ((32 ∷ []) ++ (field_text g.following 32 ++ field_text g.opposing 10))
  segment-parts = simp append_assoc

  pub segment_size : length (segment_text g []) ≡ suc (suc (length (field_text g.following 32) + length (field_text g.opposing 10)))
  segment_size = ap length segment-parts ∙ (rw (length-append (field_text g.following 32)) refl)

module _ (t : Train) where
  pub head_parts : head_text t [] ≡ field_text t.origin 32
      ++ (field_text t.destination 32 ++ (field_text t.earliest 32 ++ (field_text t.latest 32 ++ field_text t.weight 32)))
  head_parts = simp append_assoc

  pub head_size : length (head_text t []) ≡ length (field_text t.origin 32)
      + (length (field_text t.destination 32)
      + (length (field_text t.earliest 32) + (length (field_text t.latest 32) + length (field_text t.weight 32))))
  head_size =
      ap length head_parts
      ∙ (rw (
        length-append (field_text t.origin 32),
        length-append (field_text t.destination 32),
        length-append (field_text t.earliest 32),
        length-append (field_text t.latest 32),
      ) refl)

  pub train-parts : train_text t [] ≡ head_text t [] ++ journey_text (stops_of t) (runs_of t) []
  train-parts = head_then t (journey_text (stops_of t) (runs_of t) [])

  pub train_size : length (train_text t []) ≡ length (head_text t []) + length (journey_text (stops_of t) (runs_of t) [])
  train_size = ap length train-parts ∙ length-append (head_text t []) (journey_text (stops_of t) (runs_of t) [])

module _ (b : Booking) where
  pub booking-parts : booking_text b [] ≡ field_text b.train 32 ++ (field_text b.station 32 ++ field_text b.minute 10)
  booking-parts = simp append_assoc

  pub booking_size : length (booking_text b []) ≡ length (field_text b.train 32) + (length (field_text b.station 32) + length (field_text b.minute 10))
  booking_size = ap length booking-parts ∙ (rw (length-append (field_text b.train 32), length-append (field_text b.station 32)) refl)

module _ (x : Listed) where
  pub listed-parts : listed_text x [] ≡ field_text x.train 32 ++ field_text x.minutes 10
  listed-parts = simp append_assoc

  pub listed_size : length (listed_text x []) ≡ length (field_text x.train 32) + length (field_text x.minutes 10)
  listed_size = ap length listed-parts ∙ length-append (field_text x.train 32) (field_text x.minutes 10)

-- ---- the same of what is written with the others the whole

module _ (runs stops : List ℕ) (k : ℕ) (now whole : List ℕ) (left : now ++ journey_text (drop k stops) (drop k runs) [] ≡ whole) where
  next_run : get_or (drop k runs) 0 0 ≡ get_or runs k 0
  next_run = get_or-drop k runs 0 0 ∙ ap (λ (i : ℕ). get_or runs i 0) (omega arith)

  pub leg_fits : k < length stops → length now + (length (field_text (get_or runs k 0) 32) + length (field_text (get_or stops k 0) 32)) ≤ length whole
  leg_fits h =
      let others = journey_text (drop (suc k) stops) (drop 1 (drop k runs)) [] in
      let parts : now ++ field (get_or runs k 0) 32 (field (get_or stops k 0) 32 others) ≡ whole = rw (← next_run)
      (ap (λ (ts : List ℕ). now ++ journey_text ts (drop k runs) []) (sym (drop-cons stops k 0 h)) ∙ left) in
      simp length-append (omega (arith, simp length-append at (ap length parts)))

  pub last_fits : length stops ≤ k → length now + length (field_text (get_or runs k 0) 10) ≤ length whole
  last_fits h =
      let parts : now ++ field (get_or runs k 0) 10 [] ≡ whole = rw (← next_run)
      (ap (λ (ts : List ℕ). now ++ journey_text ts (drop k runs) []) (sym (drop_of_length-le stops h)) ∙ left) in
      simp length-append (omega (arith, simp length-append at (ap length parts)))

-- ---- a section of the first n elements of an array, which is left off or written

pub field-some : (n b : ℕ) (rest : List ℕ) → field n b rest ≡ [] → ⊥
field-some n b rest e = omega (arith, ap length e, length-append (digits n) (b ∷ rest))

module _ {A : Type 0} (text : A → List ℕ → List ℕ) (n : ℕ) (xs : List A) where
  pub section_then : ((x : A) (rest : List ℕ) → text x rest ≡ text x [] ++ rest) → (rest : List ℕ) → array_text text n xs rest ≡ array_text text n xs [] ++ rest
  section_then parts rest = ap (λ (l : List ℕ). digits n ++ (10 ∷ l)) (each_then_lem text parts (take n xs) rest) ∙ (simp append_assoc)

  abbrev lines_part : List ℕ
  lines_part = each_then text (take n xs) []

  module _ {off : Bool} where
    pub section_off : (entry : List ℕ) (start : ℕ) → off ≡ true → Put entry entry start (pick off [] (array_text text n xs [])) start
    section_off entry start e = rw e (record { bytes = refl; next = omega arith })

    pub section_parts : off ≡ false → pick off [] (array_text text n xs []) ≡ field_text n 10 ++ lines_part
    section_parts e = rw e (simp append_assoc)

    pub section_size : off ≡ false → length (pick off [] (array_text text n xs [])) ≡ length (field_text n 10) + length lines_part
    section_size e = ap length (section_parts e) ∙ length-append (field_text n 10) lines_part

-- the sections past the third
module _ (b : Booked) (dues : TrainList) where
  abbrev booked_part : List ℕ
  booked_part = pick (unbooked b && unlisted dues) [] (booked_text b [])

  abbrev dues_part : List ℕ
  dues_part = pick (unlisted dues) [] (train_list_text dues [])

  pub further_parts : optional_text unbooked booked_text b (optional_text unlisted train_list_text dues []) ≡ booked_part ++ dues_part
  unfolding optional_text
  further_parts =
      let later = optional_text unlisted train_list_text dues [] in
      let none : nothing later ≡ unlisted dues = optional_nothing unlisted train_list_text dues [] (field-some dues.count 10 _) ∙ and-true (unlisted dues) in
      optional_parts unbooked booked_text b later (section_then booking_text b.booking_count b.bookings booking_then later)
      ∙ ap (λ (e : Bool). pick (unbooked b && e) [] (booked_text b []) ++ later) none
      ∙ ap (λ (e : Bool). booked_part ++ pick e [] (train_list_text dues [])) (and-true (unlisted dues))

  pub further_size : length (optional_text unbooked booked_text b (optional_text unlisted train_list_text dues [])) ≡ length booked_part + length dues_part
  further_size = ap length further_parts ∙ length-append booked_part dues_part

module _ (l : Line) where
  abbrev stations_part : List ℕ
  stations_part = each_then station_text (tracks_of l) []

  abbrev segments_part : List ℕ
  segments_part = each_then segment_text (segments_of l) []

  abbrev trains_part : List ℕ
  trains_part = each_then train_text (trains_of l) []

  abbrev further_part : List ℕ
  further_part = optional_text unbooked booked_text l.booked (dues_text l)

  pub line_parts : text_of l ≡ field_text l.track.station_count 10
      ++ (stations_part ++ (field_text (l.track.station_count - 1) 10 ++ (segments_part ++ (field_text l.traffic.train_count 10 ++ (trains_part ++ further_part)))))
  unfolding text_of
  line_parts =
      let trains = digits l.traffic.train_count ++ (10 ∷ each_then train_text (trains_of l) further_part) in
      ap (λ (x : List ℕ). digits l.track.station_count ++ (10 ∷ x)) (
      each_then_lem station_text station_then (tracks_of l) (digits (l.track.station_count - 1) ++ (10 ∷ each_then segment_text (segments_of l) trains))
      ∙ ap (λ (x : List ℕ). stations_part ++ (digits (l.track.station_count - 1) ++ (10 ∷ x))) (
      each_then_lem segment_text segment_then (segments_of l) trains
      ∙ ap (λ (x : List ℕ). segments_part ++ (digits l.traffic.train_count ++ (10 ∷ x))) (each_then_lem train_text train_then (trains_of l) further_part)
      ))
      ∙ (simp append_assoc)

  pub line_size : length (text_of l) ≡ length (field_text l.track.station_count 10)
      + (length stations_part + (length (field_text (l.track.station_count - 1) 10)
      + (length segments_part + (length (field_text l.traffic.train_count 10) + (length trains_part + length further_part)))))
  line_size =
      ap length line_parts
      ∙ (rw (
        length-append (field_text l.track.station_count 10),
        length-append stations_part,
        length-append (field_text (l.track.station_count - 1) 10),
        length-append segments_part,
        length-append (field_text l.traffic.train_count 10),
        length-append trains_part,
      ) refl)
