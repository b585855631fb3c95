-- Laws of the check of a record: one check and then the next, the lines of a section one by one, and what it means that a check finds nothing.
use Rattle.std.specs.Prelude.{ℕ, suc, ⊤, ◌+◌, ◌<◌, ◌≤◌, ◌≡◌, List, [], ◌∷◌, Bool, true, false, eqb, length, get_or, drop, Option, Some, None, Ok, Err, ◌-◌, not, ltb, take}
use Rattle.std.specs.Result.{result_and}
use Rattle.std.proofs.Math.Path.{refl}
use Rattle.std.proofs.Common.{sym, ap, ◌∙◌, arith, ne_eqb, add-one, drop-cons, drop_of_length-le, lt-ltb, le-ltb, eq-eqb, length-take-le}
use Rattle.std.proofs.lemmas.Bool.{eqb-false}
use Rattle.text.specs.declared.Limits.{Limits}
use Rattle.text.specs.declared.Refusal.{Refusal}
use Rattle.text.specs.Reading.Choice.{pick}
use Rattle.text.specs.Reading.Limits.{bounded_of}
use Rattle.text.specs.Reading.Told.{refusal}
use Rattle.text.proofs.Reading.ParsedLaws.{bounded_within, bounded_fits}
use Rattle.line.specs.declared.Train.{Train}
use Rattle.line.specs.declared.Track.{Track}
use Rattle.line.specs.declared.Traffic.{Traffic}
use Rattle.line.specs.declared.Booked.{Booked}
use Rattle.line.specs.declared.Booking.{Booking}
use Rattle.line.specs.Ranges.{In, station_count, train_count, booking_count, station, time, weight, train_number}
use Rattle.line.specs.Record.{legs_of}
use Rattle.line.specs.RecordLaws.{path_legs}
use Rattle.line.specs.Writing.{Checked, value_fault, number_fault, lines_fault, times_fault, path_fault, head_fault, rising_fault, track_fault_of, traffic_fault_of, booked_fault, booking_fault, booking_fault_with}
use Rattle.line.specs.Bookings.{stands_after, bookable}
use Rattle.line.specs.BookingsLaws.{entry, bookable_used}

-- ---- one check and then the next

-- the first check, which answered r, found a fault: it is the answer of both
pub found_first : {r a : Checked} {e : Refusal} (b : Checked) → r ≡ a → r ≡ Err e → r ≡ result_and a b
found_first b e h = h ∙ ap (λ (f : Checked). result_and f b) (sym h ∙ e)

-- the first check, which answered r, found none: the answer is that of the second
pub found_later : {r a b x : Checked} → r ≡ a → r ≡ Ok tt → x ≡ b → x ≡ result_and a b
found_later {r} {a} {b} e h g = g ∙ ap (λ (f : Checked). result_and f b) (sym h ∙ e)

-- a value that a call built or refused
pub fault_by : {r : Checked} {b : Option ℕ} (l : Limits) (n p : ℕ) → r ≡ value_fault b p → b ≡ bounded_of l.min l.max n → r ≡ number_fault l n p
unfolding number_fault
fault_by l n p e h = e ∙ ap (λ (k : Option ℕ). value_fault k p) h

-- a value in limits that a call gave
pub limits_by : {r : Checked} {k : Limits} (l : Limits) (n p : ℕ) → r ≡ number_fault k n p → k ≡ l → r ≡ number_fault l n p
limits_by l n p e h = e ∙ ap (λ (m : Limits). number_fault m n p) h

-- a check of as many values as a call gave
pub times_by : {r : Checked} {k n : ℕ} (xs : List ℕ) (l : Limits) (p : ℕ) → r ≡ times_fault (take k xs) l p → k ≡ n → r ≡ times_fault (take n xs) l p
times_by xs l p e h = e ∙ ap (λ (m : ℕ). times_fault (take m xs) l p) h

-- ---- entries on lines of their own, of which those before i were not refused, and x is the next

module _ {A : Type 0} (f : ℕ → A → Checked) (xs : List A) (i p : ℕ) where
  lines_step : (x : A) → get_or xs i x ≡ x → i < length xs → lines_fault (drop i xs) f p ≡ result_and (f p x) (lines_fault (drop (i + 1) xs) f (p + 1))
  unfolding lines_fault
  lines_step x is h = rw (add-one i) (ap (λ (l : List A). lines_fault l f p) (drop-cons xs i x h ∙ ap (λ (y : A). y ∷ drop (suc i) xs) is))

  pub lines_found : {r : Checked} {e : Refusal} (x : A) → get_or xs i x ≡ x → i < length xs → r ≡ f p x → r ≡ Err e → Err e ≡ lines_fault (drop i xs) f p
  lines_found x is h t g = found_first _ (sym g ∙ t) refl ∙ sym (lines_step x is h)

  pub lines_clean : {r : Checked} {u : ⊤} (x : A) (q : ℕ) → get_or xs i x ≡ x → i < length xs → r ≡ f p x → r ≡ Ok u → q ≡ p + 1 →
      lines_fault (drop (i + 1) xs) f q ≡ lines_fault (drop i xs) f p
  lines_clean x q is h t g w = rw w (found_later t g refl ∙ sym (lines_step x is h))

  -- there are no others
  pub lines_end : length xs ≤ i → Ok tt ≡ lines_fault (drop i xs) f p
  unfolding lines_fault
  lines_end h = rw (drop_of_length-le xs h) refl

-- ---- the same of entries that are each checked after the one before them

module _ {A : Type 0} (f : A → ℕ → A → Checked) (xs : List A) (i : ℕ) (before : A) (p : ℕ) where
  rising_step : (x : A) → get_or xs i x ≡ x → i < length xs → rising_fault (drop i xs) f before p ≡ result_and (f before p x) (rising_fault (drop (i + 1) xs) f x (p + 1))
  unfolding rising_fault
  rising_step x is h = rw (add-one i) (ap (λ (l : List A). rising_fault l f before p) (drop-cons xs i x h ∙ ap (λ (y : A). y ∷ drop (suc i) xs) is))

  pub rising_found : {r : Checked} {e : Refusal} (x : A) → get_or xs i x ≡ x → i < length xs → r ≡ f before p x → r ≡ Err e →
      Err e ≡ rising_fault (drop i xs) f before p
  rising_found x is h t g = found_first _ (sym g ∙ t) refl ∙ sym (rising_step x is h)

  pub rising_clean : {r : Checked} {u : ⊤} (x : A) (q : ℕ) → get_or xs i x ≡ x → i < length xs → r ≡ f before p x → r ≡ Ok u → q ≡ p + 1 →
      rising_fault (drop (i + 1) xs) f x q ≡ rising_fault (drop i xs) f before p
  rising_clean x q is h t g w = rw w (found_later t g refl ∙ sym (rising_step x is h))

  -- there are no others
  pub rising_end : length xs ≤ i → Ok tt ≡ rising_fault (drop i xs) f before p
  unfolding rising_fault
  rising_end h = rw (drop_of_length-le xs h) refl

-- ---- the same of values that stand on one line

module _ (l : Limits) (xs : List ℕ) (i p : ℕ) where
  times_step : i < length xs → times_fault (drop i xs) l p ≡ result_and (number_fault l (get_or xs i 0) p) (times_fault (drop (i + 1) xs) l p)
  unfolding times_fault
  times_step h = rw (add-one i) (ap (λ (ys : List ℕ). times_fault ys l p) (drop-cons xs i 0 h))

  pub times_found : {r : Checked} {e : Refusal} → i < length xs → r ≡ number_fault l (get_or xs i 0) p → r ≡ Err e → Err e ≡ times_fault (drop i xs) l p
  times_found h t g = found_first _ (sym g ∙ t) refl ∙ sym (times_step h)

  pub times_clean : {r : Checked} {u : ⊤} → i < length xs → r ≡ number_fault l (get_or xs i 0) p → r ≡ Ok u →
      times_fault (drop (i + 1) xs) l p ≡ times_fault (drop i xs) l p
  times_clean h t g = found_later t g refl ∙ sym (times_step h)

  pub times_end : length xs ≤ i → Ok tt ≡ times_fault (drop i xs) l p
  unfolding times_fault
  times_end h = rw (drop_of_length-le xs h) refl

-- values that stand on one line are checked as those on lines of their own, whatever these lines are
pub times_lines : (xs : List ℕ) (r : Limits) (p q : ℕ) → times_fault xs r p ≡ lines_fault xs (λ _ n. number_fault r n p) q
unfolding times_fault lines_fault
times_lines [] r p q = refl
times_lines (x ∷ xs) r p q = ap (λ (f : Checked). result_and (number_fault r x p) f) (times_lines xs r p (q + 1))

-- ---- origin and destination

module _ (o d p : ℕ) where
  pub same_ends : d ≡ o → refusal 4 p ≡ pick {A = Checked} (eqb d o) (refusal 4 p) (Ok tt)
  same_ends e = simp (eq-eqb d o e)

  pub other_ends : (d ≡ o → ⊥) → Ok tt ≡ pick {A = Checked} (eqb d o) (refusal 4 p) (Ok tt)
  other_ends h = simp (ne_eqb d o h)

-- ---- whether a booking may stand, which a call told

module _ {m b : Bool} (p : ℕ) (f : Checked) (told : m ≡ b) where
  pub stands-not : not m ≡ true → refusal 19 p ≡ pick {A = Checked} (not b) (refusal 19 p) f
  stands-not h = ap (λ (x : Bool). pick {A = Checked} x (refusal 19 p) f) (sym h ∙ ap not told)

  pub stands : {r : Checked} → not m ≡ false → r ≡ f → r ≡ pick (not b) (refusal 19 p) f
  stands h e = e ∙ ap (λ (x : Bool). pick x (refusal 19 p) f) (sym h ∙ ap not told)

-- ---- whether train b of a list may stand after train a

module _ (a b p : ℕ) (f : Checked) where
  pub rises-not : b ≤ a → refusal 19 p ≡ pick {A = Checked} (not (ltb a b)) (refusal 19 p) f
  rises-not h = simp (le-ltb a b h)

  pub rises : {r : Checked} → a < b → r ≡ f → r ≡ pick (not (ltb a b)) (refusal 19 p) f
  rises h e = e ∙ (simp (lt-ltb a b h))

-- ---- what has no fault

-- a check finds no fault exactly when P holds
pub record CleanWhen (f : Checked) (P : Type 0) : Type 0 where
  pub holds : f ≡ Ok tt → P
  pub clean : P → f ≡ Ok tt

pub tells_then : {P Q : Type 0} (a b : Checked) → CleanWhen a P → CleanWhen b Q → CleanWhen (result_and a b) (P × Q)
tells_then a b p q = record {
  holds = λ e. let n = neither a b e in (p.holds n.0, q.holds n.1);
  clean = λ h. sym (found_later (sym (p.clean h.0)) refl (sym (q.clean h.1)));
}
  where
    neither : (a b : Checked) → result_and a b ≡ Ok tt → (a ≡ Ok tt) × (b ≡ Ok tt)
    neither (Ok u) b e = (refl, e)
    neither (Err r) b e = let z : ◌≡◌ {A = ℕ} 0 1 = cc in absurd (omega arith)

pub tells_number : (r : Limits) (n p : ℕ) → CleanWhen (number_fault r n p) (In r n)
unfolding number_fault
tells_number r n p = record {
  holds = go (bounded_of r.min r.max n) refl;
  clean = λ h. simp (bounded_fits r.min r.max n h.0 h.1);
}
  where
    go : (b : Option ℕ) → bounded_of r.min r.max n ≡ b → value_fault b p ≡ Ok tt → In r n
    go (Some v) h g = let w = bounded_within r.min r.max n v h in (w.low, w.high)
    go None h g = let z : ◌≡◌ {A = ℕ} 0 1 = cc in absurd (omega arith)

-- a number that was checked and not refused
pub number_fits : {e : Checked} {u : ⊤} (r : Limits) (n p : ℕ) → e ≡ number_fault r n p → e ≡ Ok u → In r n
number_fits r n p t g = (tells_number r n p).holds (sym t ∙ g)

-- a booking of one of the first t trains of an array has the fault that it has with entry k, where this is the entry of the train booked
pub fault_with : (n t k : ℕ) (trains : List Train) (before : Booking) (p : ℕ) (b : Booking) → t ≤ length trains →
    (In (train_number t) b.train → k ≡ b.train - 1) → booking_fault_with n t (entry trains k) before p b ≡ booking_fault n (take t trains) before p b
unfolding booking_fault booking_fault_with
fault_with n t k trains before p b room own = rw (length-take-le t trains room) (go (number_fault (train_number t) b.train p) refl)
  where
    later : Bool → Checked
    later x = result_and (number_fault (station n) b.station p) (pick (not x) (refusal 19 p) (number_fault time b.minute p))

    go : (f : Checked) → number_fault (train_number t) b.train p ≡ f →
        result_and f (later (stands_after before b.train b.station (entry trains k))) ≡ result_and f (later (bookable (take t trains) before b.train b.station))
    go (Ok u) e =
        let number = number_fits (train_number t) b.train p (sym e) refl in
        ap later
        (ap (λ (j : ℕ). stands_after before b.train b.station (entry trains j)) (own number)
        ∙ sym (bookable_used t trains before b.train b.station number.0 number.1))
    go (Err r) e = refl

tells_apart : (p o d : ℕ) → CleanWhen (pick (eqb d o) (refusal 4 p) (Ok tt)) (d ≡ o → ⊥)
tells_apart p o d = record { holds = λ e. eqb-false d o (go (eqb d o) e); clean = λ h. simp (ne_eqb d o h) }
  where
    go : (t : Bool) → pick {A = Checked} t (refusal 4 p) (Ok tt) ≡ Ok tt → t ≡ false
    go true g = let z : ◌≡◌ {A = ℕ} 0 1 = cc in absurd (omega arith)
    go false g = refl

-- both ends of the path are stations, and they are apart
abbrev pub PathIn : ℕ → ℕ → ℕ → Type 0
PathIn n o d = In (station n) o × (In (station n) d × (d ≡ o → ⊥))

tells_path : (n p o d : ℕ) → CleanWhen (path_fault n p o d) (PathIn n o d)
unfolding path_fault
tells_path n p o d = tells_then _ _ (tells_number (station n) o p) (tells_then _ _ (tells_number (station n) d p) (tells_apart p o d))

abbrev pub HeadIn : ℕ → Train → Type 0
HeadIn n t = PathIn n t.origin t.destination × (In time t.earliest × (In time t.latest × In weight t.weight))

pub tells_head : (n p : ℕ) (t : Train) → CleanWhen (head_fault n p t) (HeadIn n t)
unfolding head_fault
tells_head n p t =
    tells_then _ _ (tells_path n p t.origin t.destination)
    (tells_then _ _ (tells_number time t.earliest p)
    (tells_then _ _ (tells_number time t.latest p)
    (tells_number weight t.weight p)))

-- the legs of a train whose head was checked and has no fault
pub legs_fit : {r : Checked} {k : ℕ} (n p : ℕ) (t : Train) → r ≡ head_fault n p t → r ≡ Ok tt → n ≤ 12 → k ≡ legs_of t → (1 ≤ k) × (k ≤ 11)
legs_fit n p t e g h l =
    let path = ((tells_head n p t).holds (sym e ∙ g)).0 in
    rw l (path_legs n t.origin t.destination h path.0 path.1.0 path.1.1)

-- the counts of a track, of traffic and of bookings that were checked and have no fault
counts_fit : {r : Checked} (l : Limits) (n p : ℕ) (later : Checked) → r ≡ result_and (number_fault l n p) later → r ≡ Ok tt → In l n
counts_fit l n p later e g =
    ((tells_then _ _ (tells_number l n p) (record { holds = λ (h : later ≡ Ok tt). h; clean = λ h. h })).holds (sym e ∙ g)).0

pub stations_fit : {r : Checked} (k : Track) → r ≡ track_fault_of k → r ≡ Ok tt → In station_count k.station_count
unfolding track_fault_of
stations_fit k e g = counts_fit station_count _ _ _ e g

pub trains_fit : {r : Checked} (n : ℕ) (t : Traffic) → r ≡ traffic_fault_of n t → r ≡ Ok tt → In train_count t.train_count
unfolding traffic_fault_of
trains_fit n t e g = counts_fit train_count _ _ _ e g

pub bookings_fit : {r : Checked} (n : ℕ) (t : Traffic) (b : Booked) (p : ℕ) → r ≡ booked_fault n t b p → r ≡ Ok tt → In booking_count b.booking_count
bookings_fit n t b p e g = counts_fit booking_count _ _ _ e g
