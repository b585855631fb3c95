-- Laws of writing a timetable: the test of the minutes, and the texts in parts: each part is its own text and then what follows it, so that parts
-- written one after the other are the whole.
use Prim.Native.Nat.{ℕ, zero, suc, ◌+◌, ◌-◌, ◌≤◌, ◌<◌}
use Rattle.std.proofs.Math.Path.{◌≡◌, refl, sym, ap}
use Rattle.std.proofs.Common.{◌∙◌, ne_eqb, le-ltb, lt-ltb, le-leb, add-one, length-append, length-drop, length-take, drop-cons, get_or-take}
use Rattle.std.specs.Prelude.{true, false, is_some, leb, Ok, Err, cond, eqb, length, get_or, drop, Option as Maybe, Some, None}
use Rattle.std.proofs.Math.Bool.{not}
use Rattle.std.proofs.Math.Option.{Option, some, none}
use mathlib.Core.List.{List, [], ◌∷◌, ◌++◌, map, append_assoc}
use Rattle.std.proofs.Math.Decide.{dec_le}
use native.Mathlib.Omega.{arith}
use Rattle.std.proofs.lemmas.Bool.{not-false, lt-leb}
use Rattle.std.proofs.lemmas.List.{length-map}
use Rattle.std.proofs.Math.Seq.{drop-length}
use Rattle.finite.specs.Decide.{Decides}
use Rattle.finite.specs.DecideLaws.{is_true, decides_and, decides_le}
use Rattle.finite.specs.Below.{EachBelow}
use Rattle.finite.specs.LoopLaws.{decides_all, first_found, first_none, none_first}
use Rattle.text.specs.declared.Refusal.{Refusal}
use Rattle.text.specs.Reading.Limits.{bounded_of}
use Rattle.text.specs.Reading.Told.{refusal}
use Rattle.text.specs.Writing.Digits.{field_text}
use Rattle.text.specs.Elements.EachThen.{each_then}
use Rattle.text.specs.Writing.Lend.{Spelling}
use Rattle.text.specs.Writing.SpliceLaws.{part_fits, Putting, putting_room}
use Rattle.line.specs.declared.Train.{Train}
use Rattle.line.specs.declared.Line.{Line}
use Rattle.line.specs.Record.{legs_of}
use Rattle.line.specs.Within.{Within}
use Rattle.line.specs.Spell.{field}
use Rattle.line.specs.Writing.{fault_of}
use Rattle.line.specs.FaultLaws.{CleanWhen, tells_then}
use Rattle.line.specs.WithinLaws.{within_of, fault_none}
use Rattle.line.specs.SpellLaws.{each_then_lem}
use Rattle.line.specs.File.{after_field}
use Rattle.rules.specs.Statement.Paths.{train, legs, EachTrain}
use Rattle.rules.specs.Check.Tests.{departure_of, arrival_of}
use Rattle.rules.specs.Statement.Rules.{InDays}
use Rattle.rules.specs.Statement.Delay.{weighted_delay}
use Rattle.rules.specs.declared.orders.OrderList.{OrderList}
use Rattle.rules.specs.Lists.Orders.{list_count, listed}
use Rattle.text.proofs.Reading.ParsedLaws.{bounded_within, bounded_fits}
use Rattle.timetable.specs.Spell.{legs_text, trains_text, minutes_text, names_text, list_text, rest_text, numbers, list_numbers, timetable_text}
use Rattle.timetable.specs.Writing.{times_right, on_line, minutes_fault, first_fault, spelling_of, spelling, lines_spelling}
use Rattle.timetable.specs.CheckLoopLaws.{number_at}
use Rattle.timetable.specs.SpeltLaws.{DaysAt}

-- ---- the times of a train, and the first train with a time that is too late

-- a time that a call built, or refused
pub time_built : (n : ℕ) {b : Maybe ℕ} {v : ℕ} → b ≡ bounded_of 0 2879 n → b ≡ Some v → n ≤ 2879
time_built n e h = (bounded_within 0 2879 n _ (sym e ∙ h)).high

pub time_refused : (n : ℕ) {b : Maybe ℕ} → b ≡ bounded_of 0 2879 n → b ≡ None → 2879 < n
time_refused n {b} e h = elim (dec_le n 2879) [
  | yes l ↦ (
      let w : Some n ≡ None = sym (bounded_fits 0 2879 n (omega arith) l) ∙ sym e ∙ h in
      let z : ◌≡◌ {A = ℕ} 0 1 = cc in
      absurd (omega arith))
  | no f ↦ omega arith
]

-- a time is built exactly where it is at most 2,879
pub time_is : (n : ℕ) → is_some (bounded_of 0 2879 n) ≡ leb n 2879
unfolding bounded_of
time_is n = elim (dec_le n 2879) [
  | yes h ↦ simp (le-ltb n 0 (omega arith), le-ltb 2879 n h, le-leb n 2879 h)
  | no h ↦ let late : 2879 < n = omega arith in simp (le-ltb n 0 (omega arith), lt-ltb 2879 n late, lt-leb n 2879 late)
]

module _ (t : Train) (m : List ℕ) (i : ℕ) where
  pub decides_times : Decides (EachBelow (legs_of t) (DaysAt t m i)) (times_right t m i)
  unfolding times_right
  decides_times = decides_all (DaysAt t m i) _ (legs_of t) (λ k _. decides_and (decides_le _ _) (decides_le _ _))

module _ (l : Line) (m : List ℕ) where
  abbrev pub Timed : ℕ → Type 0
  Timed i = times_right (train l i) m i ≡ true

  pub late_at : (i : ℕ) → i < l.traffic.train_count → times_right (train l i) m i ≡ false → EachBelow i Timed → refusal 9 (i + 2) ≡ minutes_fault l m
  unfolding minutes_fault
  late_at i h e k = ap on_line (sym (first_found _ _ i h (ap not e) (λ j s. ap not (k j s))))

  pub late_none : EachTrain l Timed → Ok tt ≡ minutes_fault l m
  unfolding minutes_fault
  late_none k = ap on_line (sym (first_none _ _ (λ j s. ap not (k j s))))

  -- minutes without a fault are of the two days
  pub days_of : minutes_fault l m ≡ Ok tt → EachTrain l (InDays l m)
  unfolding minutes_fault
  days_of e i h = (decides_times (train l i) m i).yea (not-false _ (none_first _ _ (nobody _ e) i h))
    where
      nobody : (o : Option ℕ) → on_line o ≡ Ok tt → o ≡ none
      nobody none g = refl
      nobody (some j) g = let z : ◌≡◌ {A = ℕ} 0 1 = cc in absurd (omega arith)

  -- and the other way
  pub days_clean : EachTrain l (InDays l m) → minutes_fault l m ≡ Ok tt
  days_clean h = sym (late_none (λ i b. is_true (decides_times (train l i) m i) (h i b)))

  -- no field is bad exactly when the line is within the limits and the minutes are of the two days
  pub tells_first : CleanWhen (first_fault l m) (Within l × EachTrain l (InDays l m))
  unfolding first_fault
  tells_first = tells_then (fault_of l) (minutes_fault l m) (record { holds = within_of l; clean = fault_none l }) (record { holds = days_of; clean = days_clean })

  -- what there is to write, by the fault that was found
  pub spelling_refused : (t : List ℕ) {e : Refusal} → first_fault l m ≡ Err e → spelling_of l m t ≡ Spelling.refused e.number e.place
  unfolding spelling_of
  spelling_refused t e = rw e refl

  pub spelling_clean : (t : List ℕ) → first_fault l m ≡ Ok tt → spelling_of l m t ≡ Spelling.text t
  unfolding spelling_of
  spelling_clean t e = rw e refl

  pub spelling_text : fault_of l ≡ Ok tt → minutes_fault l m ≡ Ok tt → spelling l m ≡ Spelling.text (timetable_text l m)
  unfolding spelling
  spelling_text e g = spelling_clean _ (tells_first.clean (within_of l e, days_of g))

  pub lines_text : Within l → EachTrain l (InDays l m) → lines_spelling l m ≡ Spelling.text (minutes_text l m [])
  unfolding lines_spelling
  lines_text w days = spelling_clean _ (tells_first.clean (w, days))

-- ---- each part, and then what follows it

pub legs_then : (k : ℕ) (t : Train) (m : List ℕ) (i j : ℕ) (rest : List ℕ) → legs_text k t m i j rest ≡ legs_text k t m i j [] ++ rest
unfolding legs_text
legs_then zero t m i j rest = refl
legs_then (suc k) t m i j rest = simp (append_assoc, legs_then k t m i (j + 1) rest)

trains_then : (k : ℕ) (l : Line) (m : List ℕ) (i : ℕ) (rest : List ℕ) → trains_text k l m i rest ≡ trains_text k l m i [] ++ rest
unfolding trains_text
trains_then zero l m i rest = refl
trains_then (suc k) l m i rest =
    legs_then (legs l i) (train l i) m i 0 (trains_text k l m (i + 1) rest)
    ∙ ap (λ (x : List ℕ). legs_text (legs l i) (train l i) m i 0 [] ++ x) (trains_then k l m (i + 1) rest)
    ∙ sym (append_assoc (legs_text (legs l i) (train l i) m i 0 []) (trains_text k l m (i + 1) []) rest)
    ∙ ap (λ (x : List ℕ). x ++ rest) (sym (legs_then (legs l i) (train l i) m i 0 (trains_text k l m (i + 1) [])))

names_then : (xs rest : List ℕ) → names_text xs rest ≡ names_text xs [] ++ rest
unfolding names_text
names_then [] rest = refl
names_then (x ∷ xs) rest = simp (append_assoc, names_then xs rest)

list_then : (xs rest : List ℕ) → list_text xs rest ≡ list_text xs [] ++ rest
unfolding list_text
list_then xs rest = simp (append_assoc, names_then xs rest)

-- ---- the legs of a train, which is train i, of which j are written

module _ (t : Train) (m : List ℕ) (i legs j : ℕ) where
  abbrev leg : List ℕ
  leg = field_text (departure_of t m i j) 32 ++ field_text (arrival_of t m i j) (after_field (legs - (j + 1)))

  -- the text yet to write: that of leg j, and the others
  pub next-leg : j < legs → legs_text (legs - j) t m i j [] ≡ leg ++ legs_text (legs - (j + 1)) t m i (j + 1) []
  unfolding legs_text
  next-leg h =
      let more : legs - j ≡ suc (legs - (j + 1)) = omega arith in
      rw more (simp append_assoc)

  pub no_leg : j ≡ legs → legs_text (legs - j) t m i j [] ≡ []
  unfolding legs_text
  no_leg e =
      let none : legs - j ≡ 0 = omega arith in
      rw none refl

  -- both times of leg j fit where the whole does
  pub leg_fits : (now : List ℕ) {whole : List ℕ} → now ++ legs_text (legs - j) t m i j [] ≡ whole → j < legs →
      length now + (length (field_text (departure_of t m i j) 32) + length (field_text (arrival_of t m i j) (after_field (legs - (j + 1))))) ≤ length whole
  leg_fits now left h =
      rw length-append at (part_fits now leg (legs_text (legs - (j + 1)) t m i (j + 1) []) (ap (λ (x : List ℕ). now ++ x) (sym (next-leg h)) ∙ left))

  -- the same of a buffer
  pub leg_room : {entry : List ℕ} {start : ℕ} {whole now : List ℕ} {at : ℕ} → Putting entry start whole now at (legs_text (legs - j) t m i j []) → j < legs →
      start + length whole ≤ length entry →
      at + (length (field_text (departure_of t m i j) 32) + length (field_text (arrival_of t m i j) (after_field (legs - (j + 1))))) ≤ length now
  leg_room putting h fits = rw length-append at (putting_room leg (legs_text (legs - (j + 1)) t m i (j + 1) []) putting (next-leg h) fits)

-- ---- the lines of n trains, of which i are written

module _ (l : Line) (m : List ℕ) (n i : ℕ) where
  pub next-train : i < n → trains_text (n - i) l m i [] ≡ legs_text (legs l i) (train l i) m i 0 [] ++ trains_text (n - (i + 1)) l m (i + 1) []
  unfolding trains_text
  next-train h =
      let more : n - i ≡ suc (n - (i + 1)) = omega arith in
      rw more (legs_then (legs l i) (train l i) m i 0 (trains_text (n - (i + 1)) l m (i + 1) []))

  pub no_train_lem : i ≡ n → trains_text (n - i) l m i [] ≡ []
  unfolding trains_text
  no_train_lem e =
      let none : n - i ≡ 0 = omega arith in
      rw none refl

  pub train_fits : (now : List ℕ) {whole : List ℕ} → now ++ trains_text (n - i) l m i [] ≡ whole → i < n →
      length now + length (legs_text (legs l i) (train l i) m i 0 []) ≤ length whole
  train_fits now left h =
      part_fits now (legs_text (legs l i) (train l i) m i 0 []) (trains_text (n - (i + 1)) l m (i + 1) [])
      (ap (λ (x : List ℕ). now ++ x) (sym (next-train h)) ∙ left)

  pub train_room : {entry : List ℕ} {start : ℕ} {whole now : List ℕ} {at : ℕ} → Putting entry start whole now at (trains_text (n - i) l m i []) → i < n →
      start + length whole ≤ length entry → at + length (legs_text (legs l i) (train l i) m i 0 []) ≤ length now
  train_room putting h fits = putting_room (legs_text (legs l i) (train l i) m i 0 []) (trains_text (n - (i + 1)) l m (i + 1) []) putting (next-train h) fits

-- ---- the n trains of an order list, of which k are written

name_then : (x : ℕ) (xs : List ℕ) → names_text (x ∷ xs) [] ≡ field_text x (after_field (length xs)) ++ names_text xs []
unfolding names_text
name_then x xs = simp append_assoc

module _ (o : OrderList) (n : ℕ) (size : n ≡ length (listed o)) where
  abbrev names : List ℕ
  names = numbers (listed o)

  many : length names ≡ n
  many = length-map (listed o) _ ∙ sym size

  module _ (k : ℕ) where
    name : k < n → get_or names k 0 ≡ get_or o.trains k 0 + 1
    name h =
        number_at (listed o) k (omega arith)
        ∙ ap (λ (x : ℕ). x + 1) (get_or-take o.count o.trains k 0 (omega (arith, length-take o.count o.trains)))

    pub next_name : k < n → names_text (drop k names) [] ≡ field_text (get_or o.trains k 0 + 1) (after_field (n - (k + 1))) ++ names_text (drop (k + 1) names) []
    next_name h =
        let others = drop (suc k) names in
        let left : length others ≡ n - suc k = length-drop (suc k) names ∙ ap (λ (x : ℕ). x - suc k) many in
        rw (add-one k) (
        ap (λ (xs : List ℕ). names_text xs []) (drop-cons names k 0 (omega (arith, many)))
        ∙ name_then (get_or names k 0) others
        ∙ ap (λ (x : ℕ). field_text x (after_field (length others)) ++ names_text others []) (name h)
        ∙ ap (λ (x : ℕ). field_text (get_or o.trains k 0 + 1) (after_field x) ++ names_text others []) left
        )

    pub no_name : k ≡ n → names_text (drop k names) [] ≡ []
    unfolding names_text
    no_name e = ap (λ (j : ℕ). names_text (drop j names) []) (e ∙ sym many) ∙ ap (λ (xs : List ℕ). names_text xs []) (drop-length names)

    pub name_fits : (now : List ℕ) {whole : List ℕ} → now ++ names_text (drop k names) [] ≡ whole → k < n →
        length now + length (field_text (get_or o.trains k 0 + 1) (after_field (n - (k + 1)))) ≤ length whole
    name_fits now left h =
        part_fits now (field_text (get_or o.trains k 0 + 1) (after_field (n - (k + 1)))) (names_text (drop (k + 1) names) [])
        (ap (λ (x : List ℕ). now ++ x) (sym (next_name h)) ∙ left)

    pub name_room : {entry : List ℕ} {start : ℕ} {whole now : List ℕ} {at : ℕ} → Putting entry start whole now at (names_text (drop k names) []) → k < n →
        start + length whole ≤ length entry → at + length (field_text (get_or o.trains k 0 + 1) (after_field (n - (k + 1)))) ≤ length now
    name_room putting h fits =
        putting_room (field_text (get_or o.trains k 0 + 1) (after_field (n - (k + 1)))) (names_text (drop (k + 1) names) []) putting (next_name h) fits

  -- the count, with a space after it where numbers follow, and then the numbers
  pub list-parts : list_text names [] ≡ field_text n (after_field n) ++ names_text names []
  unfolding list_text
  list-parts =
      ap (λ (x : ℕ). field x (cond (eqb x 0) 10 32) (names_text names [])) many
      ∙ ap (λ (x : ℕ). field n x (names_text names [])) (byte n)
      ∙ (simp append_assoc)
    where
      byte : (k : ℕ) → cond (eqb k 0) 10 32 ≡ after_field k
      byte zero = refl
      byte (suc k) = simp (ne_eqb (suc k) 0 (λ e. omega arith))

  pub list_size : length (list_text names []) ≡ length (field_text n (after_field n)) + length (names_text names [])
  list_size = ap length list-parts ∙ length-append (field_text n (after_field n)) (names_text names [])

-- ---- the order lists of the code

abbrev pub order_text : OrderList → List ℕ → List ℕ
order_text o rest = list_text (numbers (listed o)) rest

pub order_then : (o : OrderList) (rest : List ℕ) → order_text o rest ≡ order_text o [] ++ rest
order_then o rest = list_then (numbers (listed o)) rest

-- the text of the lists is that of each order list
pub lists_text : (xs : List OrderList) (rest : List ℕ) → each_then list_text (map numbers (map listed xs)) rest ≡ each_then order_text xs rest
lists_text [] rest = refl
lists_text (x ∷ xs) rest = ap (order_text x) (lists_text xs rest)

-- ---- the first part of the text, and the whole

module _ (l : Line) (m : List ℕ) where
  abbrev trains_part : List ℕ
  trains_part = trains_text l.traffic.train_count l m 0 []

  pub minutes_parts : minutes_text l m [] ≡ field_text l.traffic.train_count 10 ++ trains_part
  unfolding minutes_text
  minutes_parts = simp append_assoc

  pub minutes_size : length (minutes_text l m []) ≡ length (field_text l.traffic.train_count 10) + length trains_part
  minutes_size = ap length minutes_parts ∙ length-append (field_text l.traffic.train_count 10) trains_part

  pub minutes_then : (rest : List ℕ) → minutes_text l m rest ≡ minutes_text l m [] ++ rest
  unfolding minutes_text
  minutes_then rest = simp (append_assoc, trains_then l.traffic.train_count l m 0 rest)

  abbrev lists_part : List ℕ
  lists_part = each_then list_text (list_numbers l m) []

  pub timetable_parts : timetable_text l m ≡ minutes_text l m [] ++ (field_text (list_count l) 10 ++ (lists_part ++ field_text (weighted_delay l m) 10))
  unfolding timetable_text rest_text
  timetable_parts =
      minutes_then (rest_text l (list_numbers l m) (weighted_delay l m))
      ∙ ap (λ (x : List ℕ). minutes_text l m [] ++ field (list_count l) 10 x) (each_then_lem list_text list_then (list_numbers l m) (field_text (weighted_delay l m) 10))
      ∙ (simp append_assoc)

  pub timetable_size : length (timetable_text l m) ≡
      length (minutes_text l m []) + (length (field_text (list_count l) 10) + (length lists_part + length (field_text (weighted_delay l m) 10)))
  timetable_size =
      ap length timetable_parts
      ∙ (rw (length-append (minutes_text l m []), length-append (field_text (list_count l) 10), length-append lists_part) refl)
