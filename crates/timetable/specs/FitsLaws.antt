-- The text of a timetable is short, and what it has in it is small: "4,096 lent bytes always suffice". A field of at most four digits takes at most
-- five bytes; there are at most 12 trains of 11 legs, and at most 22 lists of 12 trains.
use Prim.Native.Nat.{ℕ, zero, suc, ◌+◌, ◌*◌, ◌≤◌, ◌<◌}
use Rattle.std.specs.Prelude.{◌≡◌}
use Rattle.std.proofs.Common.{◌∙◌, length-append}
use mathlib.Core.List.{List, [], ◌∷◌}
use native.Mathlib.Omega.{arith}
use Rattle.std.proofs.Math.ListN.{length, take}
use Rattle.std.proofs.lemmas.List.{length-map}
use Rattle.std.proofs.Math.Seq.{take_all}
use Rattle.text.specs.Writing.Digits.{digits}
use Rattle.text.specs.Writing.DigitsLaws.{digits-length}
use Rattle.finite.specs.Each.{Each}
use Rattle.finite.specs.EachLaws.{each_map, each_image}
use Rattle.line.specs.declared.Train.{Train}
use Rattle.line.specs.declared.Line.{Line}
use Rattle.line.specs.Record.{legs_of}
use Rattle.line.specs.Within.{Within}
use Rattle.line.specs.RunnableLaws.{within_runnable}
use Rattle.line.specs.Spell.{field}
use Rattle.line.specs.LengthLaws.{field-length, each_length}
use Rattle.line.specs.File.{after_field}
use Rattle.rules.specs.Statement.Paths.{train, legs, EachTrain}
use Rattle.rules.specs.Statement.Rules.{InDays}
use Rattle.rules.specs.Check.Tests.{departure_of, arrival_of}
use Rattle.rules.specs.Statement.Delay.{weighted_delay}
use Rattle.rules.specs.Lists.Orders.{list_count, order_lists}
use Rattle.rules.specs.Lists.OrdersLaws.{lists_few, lists_count, TrainsOnly, lists_trains}
use Rattle.rules.specs.StatementLaws.PathsLaws.{legs-most}
use Rattle.rules.specs.Check.RulesLaws.{cost-most}
use Rattle.timetable.specs.Spell.{legs_text, trains_text, minutes_text, names_text, list_text, rest_text, numbers, list_numbers, timetable_text}
use Rattle.timetable.specs.SpeltLaws.{DaysAt}
use Rattle.timetable.specs.ReadsLaws.{ListWithin}

-- ---- each part, where at most n bytes follow it

legs-length : (t : Train) (m : List ℕ) (i k j n : ℕ) (rest : List ℕ) → ((q : ℕ) → q < legs_of t → DaysAt t m i q) → j + k ≤ legs_of t → length rest ≤ n →
    length (legs_text k t m i j rest) ≤ n + k * 10
unfolding legs_text
legs-length t m i zero j n rest days path h = omega arith
legs-length t m i (suc k) j n rest days path h =
    let time = days j (omega arith) in
    let leg : length (legs_text (suc k) t m i j rest) ≤ n + k * 10 + 5 + 5 =
    field-length (departure_of t m i j) 32 _ _ (omega (arith, time.0)) (
    field-length (arrival_of t m i j) (after_field k) _ _ (omega (arith, time.1)) (
    legs-length t m i k (j + 1) n rest days (omega arith) h
    )) in
    omega arith

module _ (trains : ℕ) (most : trains ≤ 12) where
  names-length : (xs : List ℕ) → Each (λ x. (1 ≤ x) × (x ≤ trains)) xs → (n : ℕ) (rest : List ℕ) → length rest ≤ n →
      length (names_text xs rest) ≤ n + length xs * 5
  unfolding names_text
  names-length [] w n rest h = omega arith
  names-length (x ∷ xs) w n rest h =
      omega (arith, field-length x (after_field (length xs)) (n + length xs * 5) (names_text xs rest) (omega (arith, w.0.1)) (names-length xs w.1 n rest h))

  list_length : (xs : List ℕ) → ListWithin trains xs → (n : ℕ) (rest : List ℕ) → length rest ≤ n → length (list_text xs rest) ≤ n + 65
  unfolding list_text
  list_length xs w n rest h =
      let size : length (list_text xs rest) ≤ n + length xs * 5 + 5 =
      field-length (length xs) _ _ _ (omega (arith, w.few)) (names-length xs w.numbers n rest h) in
      omega (arith, w.few)

total_length : (v : ℕ) → v < 10000000 → length (field v 10 []) ≤ 8
total_length v small = omega (arith, length-append (digits v) (10 ∷ []), digits-length 6 v (omega arith))

-- ---- lists and total of a line's minutes

module _ (l : Line) (m : List ℕ) where
  pub lists_numbers : Each (ListWithin l.traffic.train_count) (list_numbers l m)
  lists_numbers =
      each_image (ListWithin l.traffic.train_count) numbers (order_lists l m)
      (each_map (TrainsOnly l m) (λ is. ListWithin l.traffic.train_count (numbers is)) number (order_lists l m) (lists_trains l m))
    where
      number : (is : List ℕ) → TrainsOnly l m is → ListWithin l.traffic.train_count (numbers is)
      number is v = record {
        few = rw length-map v.0;
        numbers = each_image (λ x. (1 ≤ x) × (x ≤ l.traffic.train_count)) (λ i. i + 1) is
            (each_map (λ i. i < l.traffic.train_count) (λ i. (1 ≤ i + 1) × (i + 1 ≤ l.traffic.train_count)) (λ i h. (omega arith, omega arith)) is v.1);
      }

  pub numbers-count : length (list_numbers l m) ≡ list_count l
  numbers-count = length-map (order_lists l m) numbers ∙ lists_count l m

  module _ (w : Within l) (days : EachTrain l (InDays l m)) where
    pub total_small : weighted_delay l m < 10000000
    total_small = omega (arith, w.trains, cost-most l m (within_runnable l w) days)

    -- ---- the train lines, and the whole text

    trains_length : (k i n : ℕ) (rest : List ℕ) → i + k ≤ l.traffic.train_count → length rest ≤ n → length (trains_text k l m i rest) ≤ n + k * 110
    unfolding trains_text
    trains_length zero i n rest count h = omega arith
    trains_length (suc k) i n rest count h =
        let line : length (trains_text (suc k) l m i rest) ≤ n + k * 110 + legs l i * 10 =
        legs-length (train l i) m i (legs l i) 0 _ _ (days i (omega arith)) (omega arith) (trains_length k (i + 1) n rest (omega arith) h) in
        omega (arith, legs-most l i (within_runnable l w) (omega arith))

    minutes_length : (n : ℕ) (rest : List ℕ) → length rest ≤ n → length (minutes_text l m rest) ≤ n + 1325
    unfolding minutes_text
    minutes_length n rest h =
        let trains = l.traffic.train_count in
        let size : length (minutes_text l m rest) ≤ n + trains * 110 + 5 =
        field-length trains 10 _ _ (omega (arith, w.trains)) (trains_length trains 0 n rest (omega arith) h) in
        omega (arith, w.trains)

    pub lines_fit : length (minutes_text l m []) ≤ 4096
    lines_fit = omega (arith, minutes_length 0 [] (omega arith))

    pub timetable_fits : length (timetable_text l m) ≤ 4096
    unfolding timetable_text rest_text
    timetable_fits =
        let few = lists_few l (omega (arith, w.stations)) in
        let trains = l.traffic.train_count in
        let ls = list_numbers l m in
        let last = field (weighted_delay l m) 10 [] in
        let short = total_length (weighted_delay l m) total_small in
        let all : take 22 ls ≡ ls = take_all 22 ls (omega (arith, numbers-count)) in
        let size : length (timetable_text l m) ≤ 8 + 22 * 65 + 5 + 1325 =
        minutes_length _ _ (
        field-length (list_count l) 10 _ _ (omega arith) (
        rw all at (each_length (ListWithin trains) list_text 65 (list_length trains w.trains.1) 22 ls (rw all lists_numbers) 8 last short)
        )) in
        omega arith
