-- Places of the timetable's writer: train i stands on line i + 2. That is right: in the text, the line of the train whose time is over 2,879 begins on the
-- line that the fault names (`minutes_fault_begins`), and there a reader's cursor stands on it (`begins_line`).
use Prim.Native.Nat.{ℕ, zero, suc, ◌+◌, ◌<◌, ◌≤◌}
use Rattle.std.proofs.Math.Path.{◌≡◌, sym, ap}
use Rattle.std.specs.Prelude.{refl, true, length}
use Rattle.std.proofs.Common.{◌∙◌}
use Rattle.std.proofs.Math.Bool.{not}
use Rattle.std.proofs.Math.Option.{Option, some, none}
use mathlib.Core.List.{List, [], ◌∷◌, ◌++◌, append_assoc}
use native.Mathlib.Omega.{arith}
use Rattle.text.specs.Reading.Told.{refusal}
use Rattle.text.specs.Writing.Digits.{digits, field_text}
use Rattle.finite.specs.Below.{first, IsFirst}
use Rattle.finite.specs.LoopLaws.{first_is}
use Rattle.text.specs.Places.Lines.{feeds}
use Rattle.text.specs.Places.FeedsLaws.{feeds-append, feeds-digits, Begins}
use Rattle.line.specs.declared.Train.{Train}
use Rattle.line.specs.declared.Line.{Line}
use Rattle.line.specs.Within.{Within}
use Rattle.line.specs.RunnableLaws.{within_runnable}
use Rattle.line.specs.Spell.{field}
use Rattle.line.specs.Writing.{Checked, on_fault}
use Rattle.rules.specs.Statement.Paths.{train, legs}
use Rattle.rules.specs.Check.Tests.{departure_of, arrival_of}
use Rattle.rules.specs.Statement.Delay.{weighted_delay}
use Rattle.rules.specs.StatementLaws.PathsLaws.{routed, legs_few}
use Rattle.timetable.specs.Spell.{legs_text, trains_text, minutes_text, rest_text, list_numbers, timetable_text}
use Rattle.timetable.specs.Writing.{times_right, on_line, minutes_fault}
use Rattle.timetable.specs.WritingLaws.{legs_then}

-- the line of a train has one line feed, its last byte
legs_feed : (k : ℕ) (t : Train) (m : List ℕ) (i j : ℕ) → feeds (legs_text (suc k) t m i j []) ≡ 1
unfolding legs_text
legs_feed zero t m i j = feeds-digits (departure_of t m i j) (32 ∷ field (arrival_of t m i j) 10 []) ∙ feeds-digits (arrival_of t m i j) (10 ∷ [])
legs_feed (suc k) t m i j =
    feeds-digits (departure_of t m i j) (32 ∷ field (arrival_of t m i j) 32 (legs_text (suc k) t m i (j + 1) []))
    ∙ feeds-digits (arrival_of t m i j) (32 ∷ legs_text (suc k) t m i (j + 1) [])
    ∙ legs_feed k t m i (j + 1)

one_feed : (k : ℕ) (t : Train) (m : List ℕ) (i : ℕ) → 1 ≤ k → feeds (legs_text k t m i 0 []) ≡ 1
one_feed zero t m i h = absurd (omega arith)
one_feed (suc k) t m i h = legs_feed k t m i 0

module _ (l : Line) (m : List ℕ) where
  -- the line of a train
  abbrev train_line : ℕ → List ℕ → List ℕ
  train_line i rest = legs_text (legs l i) (train l i) m i 0 rest

  -- of k trains from train i on, where `front` stands before them, the line of the one q after train i
  trains_begin : (k i q : ℕ) (front rest : List ℕ) → q < k → ((x : ℕ) → x < i + k → 1 ≤ legs l x) →
      Begins (front ++ trains_text k l m i rest) (train_line (i + q)) (1 + feeds front + q)
  unfolding trains_text
  trains_begin zero i q front rest h some-legs = absurd (omega arith)
  trains_begin (suc k) i zero front rest h some-legs =
      let here : i + 0 ≡ i = omega arith in
      rw here (record { before = front; after = trains_text k l m (i + 1) rest; whole = refl; line = omega arith })
  trains_begin (suc k) i (suc q) front rest h some-legs =
      let next = trains_begin k (i + 1) q (front ++ train_line i []) rest (omega arith) (λ x n. some-legs x (omega arith)) in
      let there : i + suc q ≡ i + 1 + q = omega arith in
      rw there (record {
        before = next.before;
        after = next.after;
        whole =
            ap (λ (y : List ℕ). front ++ y) (legs_then (legs l i) (train l i) m i 0 (trains_text k l m (i + 1) rest))
            ∙ sym (append_assoc front (train_line i []) (trains_text k l m (i + 1) rest))
            ∙ next.whole;
        line = omega (arith, next.line, feeds-append front (train_line i []), one_feed (legs l i) (train l i) m i (some-legs i (omega arith)));
      })

  -- ---- the whole text

  module _ (w : Within l) (size : length l.traffic.trains ≡ 12) where
    train_begins : (i : ℕ) → i < l.traffic.train_count → Begins (timetable_text l m) (train_line i) (i + 2)
    unfolding timetable_text minutes_text
    train_begins i h =
        let n = l.traffic.train_count in
        let same : 0 + i ≡ i = omega arith in
        let lines : Begins (field_text n 10 ++ trains_text n l m 0 _) (train_line i) (1 + feeds (field_text n 10) + i) = rw same at
        (trains_begin n 0 i (field_text n 10) (rest_text l (list_numbers l m) (weighted_delay l m)) h
        (λ x g. (legs_few (train l x) (routed l x (within_runnable l w) size (omega arith))).0)) in
        record {
          before = lines.before;
          after = lines.after;
          whole = sym (append_assoc (digits n) (10 ∷ []) _) ∙ lines.whole;
          line = omega (arith, lines.line, feeds-digits n (10 ∷ []));
        }

    -- a train with a time over 2,879, whose line begins on line p
    pub record LateTrain (p : ℕ) : Type 0 where
      pub i : ℕ
      pub wrong : not (times_right (train l i) m i) ≡ true
      pub begins : Begins (timetable_text l m) (legs_text (legs l i) (train l i) m i 0) p

    pub minutes_fault_begins : (n p : ℕ) → minutes_fault l m ≡ refusal n p → LateTrain p
    unfolding minutes_fault
    minutes_fault_begins n p e = go (first (λ i. not (times_right (train l i) m i)) l.traffic.train_count) (first_is _ l.traffic.train_count) e
      where
        go : (o : Option ℕ) → IsFirst (λ i. not (times_right (train l i) m i)) l.traffic.train_count o → on_line o ≡ refusal n p → LateTrain p
        go none h f = let z : ◌≡◌ {A = ℕ} 0 1 = cc in absurd (omega arith)
        go (some i) h f =
            let q : i + 2 ≡ p = ap (λ (x : Checked). on_fault x 0 (λ m k. k)) f in
            record { i = i; wrong = h.1; begins = rw q at (train_begins i h.0) }
