-- The text of a timetable is read as its minutes, lists and total: each field is read as its value, and stored into entries of its own.
use Prim.Native.Nat.{ℕ, zero, suc, ◌+◌, ◌≤◌, ◌<◌}
use Rattle.std.specs.Prelude.{◌≡◌, cond, true, false, None, eqb, length, replicate}
use Rattle.std.proofs.Math.Path.{refl}
use Rattle.std.proofs.Common.{◌∙◌, arith, le-ltb}
use mathlib.Core.List.{List, [], ◌∷◌, map-id}
use Rattle.std.proofs.lemmas.List.{length-replicate}
use Rattle.text.specs.declared.Cursor.{Cursor}
use Rattle.text.specs.Reading.Bytes.{from, digit_of}
use Rattle.text.specs.Reading.BytesLaws.{from_skip, at_length, past_reads, space_ends, feed_ends}
use Rattle.text.specs.Writing.Digits.{digits}
use Rattle.text.specs.Writing.DigitsLaws.{digits-length, number_reads, past_text, field_reads, field_leaves, past_field}
use Rattle.finite.specs.Each.{Each}
use Rattle.text.specs.Elements.EachThen.{each_then}
use Rattle.finite.specs.Below.{EachFrom}
use Rattle.finite.specs.LoopLaws.{each_first}
use Rattle.text.specs.Reading.Parsed.{Parsed, many, lines}
use Rattle.text.proofs.Reading.ParsedLaws.{bounded_fits, Reads, ranged_reads, at_end, reads_then, many_reads}
use Rattle.line.specs.declared.Train.{Train}
use Rattle.line.specs.declared.Line.{Line}
use Rattle.line.specs.Record.{legs_of}
use Rattle.line.specs.Within.{Within}
use Rattle.line.specs.RunnableLaws.{within_runnable}
use Rattle.line.specs.Spell.{field}
use Rattle.line.specs.File.{after_field}
use Rattle.rules.specs.Statement.Paths.{train, legs, segment_of, Routed, EachTrain, EachLeg}
use Rattle.rules.specs.Statement.Minutes.{departs, arrives, departure, arrival}
use Rattle.rules.specs.Check.Tests.{departure_of, arrival_of}
use Rattle.rules.specs.Statement.Rules.{InDays}
use Rattle.rules.specs.Statement.Delay.{Same}
use Rattle.rules.specs.Lists.Orders.{list_count}
use Rattle.rules.specs.Lists.OrdersLaws.{lists_few}
use Rattle.rules.specs.StatementLaws.PathsLaws.{routed_leg}
use Rattle.timetable.specs.Reading.{with_leg, legs_at, trains_at, minutes_at, own_count_at, name_at, list_at, total_at, rest_at, timetable_file}
use Rattle.timetable.specs.ReadingLaws.{legs_step, trains_step, minutes_counted}
use Rattle.timetable.specs.ListLaws.{own_value}
use Rattle.timetable.specs.Spell.{legs_text, trains_text, minutes_text, names_text, list_text, rest_text}
use Rattle.timetable.specs.StoresLaws.{leg_stored, legs_stored, departure_stored, arrival_stored, trains_stored, earlier_stays}
use Rattle.timetable.specs.SpeltLaws.{DaysAt}

after_ends : (k : ℕ) → digit_of (after_field k) ≡ None
after_ends zero = feed_ends
after_ends (suc k) = space_ends

-- ---- the legs of a train, which is train i, with the minutes m

module _ (t : Train) (r : 1 ≤ legs_of t → Routed t) (i : ℕ) (few : i < 16) (m s : List ℕ) where
  -- k legs from leg j on are read, which makes the minutes m₀ into others with those of m for these legs
  record LegsRead (k j : ℕ) (m₀ : List ℕ) (c : Cursor) (rest : List ℕ) : Type 0 where
    minutes : List ℕ
    reads : Reads (legs_at k t i j m₀ s c) minutes s rest
    same : EachFrom k j (λ q. (departure_of t minutes i q ≡ departure_of t m i q) × (arrival_of t minutes i q ≡ arrival_of t m i q))

  legs_read : (k j : ℕ) (m₀ : List ℕ) (c : Cursor) (rest : List ℕ) → length m₀ ≡ 352 → j + k ≤ legs_of t → ((q : ℕ) → q < legs_of t → DaysAt t m i q) →
      from s c ≡ legs_text k t m i j rest → LegsRead k j m₀ c rest
  unfolding legs_text
  legs_read zero j m₀ c rest size path days e = record { minutes = m₀; reads = unfold legs_at in at_end m₀ c e; same = λ q low high. absurd (omega arith) }
  legs_read (suc k) j m₀ c rest size path days e =
      let d = departure_of t m i j in
      let a = arrival_of t m i j in
      let others = legs_text k t m i (j + 1) rest in
      let time = days j (omega arith) in
      let first = ranged_reads 8 9 0 2879 32 s c d (field a (after_field k) others) space_ends (omega arith) time.0 (omega arith) e in
      let second = ranged_reads 8 9 0 2879 (after_field k) s first.next a others (after_ends k) (omega arith) time.1 (omega arith) first.leaves in
      let more = legs_read k (j + 1) (with_leg t i j d a m₀) second.next rest ((leg_stored t i j d a m₀).size ∙ size) (omega arith) days second.leaves in
      let path_ends = r (omega arith) in
      let stored = legs_stored t i k (j + 1) (with_leg t i j d a m₀) s second.next more.minutes more.reads.next more.reads.reads in
      let depart = departure_stored t i path_ends few k j d a m₀ more.minutes size path stored in
      let arrive = arrival_stored t i path_ends few k j d a m₀ more.minutes size path stored in
      record {
        minutes = more.minutes;
        reads = record {
          next = more.reads.next;
          reads = legs_step (suc k) t i j m₀ s c k refl first.reads (segment_of t j) second.reads refl ∙ more.reads.reads;
          leaves = more.reads.leaves;
        };
        same = each_first _ k j (depart, arrive) more.same;
      }

-- ---- the trains of a line

module _ (l : Line) (w : Within l) (m : List ℕ) (days : EachTrain l (InDays l m)) (s : List ℕ) where
  abbrev SameTimes : List ℕ → ℕ → Type 0
  SameTimes m' i = EachLeg l i (λ k. (departure l m' i k ≡ departure l m i k) × (arrival l m' i k ≡ arrival l m i k))

  -- k trains from train i on are read, which makes the minutes m₀ into others with those of m for these trains
  record TrainsRead (k i : ℕ) (m₀ : List ℕ) (c : Cursor) (rest : List ℕ) : Type 0 where
    minutes : List ℕ
    reads : Reads (trains_at k l i m₀ s c) minutes s rest
    same : EachFrom k i (SameTimes minutes)

  trains_read_lem : (k i : ℕ) (m₀ : List ℕ) (c : Cursor) (rest : List ℕ) → length m₀ ≡ 352 → i + k ≤ l.traffic.train_count → from s c ≡ trains_text k l m i rest →
      TrainsRead k i m₀ c rest
  unfolding trains_text
  trains_read_lem zero i m₀ c rest size count e = record { minutes = m₀; reads = unfold trains_at in at_end m₀ c e; same = λ q low high. absurd (omega arith) }
  trains_read_lem (suc k) i m₀ c rest size count e =
      let t = train l i in
      let few : i + suc k ≤ 12 = omega (arith, w.trains) in
      let path = routed_leg l i (within_runnable l w) (omega arith) in
      let others = trains_text k l m (i + 1) rest in
      let one = legs_read t path i (omega arith) m s (legs l i) 0 m₀ c others size (omega arith) (days i (omega arith)) e in
      let first = one.reads in
      let long = (legs_stored t i (legs l i) 0 m₀ s c one.minutes first.next first.reads).size ∙ size in
      let more = trains_read_lem k (i + 1) one.minutes first.next rest long (omega arith) first.leaves in
      let kept = earlier_stays l (trains_stored l k (i + 1) one.minutes s first.next more.minutes more.reads.next more.reads.reads) (omega arith) in
      record {
        minutes = more.minutes;
        reads = record {
          next = more.reads.next;
          reads = trains_step (suc k) l i m₀ s c k refl first.reads ∙ more.reads.reads;
          leaves = more.reads.leaves;
        };
        same = each_first (SameTimes more.minutes) k i
            (λ j h.
            let read = one.same j (omega arith) (omega arith) in
            (kept (departs (segment_of t j) i) (omega arith) ∙ read.0, kept (arrives (segment_of t j) i) (omega arith) ∙ read.1))
            more.same;
      }

  -- the first part of the text
  pub record MinutesRead (c : Cursor) (rest : List ℕ) : Type 0 where
    pub minutes : List ℕ
    pub reads : Reads (minutes_at l s c) minutes s rest
    pub same : Same l minutes m

  pub minutes_read : (c : Cursor) (rest : List ℕ) → from s c ≡ minutes_text l m rest → MinutesRead c rest
  unfolding minutes_text
  minutes_read c rest e =
      let n = l.traffic.train_count in
      let count = ranged_reads 8 9 n n 10 s c n (trains_text n l m 0 rest) feed_ends (omega arith) (omega arith) (omega (arith, w.trains)) e in
      let lines = trains_read_lem n 0 (replicate 352 0) count.next rest (length-replicate {A = ℕ} 352 0) (omega arith) count.leaves in
      record {
        minutes = lines.minutes;
        reads = record {
          next = lines.reads.next;
          reads = minutes_counted l s c count.reads ∙ lines.reads.reads;
          leaves = lines.reads.leaves;
        };
        same = λ i h. lines.same i (omega arith) (omega arith);
      }

-- the train lines that are written are read back, to their end, as the same minutes
pub lines_back : (l : Line) (w : Within l) (m : List ℕ) (days : EachTrain l (InDays l m)) →
    MinutesRead l w m days (minutes_text l m []) (record { at = 0; line = 1 }) []
lines_back l w m days = minutes_read l w m days (minutes_text l m []) (record { at = 0; line = 1 }) [] refl

-- ---- an order list

-- a list of a line with n trains: no more than those, by their numbers
pub record ListWithin (n : ℕ) (xs : List ℕ) : Type 0 where
  pub few : length xs ≤ n
  pub numbers : Each (λ x. (1 ≤ x) × (x ≤ n)) xs

own_ends : (v : ℕ) → digit_of (cond (eqb v 0) 10 32) ≡ None
own_ends v = elim (eqb v 0) as (λ b. digit_of (cond b 10 32) ≡ None) [ true ↦ feed_ends | false ↦ space_ends ]

module _ (n : ℕ) (small : n ≤ 12) (s : List ℕ) where
  own_reads : (c : Cursor) (v : ℕ) (rest : List ℕ) → v ≤ n → from s c ≡ field v (cond (eqb v 0) 10 32) rest → Reads (own_count_at n s c) v s rest
  own_reads c v rest h e =
      let b : ℕ = cond (eqb v 0) 10 32 in
      let few : length (digits v) ≤ 4 = digits-length 3 v (omega arith) in
      let number = number_reads 4 s c v (b ∷ rest) (omega arith) few (omega arith) e (own_ends v) in
      let past = past_reads s (past_text c (digits v)) b rest (from_skip s c (digits v) (b ∷ rest) e) in
      record {
        next = past_field c v b;
        reads = own_value n s c number refl past (bounded_fits 0 n v (omega arith) h);
        leaves = field_leaves 4 s c v b rest (omega arith) few (omega arith) (own_ends v) e;
      }

  -- the trains xs of a list, each with as many after it as are left
  names_read : (xs : List ℕ) (c : Cursor) (rest : List ℕ) → Each (λ x. (1 ≤ x) × (x ≤ n)) xs → from s c ≡ names_text xs rest →
      Reads (many (length xs) (name_at n) s c) xs s rest
  unfolding many names_text
  names_read [] c rest w e = at_end [] c e
  names_read (x ∷ xs) c rest w e =
      reads_then _ (ranged_reads 8 9 1 n (after_field (length xs)) s c x (names_text xs rest) (after_ends (length xs)) w.0.0 w.0.1 (omega arith) e)
      (λ c₁ e₁. reads_then _ (names_read xs c₁ rest w.1 e₁)
      (λ c₂ e₂. at_end _ c₂ e₂))

  list_reads : (c : Cursor) (xs rest : List ℕ) → ListWithin n xs → from s c ≡ list_text xs rest → Reads (list_at n s c) xs s rest
  unfolding list_at list_text
  list_reads c xs rest w e =
      reads_then _ (own_reads c (length xs) (names_text xs rest) w.few e)
      (λ c₁ e₁. names_read xs c₁ rest w.numbers e₁)

-- ---- lists and total

total_reads : (s : List ℕ) (c : Cursor) (v : ℕ) (rest : List ℕ) → v < 10000000 → from s c ≡ field v 10 rest → Reads (total_at s c) v s rest
unfolding total_at
total_reads s c v rest small e =
    let few : length (digits v) ≤ 7 = digits-length 6 v (omega arith) in
    record {
      next = past_field c v 10;
      reads = simp (field_reads 7 s c v 10 rest (omega arith) few small feed_ends e);
      leaves = field_leaves 7 s c v 10 rest (omega arith) few small feed_ends e;
    }

module _ (l : Line) (w : Within l) (ls : List (List ℕ)) (total : ℕ)
    (count : length ls ≡ list_count l) (each : Each (ListWithin l.traffic.train_count) ls) (small : total < 10000000) where
  rest_reads : (s : List ℕ) (c : Cursor) → from s c ≡ rest_text l ls total → Reads (rest_at l s c) (record { lists = ls; total = total }) s []
  unfolding rest_at rest_text
  rest_reads s c e =
      let n = list_count l in
      let trains = l.traffic.train_count in
      let one = list_reads trains w.trains.1 s in
      let few : n < 10000 = omega (arith, lists_few l (omega (arith, w.stations))) in
      let last = field total 10 [] in
      let lists : (c₁ : Cursor) → from s c₁ ≡ each_then list_text ls last → Reads (lines n (list_at trains) s c₁) ls s last =
      λ c₁ e₁. rw (map-id ls) at (many_reads (ListWithin trains) list_text (λ xs. xs) (λ left. list_at trains) s (λ left. one) n ls count c₁ last each e₁) in
      reads_then _ (ranged_reads 8 9 n n 10 s c n _ feed_ends (omega arith) (omega arith) few e)
      (λ c₁ e₁. reads_then _ (lists c₁ e₁)
      (λ c₂ e₂. reads_then _ (total_reads s c₂ total [] small e₂)
      (λ c₃ e₃. rw (le-ltb c₃.at (length s) (at_length s c₃ e₃)) (at_end _ c₃ e₃))))

  -- ---- the whole text

  -- the text s is read as the minutes of m, the lists and the total
  pub record TimetableReads (m s : List ℕ) : Type 0 where
    pub minutes : List ℕ
    pub end : Cursor
    pub reads : timetable_file l s ≡ Parsed.got (record { minutes = minutes; rest = record { lists = ls; total = total } }) end
    pub same : Same l minutes m

  pub timetable_reads : (m : List ℕ) → EachTrain l (InDays l m) → length (minutes_text l m (rest_text l ls total)) ≤ 4096 →
      TimetableReads m (minutes_text l m (rest_text l ls total))
  timetable_reads m days short =
      let s = minutes_text l m (rest_text l ls total) in
      let first = minutes_read l w m days s (record { at = 0; line = 1 }) (rest_text l ls total) refl in
      let whole = file_reads s first.minutes short first.reads in
      record { minutes = first.minutes; end = whole.next; reads = whole.reads; same = first.same }
    where
      file_reads : (s m' : List ℕ) → length s ≤ 4096 → Reads (minutes_at l s (record { at = 0; line = 1 })) m' s (rest_text l ls total) →
          Reads (timetable_file l s) (record { minutes = m'; rest = record { lists = ls; total = total } }) s []
      file_reads s m' h a = unfold timetable_file in
          rw (le-ltb 4096 (length s) h) (reads_then _ a (λ c₁ e₁. reads_then _ (rest_reads s c₁ e₁) (λ c₂ e₂. at_end _ c₂ e₂)))
