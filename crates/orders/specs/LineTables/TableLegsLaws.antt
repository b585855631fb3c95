-- The entries of a line's tables: at the legs of its trains, at its segments, and the bounds of all of them.
use Rattle.std.specs.Prelude.{ℕ, ◌+◌, ◌*◌, ◌-◌, ◌/◌, ◌%◌, ◌≤◌, ◌<◌, ◌≡◌, Bool, length}
use Rattle.std.proofs.Math.Path.{refl, ap, subst}
use Rattle.std.proofs.Common.{sym, ◌∙◌, lt-ltb, eq-eqb, ne_eqb}
use Rattle.std.proofs.Math.Bool.{true, false, cond}
use Rattle.std.proofs.Math.Decide.{dec_lt}
use native.Mathlib.Omega.{arith}
use Rattle.std.proofs.Math.ListN.{get_or}
use Rattle.finite.specs.DecideLaws.{by_test, is_true, is_false}
use Rattle.finite.specs.EachLaws.{each_at, each_take}
use Rattle.finite.specs.BelowLaws.{table_at, table_size_lem}
use Rattle.line.specs.declared.Line.{Line}
use Rattle.line.specs.Ranges.{In, run}
use Rattle.line.specs.Within.{TrainArrays, Arrays}
use Rattle.line.specs.Runnable.{held_stop, Runnable}
use Rattle.rules.specs.Statement.Paths.{past_train, train, segment_count, segment, legs, run_of, stop_of, segment_of, Routed}
use Rattle.rules.specs.Statement.Minutes.{departs}
use Rattle.rules.specs.Statement.Delay.{due}
use Rattle.rules.specs.StatementLaws.PathsLaws.{segment_within, train_runnable, routed, legs_few, uses-leg, leg-uses, leg_back}
use Rattle.orders.specs.Graph.LegsLaws.{Leg, leg_test, train-leg}
use Rattle.orders.specs.LineTables.Tables.{leg_table, table_size, run_in, stop_in, next_in, limit_in, weight_in, due_in, rest_in, last_in, shared_in, following_in, opposing_in, is_last, rest_after, limit_of, leg_value, no_leg_value, shares, segment_value, on_leg, leg_entry, segment_entry, tables_of}
use Rattle.orders.specs.LineTables.TablesLaws.{no_segment_is, segments_first, legs-later}

-- ---- one list of tables

pub tables_size : (l : Line) → length (tables_of l) ≡ table_size
unfolding tables_of
tables_size l = table_size_lem _ table_size

leg-entry : (l : Line) (n e : ℕ) → n < 8 → e < 176 → get_or (tables_of l) (leg_table n + e) 0 ≡ leg_entry l n e
unfolding tables_of
leg-entry l n e a b =
    let s : (48 + 176 * n + e - 48) / 176 ≡ n = omega arith in
    let t : (48 + 176 * n + e - 48) % 176 ≡ e = omega arith in
    table_at _ table_size (leg_table n + e) (omega arith) ∙ sym (legs-later l (leg_table n + e) (omega arith)) ∙ rw (s, t) refl

segment-entry : (l : Line) (n p x : ℕ) → n < 3 → p < 11 → x ≡ 16 * n + p → get_or (tables_of l) x 0 ≡ segment_entry l n p
unfolding tables_of
segment-entry l n p x a b q =
    let s : x / 16 ≡ n = omega arith in
    let t : x % 16 ≡ p = omega arith in
    table_at _ table_size x (omega arith) ∙ sym (segments_first l x (omega arith)) ∙ rw (s, t) refl

-- ---- a leg by its segment

module _ (l : Line) (f : ℕ → ℕ → ℕ) (z : ℕ) where
  pub on-leg : (i k : ℕ) → i < l.traffic.train_count → i < 16 → Routed (train l i) → k < legs l i →
      on_leg l f z (departs (segment_of (train l i) k) i) ≡ f i k
  on-leg i k n b r h =
      let p = segment_of (train l i) k in
      let q : (16 * p + i) / 16 ≡ p = omega arith in
      let s : (16 * p + i) % 16 ≡ i = omega arith in
      let leg : Leg l (16 * p + i) = rw (s, q) (n, leg-uses (train l i) r k h) in
      rw (is_true (leg_test l (16 * p + i)) leg, s, q) (ap (f i) (leg_back (train l i) r k h))

  pub on-leg_off : (e : ℕ) → (Leg l e → ⊥) → on_leg l f z e ≡ z
  on-leg_off e h = rw (is_false (leg_test l e) h) refl

module _ (l : Line) (w : Runnable l) (r : Arrays l) where
  -- entry e of table n is the value of leg k of train i
  leg_value_lem : (n i k : ℕ) → n < 8 → i < l.traffic.train_count → k < legs l i →
      let e = departs (segment_of (train l i) k) i in get_or (tables_of l) (leg_table n + e) 0 ≡ leg_value n l e i k
  unfolding leg_entry
  leg_value_lem n i k few b h =
      let e = departs (segment_of (train l i) k) i in
      leg-entry l n e few (train-leg l w r i b k h).0 ∙
      on-leg l (leg_value n l e) (no_leg_value n e) i k b (omega (arith, w.trains.1)) (routed l i w r.trains b) h

  -- what holds of the values of all legs, and of the value elsewhere, holds of every entry
  leg_or : (P : ℕ → Type 0) (n e : ℕ) → n < 8 → e < 176 →
      ((i k : ℕ) → i < l.traffic.train_count → k < legs l i → e ≡ departs (segment_of (train l i) k) i → P (leg_value n l e i k)) → P (no_leg_value n e) →
      P (get_or (tables_of l) (leg_table n + e) 0)
  unfolding leg_entry
  leg_or P n e few b h rest =
      let i = e % 16 in
      by_test (leg_test l e)
      (λ u.
      let k = uses-leg (train l i) (e / 16) u.1 in
      let at : e ≡ 16 * segment_of (train l i) k.0 + i = omega (arith, k.2) in
      subst P (sym (ap (λ (x : ℕ). get_or (tables_of l) (leg_table n + x) 0) at ∙ leg_value_lem n i k.0 few u.0 k.1 ∙ ap (λ (x : ℕ). leg_value n l x i k.0) (sym at)))
      (h i k.0 u.0 k.1 at))
      (λ u. subst P (sym (leg-entry l n e few b ∙ on-leg_off l (leg_value n l e) (no_leg_value n e) e u)) rest)

  -- ---- what Runnable says of the entries of a path

  arrays : (i : ℕ) → i < l.traffic.train_count → TrainArrays (train l i)
  arrays i n =
      each_at TrainArrays 12 l.traffic.trains i past_train (omega (arith, r.trains)) (omega (arith, w.trains.1))
      (each_take TrainArrays 12 l.traffic.trains r.each_train)

  pub run_in_lem : (i k : ℕ) → i < l.traffic.train_count → k < legs l i → In run (run_of l i k)
  run_in_lem i k n h =
      each_at (In run) (legs l i) (train l i).runs k 0 (omega (arith, (arrays i n).0, (legs_few (train l i) (routed l i w r.trains n)).1)) h
      (train_runnable l i w r.trains n).runs

  stop_in_lem : (i k : ℕ) → i < l.traffic.train_count → k < legs l i - 1 → In held_stop (stop_of l i k)
  stop_in_lem i k n h =
      each_at (In held_stop) (legs l i - 1) (train l i).stops k 0 (omega (arith, (arrays i n).1, (legs_few (train l i) (routed l i w r.trains n)).1)) h
      (train_runnable l i w r.trains n).stops

  -- ---- at leg k of train i

  module _ (i k : ℕ) (b : i < l.traffic.train_count) (h : k < legs l i) where
    abbrev e : ℕ
    e = departs (segment_of (train l i) k) i

    pub run_at : run_in (tables_of l) e ≡ run_of l i k
    run_at = leg_value_lem 0 i k (omega arith) b h

    pub limit_at : limit_in (tables_of l) e ≡ limit_of l i k
    limit_at = leg_value_lem 3 i k (omega arith) b h

    pub rest_at : rest_in (tables_of l) e ≡ rest_after l i k
    rest_at = leg_value_lem 6 i k (omega arith) b h

    pub last_at : last_in (tables_of l) e ≡ departs (segment_of (train l i) (legs l i - 1)) i
    last_at = leg_value_lem 7 i k (omega arith) b h ∙ omega (arith, w.trains.1)

    module _ (m : k + 1 < legs l i) where
      later : is_last (train l i) k ≡ false
      later = ne_eqb (k + 1) (legs l i) (omega arith)

      pub stop_at : stop_in (tables_of l) e ≡ stop_of l i k
      stop_at = leg_value_lem 1 i k (omega arith) b h ∙ rw later refl

      pub next_at : next_in (tables_of l) e ≡ departs (segment_of (train l i) (k + 1)) i
      next_at = leg_value_lem 2 i k (omega arith) b h ∙ rw later (omega (arith, w.trains.1))

    module _ (m : k + 1 ≡ legs l i) where
      last : is_last (train l i) k ≡ true
      last = eq-eqb (k + 1) (legs l i) m

      pub next_last : next_in (tables_of l) e ≡ e
      next_last = leg_value_lem 2 i k (omega arith) b h ∙ rw last refl

      pub weight_last : weight_in (tables_of l) e ≡ (train l i).weight
      weight_last = leg_value_lem 4 i k (omega arith) b h ∙ rw last refl

      pub due_last : due_in (tables_of l) e ≡ due l i
      due_last = leg_value_lem 5 i k (omega arith) b h ∙ rw last refl

  -- no weight where no train has its last leg
  pub weight_else : (e : ℕ) → e < 176 → ((i k : ℕ) → i < l.traffic.train_count → k + 1 ≡ legs l i → e ≡ departs (segment_of (train l i) k) i → ⊥) →
      weight_in (tables_of l) e ≡ 0
  unfolding no_leg_value
  weight_else e b h =
      leg_or (λ x. x ≡ 0) 4 e (omega arith) b (λ i k n m q. rw (ne_eqb (k + 1) (legs l i) (λ y. h i k n y q)) refl) refl

  -- ---- at segment p

  module _ (p : ℕ) (h : p < segment_count l) where
    low : p < 11
    low = omega (arith, w.stations.1)

    here : (n : ℕ) → segment_entry l n p ≡ segment_value n (segment l p)
    unfolding segment_entry
    here n = rw (lt-ltb p (segment_count l) h) refl

    pub shared_at : shared_in (tables_of l) p ≡ shares (segment l p).kind
    unfolding segment_value
    shared_at = segment-entry l 0 p p (omega arith) low (omega arith) ∙ here 0

    pub following_at : following_in (tables_of l) p ≡ (segment l p).following
    unfolding segment_value
    following_at = segment-entry l 1 p (16 + p) (omega arith) low (omega arith) ∙ here 1

    pub opposing_at : opposing_in (tables_of l) p ≡ (segment l p).opposing
    unfolding segment_value
    opposing_at = segment-entry l 2 p (32 + p) (omega arith) low (omega arith) ∙ here 2

  -- ---- bounds

  pub run-most : (e : ℕ) → e < 176 → run_in (tables_of l) e ≤ 240
  unfolding no_leg_value
  run-most e b = leg_or (λ x. x ≤ 240) 0 e (omega arith) b (λ i k n h q. (run_in_lem i k n h).1) (omega arith)

  pub stop-most : (e : ℕ) → e < 176 → stop_in (tables_of l) e ≤ 480
  unfolding no_leg_value
  stop-most e b =
      leg_or (λ x. x ≤ 480) 1 e (omega arith) b
      (λ i k n h q. elim (dec_lt (k + 1) (legs l i)) [
        | yes m ↦ rw (ne_eqb (k + 1) (legs l i) (omega arith)) (stop_in_lem i k n (omega arith)).1
        | no m ↦ rw (eq-eqb (k + 1) (legs l i) (omega arith)) (omega arith)
      ])
      (omega arith)

  pub limit_most : (e : ℕ) → e < 176 → limit_in (tables_of l) e ≤ 2879
  unfolding no_leg_value
  limit_most e b =
      leg_or (λ x. x ≤ 2879) 3 e (omega arith) b (λ i k n h q. omega (arith, (train_runnable l i w r.trains n).latest.1)) (omega arith)

  pub weight-most : (e : ℕ) → e < 176 → weight_in (tables_of l) e ≤ 99
  unfolding no_leg_value
  weight-most e b =
      leg_or (λ x. x ≤ 99) 4 e (omega arith) b
      (λ i k n h q. kept (is_last (train l i) k) (train l i).weight (train_runnable l i w r.trains n).weight.1)
      (omega arith)
    where
      kept : (c : Bool) (x : ℕ) → x ≤ 99 → cond c x 0 ≤ 99
      kept true x a = a
      kept false x a = omega arith

  pub gap-most : (p : ℕ) → p < 11 → (following_in (tables_of l) p ≤ 60) × (opposing_in (tables_of l) p ≤ 60)
  gap-most p b = elim (dec_lt p (segment_count l)) [
    | yes h ↦
        let g = segment_within l p w r.segments h in
        (omega (arith, following_at p h, g.following.1), omega (arith, opposing_at p h, g.opposing.1))
    | no h ↦
        let none : (n : ℕ) → 0 ≡ segment_entry l n p = λ n. no_segment_is l n p (omega arith) in (
          omega (arith, segment-entry l 1 p (16 + p) (omega arith) b (omega arith), none 1),
          omega (arith, segment-entry l 2 p (32 + p) (omega arith) b (omega arith), none 2),
        )
  ]
