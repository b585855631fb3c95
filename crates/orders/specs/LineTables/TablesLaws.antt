-- What the code that makes the tables of a line needs: bounds of a train's runs and stops, the leg of a segment, and each entry by the arms of the code.
use Prim.Native.Nat.{ℕ, zero, suc, ◌+◌, ◌*◌, ◌-◌, ◌/◌, ◌%◌, ◌≤◌, ◌<◌}
use Rattle.std.specs.Prelude.{◌≡◌, List, get_or}
use Rattle.std.proofs.Math.Path.{refl}
use Rattle.std.proofs.Common.{sym, ◌∙◌, ap}
use Rattle.std.proofs.Math.Decide.{dec_lt}
use Rattle.std.proofs.Math.Numerals.{add-one}
use native.Mathlib.Omega.{arith}
use borrow.Author.Tests.{lt-ltb, le-ltb, eq-eqb, ne_eqb}
use Rattle.finite.specs.DecideLaws.{is_true, is_false}
use Rattle.line.specs.declared.Segment.{Segment}
use Rattle.line.specs.declared.Train.{Train}
use Rattle.line.specs.declared.Line.{Line}
use Rattle.line.specs.Record.{legs_of}
use Rattle.line.specs.Runnable.{Runnable}
use Rattle.rules.specs.Statement.Paths.{train, segment_count, segment, run_of, stop_of, legs, segment_of, leg_on, Uses, Routed}
use Rattle.rules.specs.StatementLaws.PathsLaws.{run-most, stop-most}
use Rattle.rules.specs.Statement.Delay.{due}
use Rattle.orders.specs.Graph.LegsLaws.{Leg, leg_test}
use Rattle.orders.specs.LineTables.Tables.{table_size, next_leg, last_leg, rest_of, stop_after, rest_after, limit_of, at_last, leg_value, no_leg_value, shares, segment_value, leg_entry, segment_entry, table_entry, tables_of}
use Rattle.finite.specs.FillLaws.{Begun, begun_all}

-- ---- a path

-- the leg of a segment that it uses, as the code counts it
module _ (t : Train) (r : Routed t) (p : ℕ) (u : Uses t p) where
  pub leg_out : t.origin < t.destination → (t.origin ≤ p + 1) × (p + 1 - t.origin ≡ leg_on t p) × (p + 1 - t.origin < legs_of t)
  leg_out h =
      let low : t.origin ≤ p + 1 = omega (arith, u.0) in
      let high : p + 1 < t.destination = omega (arith, u.1) in
      (low, rw (lt-ltb t.origin t.destination h) (omega (arith, low, r.origin.0)), omega (arith, low, high))

  pub leg_in : t.destination ≤ t.origin → (p + 2 ≤ t.origin) × (t.origin - 2 - p ≡ leg_on t p) × (t.origin - 2 - p < legs_of t)
  leg_in h =
      let low : t.destination ≤ p + 1 = omega (arith, u.0) in
      let high : p + 2 ≤ t.origin = omega (arith, u.1) in
      (high, rw (le-ltb t.origin t.destination h) (omega arith), omega (arith, low, high))

module _ (t : Train) (k : ℕ) where
  pub next_last : (e : ℕ) → k + 1 ≡ legs_of t → e ≡ next_leg e t k
  next_last e h = rw (eq-eqb (k + 1) (legs_of t) h) refl

  pub next-on : (e p : ℕ) → (k + 1 ≡ legs_of t → ⊥) → p ≡ segment_of t (k + 1) → 16 * p + e % 16 ≡ next_leg e t k
  next-on e p h q = rw (ne_eqb (k + 1) (legs_of t) h, q) refl

pub last_on : (t : Train) (e p legs : ℕ) → legs ≡ legs_of t → p ≡ segment_of t (legs - 1) → 16 * p + e % 16 ≡ last_leg e t
last_on t e p legs h q = rw (q, h) refl

-- ---- the values of a leg

module _ (l : Line) (i : ℕ) where
  pub rest_start : 0 ≡ rest_of l i 0
  unfolding rest_of
  rest_start = refl

  pub rest_next : (j : ℕ) → rest_of l i (j + 1) ≡ rest_of l i j + stop_of l i (legs l i - 2 - j) + run_of l i (legs l i - 1 - j)
  unfolding rest_of
  rest_next j = rw add-one refl

  -- the same with the runs and stops of the train
  pub rest_step : (j : ℕ) {a n : ℕ} {runs stops : List ℕ} → n ≡ legs l i → runs ≡ (train l i).runs → stops ≡ (train l i).stops → a ≡ rest_of l i j →
      a + get_or stops (n - 2 - j) 0 + get_or runs (n - 1 - j) 0 ≡ rest_of l i (j + 1)
  rest_step j q r s e = rw (q, r, s, e, rest_next j) refl

  -- what is left after a leg: a stop, the run over the next leg, and what is left after that
  pub rest_on : (k : ℕ) → k + 1 < legs l i → rest_after l i k ≡ rest_after l i (k + 1) + stop_of l i k + run_of l i (k + 1)
  rest_on k h =
      let p = counted (legs l i) k h in
      ap (rest_of l i) p.0 ∙ rest_next (legs l i - 1 - (k + 1)) ∙ rw (p.1, p.2) refl
    where
      counted : (n k : ℕ) → k + 1 < n → (n - 1 - k ≡ n - 1 - (k + 1) + 1) × (n - 2 - (n - 1 - (k + 1)) ≡ k) × (n - 1 - (n - 1 - (k + 1)) ≡ k + 1)
      counted n k h = (omega arith, omega arith, omega arith)

  pub rest_most : Runnable l → i < l.traffic.train_count → (j : ℕ) → j < legs l i → rest_of l i j ≤ 720 * j
  unfolding rest_of
  rest_most w h zero b = omega arith
  rest_most w h (suc j) b =
      omega (
        arith,
        rest_most w h j (omega arith),
        stop-most l i w h (legs l i - 2 - j) (omega arith),
        run-most l i w h (legs l i - 1 - j) (omega arith),
      )

  module _ (k : ℕ) where
    pub stop_last : k + 1 ≡ legs l i → 0 ≡ stop_after l i k
    stop_last h = rw (eq-eqb (k + 1) (legs l i) h) refl

    pub stop-on : (k + 1 ≡ legs l i → ⊥) → stop_of l i k ≡ stop_after l i k
    stop-on h = rw (ne_eqb (k + 1) (legs l i) h) refl

    pub at_last_lem : (f : ℕ → ℕ) → k + 1 ≡ legs l i → f i ≡ at_last l f i k
    at_last_lem f h = rw (eq-eqb (k + 1) (legs l i) h) refl

    pub not_last : (f : ℕ → ℕ) → k + 1 < legs l i → 0 ≡ at_last l f i k
    not_last f h = rw (ne_eqb (k + 1) (legs l i) (omega arith)) refl

    module _ {n rest : ℕ} (e : n ≡ legs l i) (h : rest ≡ rest_of l i (n - 1 - k)) where
      pub rest_after_lem : rest ≡ rest_after l i k
      rest_after_lem = rw (h, e) refl

      pub limit_some : (train l i).latest - rest ≡ limit_of l i k
      limit_some = rw (h, e) refl

      pub limit_none : (train l i).latest ≤ rest → 0 ≡ limit_of l i k
      limit_none b =
          let none : (train l i).latest - rest ≡ 0 = omega arith in
          sym none ∙ limit_some

-- ---- entries of the tables of legs, where leg k of a train is

module _ (l : Line) (e n k : ℕ) (leg : Leg l e) (here : k ≡ leg_on (train l (e % 16)) (e / 16)) where
  -- in table j
  pub entry_of : {x : ℕ} (j : ℕ) → n ≡ j → x ≡ leg_value j l e (e % 16) k → x ≡ leg_entry l n e
  unfolding leg_entry
  entry_of j q h = h ∙ rw (is_true (leg_test l e) leg, q, here) refl

  -- only at the last leg are a weight and a due minute
  pub entry-middle : 4 ≤ n → n < 6 → k + 1 < legs l (e % 16) → 0 ≡ leg_entry l n e
  entry-middle low high b = elim (dec_lt n 5) [
    | yes h ↦ entry_of 4 (omega arith) (not_last l (e % 16) k (λ j. (train l j).weight) b)
    | no h ↦ entry_of 5 (omega arith) (not_last l (e % 16) k (due l) b)
  ]

  pub entry-due : n ≡ 5 → k + 1 ≡ legs l (e % 16) → due l (e % 16) ≡ leg_entry l n e
  entry-due q b = entry_of 5 q (at_last_lem l (e % 16) k (due l) b)

-- ---- and where none is

pub no_leg_is : (l : Line) (n e : ℕ) → (Leg l e → ⊥) → no_leg_value n e ≡ leg_entry l n e
unfolding leg_entry
no_leg_is l n e h = rw (is_false (leg_test l e) h) refl

module _ (n e : ℕ) where
  pub no_leg-next : n ≡ 2 → e ≡ no_leg_value n e
  unfolding no_leg_value
  no_leg-next q = rw (eq-eqb n 2 q) refl

  pub no_leg_last : n ≡ 7 → e ≡ no_leg_value n e
  unfolding no_leg_value
  no_leg_last q = rw (ne_eqb n 2 (omega arith), eq-eqb n 7 q) refl

  pub no_leg_other : (n ≡ 2 → ⊥) → (n ≡ 7 → ⊥) → 0 ≡ no_leg_value n e
  unfolding no_leg_value
  no_leg_other q r = rw (ne_eqb n 2 q, ne_eqb n 7 r) refl

-- ---- entries of the tables of segments

module _ (g : Segment) (n : ℕ) where
  pub segment_following : n ≡ 1 → g.following ≡ segment_value n g
  unfolding segment_value
  segment_following q = rw (eq-eqb n 1 q) refl

  pub segment_opposing : n ≡ 2 → g.opposing ≡ segment_value n g
  unfolding segment_value
  segment_opposing q = rw (ne_eqb n 1 (omega arith), eq-eqb n 2 q) refl

  pub segment-shares : (n ≡ 1 → ⊥) → (n ≡ 2 → ⊥) → shares g.kind ≡ segment_value n g
  unfolding segment_value
  segment-shares q r = rw (ne_eqb n 1 q, ne_eqb n 2 r) refl

module _ (l : Line) (n p : ℕ) where
  pub segment_is : p < segment_count l → segment_value n (segment l p) ≡ segment_entry l n p
  unfolding segment_entry
  segment_is h = rw (lt-ltb p (segment_count l) h) refl

  pub no_segment_is : segment_count l ≤ p → 0 ≡ segment_entry l n p
  unfolding segment_entry
  no_segment_is h = rw (le-ltb p (segment_count l) h) refl

-- ---- the whole, entry after entry

module _ (l : Line) (x : ℕ) where
  pub segments_first : x < 48 → segment_entry l (x / 16) (x % 16) ≡ table_entry l x
  unfolding table_entry
  segments_first h = rw (lt-ltb x 48 h) refl

  pub legs-later : 48 ≤ x → leg_entry l ((x - 48) / 176) ((x - 48) % 176) ≡ table_entry l x
  unfolding table_entry
  legs-later h = rw (le-ltb x 48 h) refl

  pub tables_made : (t : List ℕ) → Begun (table_entry l) table_size x t → x ≡ table_size → t ≡ tables_of l
  unfolding tables_of
  tables_made t b q = begun_all (table_entry l) table_size x t b q
