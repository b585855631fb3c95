-- The table of directions: what one train's entry is, how the loops fill the table, and what an entry says of the train's path.
use Rattle.std.specs.Prelude.{◌≡◌, ℕ, suc, ◌+◌, ◌-◌, ◌*◌, ◌/◌, ◌%◌, ◌<◌, ◌≤◌, min, max, Bool, true, false, cond, not, List, length, replicate, ◌==◌, ◌≢◌, nat_eq, nat_lt, slice_index, slice_set}
use Rattle.std.proofs.Math.Path.{refl}
use Rattle.std.proofs.Common.{sym, ◌∙◌, ap, ap₂, subst, arith, length-set, ext_get_or, get_or-set_same, get_or-set_other, lt-ltb, le-ltb}
use Rattle.std.specs.Bool.{beq}
use Rattle.std.proofs.Math.Decide.{dec_lt, ℕ_discrete}
use Rattle.std.proofs.lemmas.List.{length-replicate, get_or-replicate}
use Rattle.finite.specs.Decide.{Decides}
use Rattle.finite.specs.DecideLaws.{by_test, is_true, is_false, decides_and, decides_not, decides_le, decides_lt, decides_eq}
use Rattle.finite.specs.Below.{EachBelow, table}
use Rattle.finite.specs.BelowLaws.{table_at, table_size_lem}
use Rattle.line.specs.declared.Line.{Line}
use Rattle.rules.specs.Statement.Paths.{train, outbound, same_way, Uses}
use Rattle.rules.specs.Conflict.Directions.{uses_between, direction_between, direction_entry, directions_of, way, on}

-- ---- one train on one segment

module _ (o d p : ℕ) where
  abbrev pub Between : Type 0
  Between = (min (o - 1) (d - 1) ≤ p) × (p < max (o - 1) (d - 1))

  pub decides_between : Decides Between (uses_between o d p)
  unfolding uses_between
  decides_between = decides_and (decides_le _ _) (decides_lt _ _)

  pub between_off : (Between → ⊥) → 0 ≡ direction_between o d p
  unfolding direction_between
  between_off h = rw (is_false decides_between h) refl

  pub between-on : Between → cond (nat_lt o d) 1 2 ≡ direction_between o d p
  unfolding direction_between
  between-on h = rw (is_true decides_between h) refl

  pub between_out : Between → o < d → 1 ≡ direction_between o d p
  between_out h l = rw (← between-on h, lt-ltb o d l) refl

  pub between_in : Between → d ≤ o → 2 ≡ direction_between o d p
  between_in h l = rw (← between-on h, le-ltb o d l) refl

-- ---- the loops

-- a table that is filled train by train, and for each segment by segment, so that entry e comes as number 11 (e % 16) + e / 16: the first k are there,
-- and the others are 0
pub record Filled (l : Line) (k : ℕ) (t : List ℕ) : Type 0 where
  pub size : length t ≡ 176
  pub entries : EachBelow 176 (λ e. slice_index t e ≡ cond (nat_lt (11 * (e % 16) + e / 16) k) (direction_entry l e) 0)

pub entry_is : (l : Line) (p i : ℕ) → i < 16 → i < l.traffic.train_count →
    direction_entry l (16 * p + i) ≡ direction_between (train l i).origin (train l i).destination p
unfolding direction_entry
entry_is l p i a b =
    let r : (16 * p + i) % 16 ≡ i = omega arith in
    let q : (16 * p + i) / 16 ≡ p = omega arith in
    rw (r, q, lt-ltb i l.traffic.train_count b) refl

entry_past : (l : Line) (e : ℕ) → l.traffic.train_count ≤ e % 16 → direction_entry l e ≡ 0
unfolding direction_entry
entry_past l e h = rw (le-ltb (e % 16) l.traffic.train_count h) refl

pub filled_none : (l : Line) → Filled l 0 (replicate 176 0)
filled_none l = record {
  size = length-replicate {A = ℕ} 176 0;
  entries = λ e n. rw (le-ltb (11 * (e % 16) + e / 16) 0 (omega arith)) (get_or-replicate 176 e 0 0 n);
}

pub filled_at : (l : Line) (t : List ℕ) (k k' : ℕ) → Filled l k t → k ≡ k' → Filled l k' t
filled_at l t k k' h q = subst (λ (k : ℕ). Filled l k t) q h

-- whether a number is below k, and below k + 1, where it is not k
pub same_test : (x k k' : ℕ) → k' ≡ suc k → (x ≢ k) → nat_lt x k ≡ nat_lt x k'
same_test x k k' q d = elim (dec_lt x k) [
  | yes s ↦ lt-ltb x k s ∙ sym (lt-ltb x k' (omega arith))
  | no s ↦ le-ltb x k (omega arith) ∙ sym (le-ltb x k' (omega arith))
]

pub filled_more : (l : Line) (t : List ℕ) (i p v : ℕ) → Filled l (11 * i + p) t → p < 11 → i < 16 → v ≡ direction_entry l (16 * p + i) →
    Filled l (11 * i + (p + 1)) (slice_set t (16 * p + i) v)
filled_more l t i p v h a b w =
    record {
      size = simp length-set h.size;
      entries = λ e n. elim (ℕ_discrete e (16 * p + i)) [
        | yes s ↦ (
            rw (
              s,
              get_or-set_same t (16 * p + i) v 0 (omega (arith, h.size)),
              lt-ltb (11 * ((16 * p + i) % 16) + (16 * p + i) / 16) (11 * i + (p + 1)) (omega arith),
            ) w)
        | no s ↦
            get_or-set_other t (16 * p + i) e v 0 s ∙ h.entries e n ∙
            ap (λ (c : Bool). cond c (direction_entry l e) 0) (same_test (11 * (e % 16) + e / 16) (11 * i + p) (11 * i + (p + 1)) (omega arith) (omega arith))
      ];
    }

pub filled_all : (l : Line) (t : List ℕ) (k : ℕ) → Filled l k t → k ≡ 11 * l.traffic.train_count → t ≡ directions_of l
unfolding directions_of
filled_all l t k h q =
    ext_get_or 0 t (table (direction_entry l) 176) (h.size ∙ sym (table_size_lem (direction_entry l) 176))
    (λ e b. h.entries e (omega (arith, h.size)) ∙ whole e (omega (arith, h.size)) ∙ sym (table_at (direction_entry l) 176 e (omega (arith, h.size))))
  where
    whole : (e : ℕ) → e < 176 → cond (nat_lt (11 * (e % 16) + e / 16) k) (direction_entry l e) 0 ≡ direction_entry l e
    whole e b = elim (dec_lt (11 * (e % 16) + e / 16) k) [
      | yes s ↦ rw (lt-ltb (11 * (e % 16) + e / 16) k s) refl
      | no s ↦ rw (le-ltb (11 * (e % 16) + e / 16) k (omega arith)) (sym (entry_past l e (omega arith)))
    ]

-- ---- what an entry says of the train's path

pub way_past : (l : Line) (e : ℕ) → e < 176 → l.traffic.train_count ≤ e % 16 → slice_index (directions_of l) e ≡ 0
unfolding directions_of
way_past l e b h = table_at (direction_entry l) 176 e b ∙ entry_past l e h

module _ (l : Line) (few : l.traffic.train_count ≤ 12) (p : ℕ) (short : p < 11) where
  pub way_is : (i : ℕ) → i < l.traffic.train_count → way (directions_of l) p i ≡ direction_between (train l i).origin (train l i).destination p
  unfolding directions_of
  way_is i b = table_at (direction_entry l) 176 (16 * p + i) (omega arith) ∙ entry_is l p i (omega arith) b

  -- a train that goes over the segment has 1 or 2 there, by its direction
  way_on : (i : ℕ) → i < l.traffic.train_count → Uses (train l i) p → way (directions_of l) p i ≡ cond (outbound (train l i)) 1 2
  way_on i b u = way_is i b ∙ sym (between-on _ _ p u)

  pub decides_on : (i : ℕ) → i < l.traffic.train_count → Decides (Uses (train l i) p) (on (directions_of l) p i)
  decides_on i b =
      by_test (decides_between (train l i).origin (train l i).destination p)
      (λ u. record { yea = λ e. u; nay = λ e h. (decides_not (decides_eq _ _)).nay e (λ z. some-way (outbound (train l i)) (sym (way_on i b u) ∙ z)) })
      (λ u. record { yea = λ e. absurd ((decides_not (decides_eq _ _)).yea e (way_is i b ∙ sym (between_off _ _ p u))); nay = λ e. u })
    where
      some-way : (w : Bool) → ◌≡◌ {A = ℕ} (cond w 1 2) 0 → ⊥
      some-way true e = omega arith
      some-way false e = omega arith

  pub same_way_lem : (i j : ℕ) → i < l.traffic.train_count → j < l.traffic.train_count → Uses (train l i) p → Uses (train l j) p →
      (way (directions_of l) p i == way (directions_of l) p j) ≡ same_way l i j
  same_way_lem i j a b u v = ap₂ nat_eq (way_on i a u) (way_on j b v) ∙ alike (outbound (train l i)) (outbound (train l j))
    where
      alike : (w z : Bool) → (cond w 1 2 == cond z 1 2) ≡ beq w z
      alike true true = refl
      alike true false = refl
      alike false true = refl
      alike false false = refl

  pub outbound-way : (i : ℕ) → i < l.traffic.train_count → Uses (train l i) p → (way (directions_of l) p i == 1) ≡ outbound (train l i)
  outbound-way i b u = ap (λ (w : ℕ). nat_eq w 1) (way_on i b u) ∙ one (outbound (train l i))
    where
      one : (w : Bool) → (cond w 1 2 == 1) ≡ w
      one true = refl
      one false = refl

  pub inbound_way : (i : ℕ) → i < l.traffic.train_count → Uses (train l i) p → (way (directions_of l) p i == 2) ≡ not (outbound (train l i))
  inbound_way i b u = ap (λ (w : ℕ). nat_eq w 2) (way_on i b u) ∙ two (outbound (train l i))
    where
      two : (w : Bool) → (cond w 1 2 == 2) ≡ not w
      two true = refl
      two false = refl
