-- Laws of going through the marks of a leg train by train: the arcs that leave the leg, from train k on.
use Rattle.std.specs.Prelude.{ℕ, ◌+◌, ◌≤◌, ◌<◌, ◌≡◌, ◌⊎◌, true, List, get_or, Option, Some, None}
use Rattle.std.proofs.Common.{sym, ◌∙◌, ap, subst, inl, inr, ⊎_elim, true≢false, arith}
use Rattle.std.proofs.Math.Path.{subst⁻¹}
use Rattle.orders.specs.Plan.Bits.{in_mask, NextBit}
use Rattle.orders.specs.Plan.BitsLaws.{mask_none}
use Rattle.orders.specs.Raise.Raising.{Kept, Nothing, Solves, Clear}
use Rattle.orders.specs.Raise.RaisingLaws.{le_or_lt}
use Rattle.orders.specs.Graph.LegGraph.{LegArc, runs, slow, next, depart, arrive, after, gone, station_of, leaving, comes_on, UsedLeg, UsedArc, leg_graph}
use Rattle.orders.specs.Lift.Lifting.{Alive, told_cost, Ready, Lifted, Followed, After, Gone, GoingFor, Follows, Comes}
use Rattle.orders.specs.Lift.LiftingLaws.{going_start, going_as, going_skip, going_clear, followed, followed_dead}
use Rattle.orders.proofs.Lift.ServingLaws.{Serves, serves_dead, serves_raised, serves_still}

abbrev train_of : LegArc → ℕ
train_of (runs x) = 0
train_of (slow x) = 0
train_of (next x) = 0
train_of (depart x j) = j
train_of (arrive x j) = j
train_of (after x j) = j
train_of (gone x j) = j

-- the arcs of `D` to train k and those past it
abbrev pub FromTrain : (LegArc → Type 0) → ℕ → LegArc → Type 0
FromTrain D k a = D a × (k ≤ train_of a)

-- the arcs of a row of marks: all of them, and those to one train
pub record Row (marks t ds : List ℕ) (row : ℕ) (D : LegArc → Type 0) (Here : ℕ → LegArc → Type 0) : Type 0 where
  pub one : (k : ℕ) (a : LegArc) → D a → train_of a ≡ k → Here k a
  pub all : (k : ℕ) (a : LegArc) → Here k a → D a
  pub few : (a : LegArc) → UsedArc marks t ds a → D a → train_of a < 12
  pub marked : (a : LegArc) → UsedArc marks t ds a → D a → in_mask (get_or marks row 0) (train_of a) ≡ true

module _ (marks t ds : List ℕ) where
  pub after-row : (e : ℕ) → Row marks t ds e (After e) (Follows e)
  after-row e = record { one = one; all = all; few = few; marked = marked }
    where
      one : (k : ℕ) (a : LegArc) → After e a → train_of a ≡ k → Follows e k a
      one k (runs x) d q = absurd d
      one k (slow x) d q = absurd d
      one k (next x) d q = absurd d
      one k (depart x j) d q = (d, q)
      one k (arrive x j) d q = (d, q)
      one k (after x j) d q = (d, q)
      one k (gone x j) d q = absurd d

      all : (k : ℕ) (a : LegArc) → Follows e k a → After e a
      all k (runs x) d = absurd d
      all k (slow x) d = absurd d
      all k (next x) d = absurd d
      all k (depart x j) d = d.0
      all k (arrive x j) d = d.0
      all k (after x j) d = d.0
      all k (gone x j) d = absurd d

      few : (a : LegArc) → UsedArc marks t ds a → After e a → train_of a < 12
      few (runs x) u d = absurd d
      few (slow x) u d = absurd d
      few (next x) u d = absurd d
      few (depart x j) u d = u.1
      few (arrive x j) u d = u.1
      few (after x j) u d = u.1
      few (gone x j) u d = absurd d

      marked : (a : LegArc) → UsedArc marks t ds a → After e a → in_mask (get_or marks e 0) (train_of a) ≡ true
      marked (runs x) u d = absurd d
      marked (slow x) u d = absurd d
      marked (next x) u d = absurd d
      marked (depart x j) u d = subst (λ (z : ℕ). in_mask (get_or marks z 0) j ≡ true) d u.2
      marked (arrive x j) u d = subst (λ (z : ℕ). in_mask (get_or marks z 0) j ≡ true) d u.2
      marked (after x j) u d = subst (λ (z : ℕ). in_mask (get_or marks z 0) j ≡ true) d u.2
      marked (gone x j) u d = absurd d

  pub gone_row : (e : ℕ) → Row marks t ds (leaving ds e) (Gone e) (Comes e)
  gone_row e = record { one = one; all = all; few = few; marked = marked }
    where
      one : (k : ℕ) (a : LegArc) → Gone e a → train_of a ≡ k → Comes e k a
      one k (runs x) d q = absurd d
      one k (slow x) d q = absurd d
      one k (next x) d q = absurd d
      one k (depart x j) d q = absurd d
      one k (arrive x j) d q = absurd d
      one k (after x j) d q = absurd d
      one k (gone x j) d q = (d, q)

      all : (k : ℕ) (a : LegArc) → Comes e k a → Gone e a
      all k (runs x) d = absurd d
      all k (slow x) d = absurd d
      all k (next x) d = absurd d
      all k (depart x j) d = absurd d
      all k (arrive x j) d = absurd d
      all k (after x j) d = absurd d
      all k (gone x j) d = d.0

      few : (a : LegArc) → UsedArc marks t ds a → Gone e a → train_of a < 12
      few (runs x) u d = absurd d
      few (slow x) u d = absurd d
      few (next x) u d = absurd d
      few (depart x j) u d = absurd d
      few (arrive x j) u d = absurd d
      few (after x j) u d = absurd d
      few (gone x j) u d = u.1

      marked : (a : LegArc) → UsedArc marks t ds a → Gone e a → in_mask (get_or marks (leaving ds e) 0) (train_of a) ≡ true
      marked (runs x) u d = absurd d
      marked (slow x) u d = absurd d
      marked (next x) u d = absurd d
      marked (depart x j) u d = absurd d
      marked (arrive x j) u d = absurd d
      marked (after x j) u d = absurd d
      marked (gone x j) u d = subst (λ (z : ℕ). in_mask (get_or marks (leaving ds z) 0) j ≡ true) d u.2

  module _ (row : ℕ) (D : LegArc → Type 0) (Here : ℕ → LegArc → Type 0) (w : Row marks t ds row D Here) where
    -- train k, and those past it
    row_part : (k : ℕ) (a : LegArc) → UsedArc marks t ds a → FromTrain D k a → Here k a ⊎ FromTrain D (k + 1) a
    row_part k a u d = ⊎_elim (λ q. inl (w.one k a d.0 (omega arith))) (λ q. inr (d.0, omega arith)) (le_or_lt (train_of a) k)

    pub row-start : (src : ℕ) (m : List ℕ) (e cost cut : ℕ) → Ready m marks t ds e cost cut → GoingFor marks t ds src cut D (FromTrain D 0) m m cost
    row-start src m e cost cut r =
        going_skip marks t ds src cut _ D D m m cost (going_start marks t ds src _ D m e cost cut r) (FromTrain D 0) (λ a u d. inr (d, omega arith))

    -- no train is marked
    pub row_none : (src : ℕ) (m : List ℕ) (e cost cut s : ℕ) → Ready m marks t ds e cost cut → s ≡ get_or marks row 0 → s ≡ 0 →
        Followed D marks t ds src cut m m (Some cost)
    row_none src m e cost cut s r q z =
        followed marks t ds D src cut m m cost
        (going_skip marks t ds src cut _ D D m m cost (going_start marks t ds src _ D m e cost cut r) (Nothing (leg_graph marks t ds))
        (λ a u d. absurd (true≢false (sym (w.marked a u d) ∙ mask_none (get_or marks row 0) (train_of a) (sym q ∙ z)))))

    module _ (src cut : ℕ) (m n : List ℕ) (k c : ℕ) (g : GoingFor marks t ds src cut D (FromTrain D k) m n c) where
      clear : (y : List ℕ) → Solves (leg_graph marks t ds) src m y → Clear (leg_graph marks t ds) src D m y → Clear (leg_graph marks t ds) src (Here k) n y
      clear = going_clear marks t ds src cut D (FromTrain D k) m n c g (Here k) (w.all k)

      -- the next train that is marked, and none from k up to it
      pub row_next : (s r : ℕ) → s ≡ get_or marks row 0 → NextBit s k r →
          (r < 12 → in_mask (get_or marks row 0) r ≡ true) × GoingFor marks t ds src cut D (FromTrain D r) m n c
      row_next s r q b = (
        (λ l. ap (λ (x : ℕ). in_mask x r) (sym q) ∙ b.member (omega arith)),
        going_skip marks t ds src cut _ D (FromTrain D k) m n c g (FromTrain D r) go,
      )
        where
          go : (a : LegArc) → UsedArc marks t ds a → FromTrain D k a → Kept (leg_graph marks t ds) n a ⊎ FromTrain D r a
          go a u d =
              ⊎_elim
              (λ p. inr (d.0, p))
              (λ p. absurd (true≢false (sym (w.marked a u d.0) ∙ ap (λ (x : ℕ). in_mask x (train_of a)) (sym q) ∙ b.none_between (train_of a) d.1 p)))
              (le_or_lt r (train_of a))

      module _ (n' : List ℕ) (c' : ℕ) where
        -- train k is marked, and its leg is there already, or was lifted
        module _ (f v x : ℕ) (h : Serves marks t ds (Here k) n f v x) where
          pub row_still : v ≤ get_or n f 0 → x ≤ get_or n (176 + f) 0 → n' ≡ n → c' ≡ c → GoingFor marks t ds src cut D (FromTrain D (k + 1)) m n' c'
          row_still p q =
              going_as marks t ds src cut _ D (FromTrain D (k + 1)) m n c
              (serves_still marks t ds (Here k) n f v x h src cut _ D (FromTrain D k) m c g (FromTrain D (k + 1)) (row_part k) p q)
              n' c'

          pub row_raised : (n'' : List ℕ) (r : Option ℕ) → Lifted marks t ds src cut f v x n n'' r → Alive r → n' ≡ n'' → c' ≡ told_cost r →
              GoingFor marks t ds src cut D (FromTrain D (k + 1)) m n' c'
          row_raised n'' r l z =
              going_as marks t ds src cut _ D (FromTrain D (k + 1)) m n'' (told_cost r)
              (serves_raised marks t ds (Here k) n f v x h src cut _ D (FromTrain D k) m c g clear n'' r l (FromTrain D (k + 1)) (row_part k) z)
              n' c'

      pub row_dead : (f v x : ℕ) → Serves marks t ds (Here k) n f v x → (n' : List ℕ) (r : Option ℕ) → Lifted marks t ds src cut f v x n n' r → r ≡ None →
          Followed D marks t ds src cut m n' None
      row_dead f v x h n' r l q =
          followed_dead marks t ds D src cut m n' (serves_dead marks t ds (Here k) n f v x h src cut _ D (FromTrain D k) m c g clear n' r l q)

      pub row-end : 12 ≤ k → Followed D marks t ds src cut m n (Some c)
      row-end l =
          followed marks t ds D src cut m n c
          (going_skip marks t ds src cut _ D (FromTrain D k) m n c g (Nothing (leg_graph marks t ds)) (λ a u d. absurd (omega (arith, w.few a u d.0))))

  -- ---- the leg of a train that is marked

  module _ (m : List ℕ) (e cost cut : ℕ) (r : Ready m marks t ds e cost cut) (j : ℕ) (train : j < 12) where
    pub comes_leg : (f : ℕ) → in_mask (get_or marks (leaving ds e) 0) j ≡ true → f ≡ comes_on ds (station_of ds e) j → UsedLeg ds f
    comes_leg f on q = subst⁻¹ (λ (x : ℕ). UsedLeg ds x) q (r.shaped.comes_used e j r.leg train on)
