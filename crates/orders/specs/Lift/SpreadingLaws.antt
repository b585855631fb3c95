-- Laws of seeing to what follows for other trains from a path that was raised: leg by leg, those that go after it and then those that come after it.
use Rattle.std.specs.Prelude.{ℕ, zero, suc, ◌-◌, ◌≤◌, ◌<◌, ◌≡◌, ◌⊎◌, List, Option, Some, None}
use Rattle.std.proofs.Common.{subst, inl, inr, ⊎_elim, arith}
use Rattle.std.proofs.Math.Path.{subst⁻¹}
use Rattle.orders.specs.LineTables.Tables.{next_in}
use Rattle.orders.specs.Raise.Raising.{Nothing, Solves, Clear}
use Rattle.orders.specs.Graph.LegGraph.{LegArc, UsedLeg, leg_graph, Shaped}
use Rattle.orders.specs.Lift.Lifting.{Alive, told_cost, Followed, After, Gone, GoingFor}
use Rattle.orders.specs.Lift.RaisedPaths.{AsideOf}
use Rattle.orders.specs.Lift.LiftingLaws.{going_then, going_dead, going_skip, going_clear, followed, followed_dead}

-- what leaves the legs that are left from f on to other trains, but for those that go after leg f's train on its segment: these are done
abbrev pub RestAside : List ℕ → ℕ → ℕ → LegArc → Type 0
RestAside t left f a = Gone f a ⊎ AsideOf t (left - 1) (next_in t f) a

-- what leaves the legs that are left is what leaves the first of them, and the rest
aside_first : (t : List ℕ) (left k f : ℕ) (a : LegArc) → left ≡ suc k → AsideOf t left f a → After f a ⊎ (Gone f a ⊎ AsideOf t k (next_in t f) a)
unfolding AsideOf
aside_first t left k f a q d =
    ⊎_elim (λ o. ⊎_elim (λ x. inl x) (λ x. inr (inl x)) o) (λ o. inr (inr o)) (subst (λ (x : ℕ). AsideOf t x f a) q d)

first_aside : (t : List ℕ) (left k f : ℕ) (a : LegArc) → left ≡ suc k → After f a ⊎ (Gone f a ⊎ AsideOf t k (next_in t f) a) → AsideOf t left f a
unfolding AsideOf
first_aside t left k f a q d =
    subst⁻¹ (λ (x : ℕ). AsideOf t x f a) q (⊎_elim (λ o. inl (inl o)) (λ o. ⊎_elim (λ x. inl (inr x)) (λ x. inr x) o) d)

aside_none : (t : List ℕ) (left f : ℕ) (a : LegArc) → left ≤ 0 → AsideOf t left f a → ⊥
unfolding AsideOf
aside_none t zero f a l d = d
aside_none t (suc k) f a l d = omega arith

module _ (marks t ds : List ℕ) (src cut : ℕ) (D : LegArc → Type 0) (m n : List ℕ) (c f left : ℕ) (part : (a : LegArc) → AsideOf t left f a → D a) where
  module _ (g : GoingFor marks t ds src cut D (AsideOf t left f) m n c) where
    -- the trains that go after that of leg f
    module _ (l : 0 < left) (n' : List ℕ) (r : Option ℕ) (h : Followed (After f) marks t ds src cut n n' r) where
      clear_after : (y : List ℕ) → Solves (leg_graph marks t ds) src m y → Clear (leg_graph marks t ds) src D m y →
          Clear (leg_graph marks t ds) src (After f) n y
      clear_after = going_clear marks t ds src cut D _ m n c g (After f) (λ a d. part a (first_aside t left (left - 1) f a (omega arith) (inl d)))

      pub spread_after : Alive r → GoingFor marks t ds src cut D (RestAside t left f) m n' (told_cost r)
      spread_after =
          going_then marks t ds src cut _ D _ m n c g (After f) n' r h clear_after (RestAside t left f)
          (λ a u d. aside_first t left (left - 1) f a (omega arith) d)

      pub spread_after_dead : r ≡ None → Followed D marks t ds src cut m n' None
      spread_after_dead q =
          followed_dead marks t ds D src cut m n' (going_dead marks t ds src cut _ D _ m n c g (After f) n' r h clear_after q)

    -- no leg is left
    pub spread_end : left ≤ 0 → Followed D marks t ds src cut m n (Some c)
    spread_end l =
        followed marks t ds D src cut m n c
        (going_skip marks t ds src cut _ D _ m n c g (Nothing (leg_graph marks t ds)) (λ a u d. absurd (aside_none t left f a l d)))

  -- the trains that come after that of leg f has left; the next leg is the first then
  module _ (g : GoingFor marks t ds src cut D (RestAside t left f) m n c) (l : 0 < left)
      (n' : List ℕ) (r : Option ℕ) (h : Followed (Gone f) marks t ds src cut n n' r) where
    clear_gone : (y : List ℕ) → Solves (leg_graph marks t ds) src m y → Clear (leg_graph marks t ds) src D m y →
        Clear (leg_graph marks t ds) src (Gone f) n y
    clear_gone = going_clear marks t ds src cut D _ m n c g (Gone f) (λ a d. part a (first_aside t left (left - 1) f a (omega arith) (inr (inl d))))

    pub spread_gone : Shaped marks t ds → UsedLeg ds f → (f' : ℕ) → f' ≡ next_in t f → Alive r →
        GoingFor marks t ds src cut D (AsideOf t (left - 1) f') m n' (told_cost r) × UsedLeg ds f' × ((a : LegArc) → AsideOf t (left - 1) f' a → D a)
    spread_gone s u f' q a =
        subst⁻¹
        (λ (x : ℕ). GoingFor marks t ds src cut D (AsideOf t (left - 1) x) m n' (told_cost r) × UsedLeg ds x × ((a : LegArc) → AsideOf t (left - 1) x a → D a))
        q (
          going_then marks t ds src cut _ D _ m n c g (Gone f) n' r h clear_gone (AsideOf t (left - 1) (next_in t f)) (λ a u d. d) a,
          s.next_used f u,
          λ a d. part a (first_aside t left (left - 1) f a (omega arith) (inr (inr d))),
        )

    pub spread_gone_dead : r ≡ None → Followed D marks t ds src cut m n' None
    spread_gone_dead q = followed_dead marks t ds D src cut m n' (going_dead marks t ds src cut _ D _ m n c g (Gone f) n' r h clear_gone q)
