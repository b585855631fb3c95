-- Laws of raising a train along its path: the legs of a path one after the other, and a path under way.
use Rattle.std.specs.Prelude.{ℕ, zero, suc, ◌+◌, ◌≤◌, ◌<◌, ◌≡◌, ◌⊎◌, List, length, get_or, Option, Some, None}
use Rattle.std.proofs.Math.Path.{refl, subst⁻¹}
use Rattle.std.proofs.Common.{◌∙◌, ap, subst, inl, arith, add-one}
use Rattle.std.proofs.Math.Logic.{inr, ⊎_elim}
use Rattle.orders.specs.declared.raising.Path.{Path}
use Rattle.orders.specs.LeastMinutes.NoLater.{slack}
use Rattle.orders.specs.LeastMinutes.NoLaterLaws.{slack-most}
use Rattle.orders.specs.LineTables.Tables.{stop_in, next_in}
use Rattle.orders.specs.Raise.Raising.{Kept, Solves}
use Rattle.orders.specs.Graph.LegGraph.{LegArc, UsedLeg, UsedArc, leg_graph, Shaped}
use Rattle.orders.specs.Lift.Lifting.{Ready, Asks, ToNext, Stepped, Alive}
use Rattle.orders.specs.Lift.LiftingLaws.{going_ready, stepped_skip, stepped_onto, stepped_none}
use Rattle.orders.specs.Lift.RaisedPaths.{Aside, Outward, LegRaised, AsideOf, PathRaised}
use Rattle.orders.proofs.Lift.NextLegLaws.{onward_leg, onward_none, onward_still, onward_asks, onward_stepped}

-- ---- the legs of a path

-- the n-th leg after leg e
unfoldable pub leg_after : List ℕ → ℕ → ℕ → ℕ
leg_after t zero e = e
leg_after t (suc n) e = leg_after t n (next_in t e)

next-after : (t : List ℕ) (n e : ℕ) → next_in t (leg_after t n e) ≡ leg_after t (suc n) e
unfolding leg_after
next-after t zero e = refl
next-after t (suc n) e = next-after t n (next_in t e)

-- n legs from e on, and the n-th after e, are one leg more
aside_more : (t : List ℕ) (n e : ℕ) (a : LegArc) → AsideOf t n e a → AsideOf t (suc n) e a
unfolding AsideOf
aside_more t zero e a x = absurd x
aside_more t (suc n) e a (inl x) = inl x
aside_more t (suc n) e a (inr x) = inr (aside_more t n (next_in t e) a x)

aside_last : (t : List ℕ) (n e : ℕ) (a : LegArc) → Aside (leg_after t n e) a → AsideOf t (suc n) e a
unfolding AsideOf leg_after
aside_last t zero e a x = inl x
aside_last t (suc n) e a x = inr (aside_last t n (next_in t e) a x)

-- the arc to the next leg of f, and what leaves so many legs from e on to other trains
abbrev pub LeavesPath : List ℕ → ℕ → ℕ → ℕ → LegArc → Type 0
LeavesPath t f legs e a = ToNext f a ⊎ AsideOf t legs e a

-- what leaves the n-th leg after e
outward_ahead : (t : List ℕ) (n e g : ℕ) → g ≡ leg_after t n e → (a : LegArc) → Outward g a → LeavesPath t g (suc n) e a
outward_ahead t n e g q a (inl x) = inl x
outward_ahead t n e g q a (inr x) = inr (aside_last t n e a (subst (λ (z : ℕ). Aside z a) q x))

-- and nothing else leaves one leg more
aside_parts : (t : List ℕ) (n e : ℕ) (a : LegArc) → AsideOf t (suc n) e a → AsideOf t n e a ⊎ Aside (leg_after t n e) a
unfolding AsideOf leg_after
aside_parts t zero e a (inl x) = inr x
aside_parts t zero e a (inr x) = absurd x
aside_parts t (suc n) e a (inl x) = inl (inl x)
aside_parts t (suc n) e a (inr x) = ⊎_elim (λ k. inl (inr k)) (λ k. inr k) (aside_parts t n (next_in t e) a x)

ahead-parts : (t : List ℕ) (n e g : ℕ) → g ≡ leg_after t n e → (a : LegArc) → LeavesPath t g (suc n) e a → AsideOf t n e a ⊎ Outward g a
ahead-parts t n e g q a (inl x) = inr (inl x)
ahead-parts t n e g q a (inr x) = ⊎_elim (λ k. inl k) (λ k. inr (inr (subst⁻¹ (λ (z : ℕ). Aside z a) q k))) (aside_parts t n e a x)

-- ---- a path under way

-- so many legs from e on are later, and f is the last of them; its next leg, and what leaves them to other trains, is to do
pub record AlongPath (marks t ds : List ℕ) (src cut e v w : ℕ) (m n : List ℕ) (c f legs : ℕ) : Type 0 where
  pub stepped : Stepped marks t ds (LeavesPath t f legs e) src cut e v w m n c
  pub count : legs + slack n ≤ slack m
  pub leg : UsedLeg ds f
  pub next_is : next_in t f ≡ leg_after t legs e

module _ (marks t ds : List ℕ) (src cut e v w : ℕ) (m n : List ℕ) (c : ℕ) where
  pub path_none : LegRaised marks t ds src cut e v w m n None → PathRaised marks t ds src cut e v w m n None
  path_none l = record { stepped = λ p q. absurd (cc); none = λ _. l.none refl }

  pub path_start : UsedLeg ds e → LegRaised marks t ds src cut e v w m n (Some c) → AlongPath marks t ds src cut e v w m n c e 1
  unfolding leg_after AsideOf
  path_start u l =
      record {
        stepped = stepped_skip marks t ds _ src cut e v w m n c (l.stepped (λ z. cc)) (LeavesPath t e 1 e)
            (λ a u x. inr (outward_ahead t 0 e e refl a x)) (λ a x. ⊎_elim (λ k. absurd k) (λ k. k) (ahead-parts t 0 e e refl a x));
        count = omega (arith, (l.stepped (λ z. cc)).less);
        leg = u;
        next_is = refl;
      }

  module _ (f legs : ℕ) (p : AlongPath marks t ds src cut e v w m n c f legs) where
    pub path_few : length m ≡ 352 → legs < 1013761
    path_few q = omega (arith, p.count, slack-most m)

    -- it ends where the arc to the next leg is kept
    ends : ((a : LegArc) → UsedArc marks t ds a → ToNext f a → Kept (leg_graph marks t ds) n a) →
        PathRaised marks t ds src cut e v w m n (Some (record { legs = legs; cost = c }))
    ends k =
        record {
          stepped = λ r q. subst
              (λ (r : Path). Stepped marks t ds (AsideOf t r.legs e) src cut e v w m n r.cost)
              (let same : record { legs = legs; cost = c } ≡ r = cc in same)
              (stepped_skip marks t ds _ src cut e v w m n c p.stepped (AsideOf t legs e)
              (λ a u x. ⊎_elim (λ o. inl (k a u o)) (λ o. inr o) x) (λ a x. inr x));
          none = λ q. absurd (cc);
        }

    module _ (g : ℕ) (g-is : g ≡ next_in t f) where
      pub path_ready : (cost : ℕ) → Ready m marks t ds e cost cut → Ready n marks t ds g c cut
      path_ready cost r =
          going_ready marks t ds src cut _ _ _ m n c p.stepped.going e g cost r (onward_leg marks t ds f g p.leg g-is r.shaped)

      pub path_ends : g ≡ f → PathRaised marks t ds src cut e v w m n (Some (record { legs = legs; cost = c }))
      path_ends q = ends (λ a u o. absurd (onward_none marks t ds f g p.leg g-is q a u o))

      module _ (ready : ℕ) (other : g ≡ f → ⊥) (ready-is : ready ≡ get_or n (176 + f) 0 + stop_in t f) where
        pub path_still : ready ≤ get_or n g 0 → PathRaised marks t ds src cut e v w m n (Some (record { legs = legs; cost = c }))
        path_still l = ends (onward_still marks t ds f g p.leg g-is n ready other ready-is l)

        asks : (y : List ℕ) → Solves (leg_graph marks t ds) src n y → Asks src g ready 0 n y
        asks = onward_asks marks t ds f g p.leg g-is n ready other ready-is src

        -- the next leg has no such minutes
        pub path_dead : (n' : List ℕ) → LegRaised marks t ds src cut g ready 0 n n' None → PathRaised marks t ds src cut e v w m n' None
        path_dead n' l =
            record {
              stepped = λ r q. absurd (cc);
              none = λ _. stepped_none marks t ds _ src cut e v w m n c p.stepped g ready 0 asks n' (l.none refl);
            }

        -- it is later too
        pub path_next : Shaped marks t ds → (n' : List ℕ) (r : ℕ) → LegRaised marks t ds src cut g ready 0 n n' (Some r) →
            AlongPath marks t ds src cut e v w m n' r g (legs + 1)
        path_next s n' r l =
            record {
              stepped = rw add-one on;
              count = omega (arith, later.less, p.count);
              leg = onward_leg marks t ds f g p.leg g-is s;
              next_is = rw add-one (ap (λ (x : ℕ). next_in t x) place ∙ next-after t legs e);
            }
          where
            place : g ≡ leg_after t legs e
            place = g-is ∙ p.next_is

            later : Stepped marks t ds (Outward g) src cut g ready 0 n n' r
            later = l.stepped (λ z. cc)

            on : Stepped marks t ds (LeavesPath t g (suc legs) e) src cut e v w m n' r
            on =
                stepped_onto marks t ds _ src cut e v w m n c p.stepped g ready 0 asks (Outward g) (LeavesPath t g (suc legs) e) n' r later
                (λ a u x. ⊎_elim
                (λ o. ⊎_elim
                (λ k. inl k)
                (λ k. inr (outward_ahead t legs e g place a k))
                (onward_stepped marks t ds f g p.leg g-is n ready other ready-is (Outward g) src cut n' r later a u o))
                (λ o. inr (inr (aside_more t legs e a o)))
                x)
                (outward_ahead t legs e g place)
                (λ a x. ⊎_elim (λ k. inl (inr k)) (λ k. inr k) (ahead-parts t legs e g place a x))

-- ---- the measure of the loop

-- one more than the slack, and 0 where there are no such minutes
unfoldable pub left : Option ℕ → List ℕ → ℕ
left None n = 0
left (Some c) n = 1 + slack n

pub left_falls : (marks t ds : List ℕ) (src cut e v w : ℕ) (m n : List ℕ) (c r : Option ℕ) → Alive c → LegRaised marks t ds src cut e v w m n r → left r n < left c m
unfolding left
left_falls marks t ds src cut e v w m n None r a l = absurd (a refl)
left_falls marks t ds src cut e v w m n (Some c) None a l = omega arith
left_falls marks t ds src cut e v w m n (Some c) (Some r) a l = omega (arith, (l.stepped (λ z. cc)).less)
