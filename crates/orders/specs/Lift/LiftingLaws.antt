-- Laws of raising legs: minutes under way with their cost, what a call in the cycle requires, and calls one after the other.
use Rattle.std.specs.Prelude.{ℕ, ◌+◌, ◌≤◌, ◌≡◌, refl, ◌⊎◌, List, Option, Some, None}
use Rattle.std.proofs.Common.{◌∙◌, inl, inr, ⊎_elim, arith}
use Rattle.std.proofs.Math.Path.{subst⁻¹}
use Rattle.orders.specs.LeastMinutes.NoLater.{slack}
use Rattle.orders.specs.LeastMinutes.NoLaterLaws.{slack_le}
use Rattle.orders.specs.LineTables.Tables.{cost_in}
use Rattle.orders.specs.Raise.Raising.{Kept, Nothing, Solves, Clear}
use Rattle.orders.specs.Raise.RaisingLaws.{raised_start, solves_on, clear_on, raised_onto, raised_then, raised_skip, none_then}
use Rattle.orders.specs.Graph.LegGraph.{LegArc, UsedLeg, UsedArc, leg_graph, InLimits}
use Rattle.orders.specs.Lift.Lifting.{Alive, told_cost, Ready, Asks, Lifted, Followed, Going, GoingFor, NoWay, Stepped}

-- an answer with a cost, and any answer
pub some_alive : {r : Option ℕ} {c : ℕ} → r ≡ Some c → Alive r
some_alive p = λ q. cc

pub dead_or_alive : (r : Option ℕ) → (r ≡ None) ⊎ Alive r
dead_or_alive None = inl refl
dead_or_alive (Some c) = inr (λ q. cc)

module _ (marks t ds : List ℕ) where
  pub ready_leg : (m : List ℕ) (e f cost cut : ℕ) → Ready m marks t ds e cost cut → UsedLeg ds f → Ready m marks t ds f cost cut
  ready_leg m e f cost cut r u =
      record {
        shaped = r.shaped;
        size = r.size;
        within = r.within;
        limits = r.limits;
        legs = r.legs;
        leg = u;
        cost_is = r.cost_is;
        cost_in_lem = r.cost_in_lem;
      }

  -- ---- an answer without minutes

  pub lifted_dead : (src cut e v w : ℕ) (m n : List ℕ) → NoWay marks t ds src cut (Asks src e v w m) m n → Lifted marks t ds src cut e v w m n None
  lifted_dead src cut e v w m n h =
      record {
        raised = λ q. absurd (q refl);
        there = λ q. absurd (q refl);
        settled = λ q. absurd (q refl);
        legs = λ q. absurd (q refl);
        none = λ _. h;
      }

  pub followed_dead : (D : LegArc → Type 0) (src cut : ℕ) (m n : List ℕ) → NoWay marks t ds src cut (Clear (leg_graph marks t ds) src D m) m n →
      Followed D marks t ds src cut m n None
  followed_dead D src cut m n h =
      record { raised = λ q. absurd (q refl); settled = λ q. absurd (q refl); legs = λ q. absurd (q refl); none = λ _. h }

  -- ---- raising under way

  pub going_start : (src : ℕ) (H : List ℕ → Type 0) (T : LegArc → Type 0) (m : List ℕ) (e cost cut : ℕ) →
      Ready m marks t ds e cost cut → Going marks t ds src cut H T T m m cost
  going_start src H T m e cost cut r =
      record {
        raised = raised_start (leg_graph marks t ds) src H T m r.within;
        settled = record { cost_is = r.cost_is; cost_in_lem = r.cost_in_lem; limits = r.limits };
        legs = r.legs;
      }

  module _ (src cut : ℕ) (H : List ℕ → Type 0) (D T : LegArc → Type 0) (m n : List ℕ) (c : ℕ) (g : Going marks t ds src cut H D T m n c) where
    pub going_as : (n' : List ℕ) (c' : ℕ) → n' ≡ n → c' ≡ c → Going marks t ds src cut H D T m n' c'
    going_as n' c' p q =
        subst⁻¹ (λ (z : List ℕ). Going marks t ds src cut H D T m z c') p (subst⁻¹ (λ (z : ℕ). Going marks t ds src cut H D T m n z) q g)

    pub going_ready : (e f cost : ℕ) → Ready m marks t ds e cost cut → UsedLeg ds f → Ready n marks t ds f c cut
    going_ready e f cost r u =
        record {
          shaped = r.shaped;
          size = g.raised.grown.size ∙ r.size;
          within = g.raised.grown.within;
          limits = g.settled.limits;
          legs = g.legs;
          leg = u;
          cost_is = g.settled.cost_is;
          cost_in_lem = g.settled.cost_in_lem;
        }

    pub going_slack : slack n ≤ slack m
    going_slack = slack_le m n g.raised.grown.size g.raised.grown.up

    -- what is to do is kept already, or part of less
    pub going_skip : (T' : LegArc → Type 0) → ((a : LegArc) → UsedArc marks t ds a → T a → Kept (leg_graph marks t ds) n a ⊎ T' a) → Going marks t ds src cut H D
        T' m n c
    going_skip T' f = record { raised = raised_skip (leg_graph marks t ds) src H D T m n g.raised T' f; settled = g.settled; legs = g.legs }

    -- a call follows that does D' of it, none of which has to be left for later
    module _ (D' : LegArc → Type 0) (n' : List ℕ) (r : Option ℕ) (f : Followed D' marks t ds src cut n n' r)
        (clear : (y : List ℕ) → Solves (leg_graph marks t ds) src m y → H y → Clear (leg_graph marks t ds) src D' n y) where
      pub going_then : (T' : LegArc → Type 0) → ((a : LegArc) → UsedArc marks t ds a → T a → D' a ⊎ T' a) → Alive r → Going marks t ds src cut H D T' m n' (told_cost r)
      going_then T' part a =
          record {
            raised = raised_then (leg_graph marks t ds) src H D T m n g.raised _ D' T' n' part (f.raised a) clear;
            settled = f.settled a;
            legs = f.legs a;
          }

      pub going_dead : r ≡ None → NoWay marks t ds src cut H m n'
      going_dead q = none_then (leg_graph marks t ds) src H D T m n g.raised (InLimits t ds) (cost_in t) cut _ n' (f.none q) clear

  -- of what was due nothing has to be left for later from here on
  pub going_clear : (src cut : ℕ) (D T : LegArc → Type 0) (m n : List ℕ) (c : ℕ) →
      GoingFor marks t ds src cut D T m n c → (D' : LegArc → Type 0) → ((a : LegArc) → D' a → D a) →
      (y : List ℕ) → Solves (leg_graph marks t ds) src m y → Clear (leg_graph marks t ds) src D m y → Clear (leg_graph marks t ds) src D' n y
  going_clear src cut D T m n c g D' part y s h =
      clear_on (leg_graph marks t ds) src _ D T m n g.raised D' y s h (λ a u d l. h a u (part a d) l)

  -- nothing is to do any more
  pub followed : (D : LegArc → Type 0) (src cut : ℕ) (m n : List ℕ) (c : ℕ) →
      GoingFor marks t ds src cut D (Nothing (leg_graph marks t ds)) m n c → Followed D marks t ds src cut m n (Some c)
  followed D src cut m n c g =
      record {
        raised = λ _. g.raised;
        settled = λ _. g.settled;
        legs = λ _. g.legs;
        none = λ q. absurd (cc);
      }

  -- ---- after stores: leg e is where it was asked to be, and T is to do

  module _ (T : LegArc → Type 0) (src cut e v w : ℕ) (m n : List ℕ) (c : ℕ) (g : Stepped marks t ds T src cut e v w m n c) where
    pub stepped_ready : (cost : ℕ) → Ready m marks t ds e cost cut → Ready n marks t ds e c cut
    stepped_ready cost r = going_ready src cut _ _ T m n c g.going e e cost r r.leg

    -- what is to do is kept already, or part of less
    pub stepped_skip : (T' : LegArc → Type 0) → ((a : LegArc) → UsedArc marks t ds a → T a → Kept (leg_graph marks t ds) n a ⊎ T' a) →
        ((a : LegArc) → T' a → T a) → Stepped marks t ds T' src cut e v w m n c
    stepped_skip T' f less =
        record {
          going = going_skip src cut _ _ T m n c g.going T' f;
          dep = g.dep;
          arr = g.arr;
          clear = λ y s h a u d l. g.clear y s h a u (less a d) l;
          less = g.less;
        }

    -- the stores of leg x follow, which leave T₂; what is to do then is T'
    module _ (x p q : ℕ) (asks : (y : List ℕ) → Solves (leg_graph marks t ds) src n y → Asks src x p q n y) where
      on : (y : List ℕ) → Solves (leg_graph marks t ds) src m y → Asks src e v w m y → Solves (leg_graph marks t ds) src n y
      on = solves_on (leg_graph marks t ds) src _ _ T m n g.going.raised

      pub stepped_onto : (T₂ T' : LegArc → Type 0) (n' : List ℕ) (r : ℕ) → Stepped marks t ds T₂ src cut x p q n n' r →
          ((a : LegArc) → UsedArc marks t ds a → T a → Kept (leg_graph marks t ds) n' a ⊎ T' a) → ((a : LegArc) → T₂ a → T' a) →
          ((a : LegArc) → T' a → T a ⊎ T₂ a) → Stepped marks t ds T' src cut e v w m n' r
      stepped_onto T₂ T' n' r h part more less =
          record {
            going = record {
              raised = raised_onto (leg_graph marks t ds) src _ _ T m n g.going.raised _ _ T₂ T' n' h.going.raised
                  (λ y s k. asks y (on y s k)) part more;
              settled = h.going.settled;
              legs = h.going.legs;
            };
            dep = omega (arith, g.dep, h.going.raised.grown.up e);
            arr = omega (arith, g.arr, h.going.raised.grown.up (176 + e));
            clear = λ y s k a u d l. ⊎_elim
                (λ o. clear_on (leg_graph marks t ds) src _ _ T₂ n n' h.going.raised T y (on y s k) (asks y (on y s k)) (g.clear y s k) a u o l)
                (λ o. h.clear y (on y s k) (asks y (on y s k)) a u o l)
                (less a d);
            less = omega (arith, g.less, h.less);
          }

      pub stepped_none : (n' : List ℕ) → NoWay marks t ds src cut (Asks src x p q n) n n' → NoWay marks t ds src cut (Asks src e v w m) m n'
      stepped_none n' h = none_then (leg_graph marks t ds) src _ _ T m n g.going.raised (InLimits t ds) (cost_in t) cut _ n' h
          (λ y s k. asks y (on y s k))

    -- a call follows that does all of it, or finds no way
    pub stepped_last : (n' : List ℕ) (r : Option ℕ) → Followed T marks t ds src cut n n' r → Lifted marks t ds src cut e v w m n' r
    stepped_last n' r f =
        record {
          raised = λ a. (last a).raised;
          there = λ a. (omega (arith, g.dep, (f.raised a).grown.up e), omega (arith, g.arr, (f.raised a).grown.up (176 + e)));
          settled = f.settled;
          legs = f.legs;
          none = λ q. going_dead src cut _ _ T m n c g.going T n' r f g.clear q;
        }
      where
        last : Alive r → Going marks t ds src cut (Asks src e v w m) (Nothing (leg_graph marks t ds)) (Nothing (leg_graph marks t ds)) m n'
            (told_cost r)
        last a = going_then src cut _ _ T m n c g.going T n' r f g.clear (Nothing (leg_graph marks t ds)) (λ a u x. inl x) a
