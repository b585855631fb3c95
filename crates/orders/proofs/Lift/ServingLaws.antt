-- Lifting a leg to the minutes that arcs ask for which end at it: those arcs are kept then, and every solution has those minutes too.
use Rattle.std.specs.Prelude.{ℕ, ◌+◌, ◌≤◌, ◌<◌, ◌≡◌, refl, ◌⊎◌, true, false, List, Option, None}
use Rattle.std.proofs.Common.{sym, ◌∙◌, true≢false, arith}
use Rattle.std.proofs.Math.Path.{ap, subst⁻¹}
use Rattle.std.proofs.Math.Logic.{inl, inr, ⊎_elim}
use Rattle.std.proofs.Math.ListN.{get_or}
use Rattle.orders.specs.Plan.Bits.{in_mask}
use Rattle.orders.specs.LineTables.Tables.{stop_in, next_in, cost_in}
use Rattle.orders.specs.Raise.Raising.{Graph, Kept, KeepsAll, Nothing, Solves, Clear, Reach}
use Rattle.orders.specs.Raise.RaisingLaws.{le_or_lt, done, solves_on, raised_then, raised_skip, none_then}
use Rattle.orders.specs.Graph.LegGraph.{LegArc, runs, slow, next, depart, arrive, after, gone, beside, doubled, gap_in, station_of, leaving, comes_on, UsedLeg, UsedArc, leg_graph, InLimits}
use Rattle.orders.specs.Raise.LegTimes.{GoesBehind}
use Rattle.orders.specs.Lift.Lifting.{Alive, told_cost, Asks, Lifted, ToNext, Going, NoWay, Stepped, Follows, Comes}
use Rattle.orders.specs.Lift.LiftingLaws.{going_skip}

-- a fact of leg e and train j is one of whatever has their numbers
pub at_pair : (P : ℕ → ℕ → Type 0) (e j x i : ℕ) → x ≡ e → i ≡ j → P e j → P x i
at_pair P e j x i p q h = subst⁻¹ (λ (z : ℕ). P z i) p (subst⁻¹ (λ (z : ℕ). P e z) q h)

module _ (marks t ds : List ℕ) where
  abbrev G : Graph
  G = leg_graph marks t ds

  -- by minutes n the arc asks that event x be at v
  abbrev pub Calls : List ℕ → ℕ → ℕ → LegArc → Type 0
  Calls n x v a = (G.to a ≡ x) × (get_or n (G.from a) 0 + G.wait a ≡ v + G.allow a)

  -- one of the arcs of `Here` asks that event x be at v, where v is not 0
  abbrev pub CalledBy : (LegArc → Type 0) → List ℕ → ℕ → ℕ → Type 0
  CalledBy Here n x v = (v ≡ 0) ⊎ ((a : LegArc) × UsedArc marks t ds a × Here a × Calls n x v a)

  -- the arcs of `Here` ask that leg f depart at v or arrive at w, and one of them asks for each of the two, where it is not 0
  pub record Serves (Here : LegArc → Type 0) (n : List ℕ) (f v w : ℕ) : Type 0 where
    pub ends : (a : LegArc) → UsedArc marks t ds a → Here a → Calls n f v a ⊎ Calls n (176 + f) w a
    pub departs : CalledBy Here n f v
    pub arrives : CalledBy Here n (176 + f) w

  -- what one arc asks for is there already, or a solution has it too
  asked : (Here : LegArc → Type 0) (src : ℕ) (n y : List ℕ) (x v : ℕ) → Solves G src n y → Clear G src Here n y → CalledBy Here n x v →
      (v ≤ get_or n x 0) ⊎ Reach src n y x v
  unfolding KeepsAll
  asked Here src n y x v s c (inl z) = inl (omega arith)
  asked Here src n y x v s c (inr (a, u, h, (q, r))) =
      ⊎_elim
      (λ k. inl (omega (arith, ap (λ (i : ℕ). get_or n i 0) q)))
      (λ k. inr (from_reach (⊎_elim (λ z. z) (λ z. c a u h z) k)))
      (s.near a u)
    where
      from_reach : Reach src n y (G.from a) (get_or n (G.from a) 0) → Reach src n y x v
      from_reach k = omega (arith, s.keeps a u, ap (λ (i : ℕ). get_or y i 0) q)

  module _ (Here : LegArc → Type 0) (n : List ℕ) (f v w : ℕ) (h : Serves Here n f v w) where
    pub serves_asks : (src : ℕ) (y : List ℕ) → Solves G src n y → Clear G src Here n y → Asks src f v w n y
    serves_asks src y s c = (asked Here src n y f v s c h.departs, asked Here src n y (176 + f) w s c h.arrives)

    -- minutes n' that have what is asked for, and in which the arc's source did not rise, or the arc is kept
    kept_by : (n' : List ℕ) → (v ≤ get_or n' f 0) × (w ≤ get_or n' (176 + f) 0) → (a : LegArc) → get_or n' (G.from a) 0 ≤ get_or n (G.from a) 0 →
        Calls n f v a ⊎ Calls n (176 + f) w a → Kept G n' a
    kept_by n' k a l (inl q) = omega (arith, k.0, ap (λ (i : ℕ). get_or n' i 0) q.0)
    kept_by n' k a l (inr q) = omega (arith, k.1, ap (λ (i : ℕ). get_or n' i 0) q.0)

    pub serves_there : v ≤ get_or n f 0 → w ≤ get_or n (176 + f) 0 → (a : LegArc) → UsedArc marks t ds a → Here a → Kept G n a
    serves_there p q a u x = kept_by n (p, q) a (omega arith) (h.ends a u x)

    pub serves_stepped : (T : LegArc → Type 0) (src cut : ℕ) (n' : List ℕ) (r : ℕ) → Stepped marks t ds T src cut f v w n n' r →
        (a : LegArc) → UsedArc marks t ds a → Here a → Kept G n' a ⊎ T a
    serves_stepped T src cut n' r l a u x =
        ⊎_elim
        (λ k. inl (kept_by n' (l.dep, l.arr) a k (h.ends a u x)))
        (λ k. l.going.raised.grown.rose a u k)
        (le_or_lt (get_or n' (G.from a) 0) (get_or n (G.from a) 0))

    pub serves_lifted : (src cut : ℕ) (n' : List ℕ) (r : Option ℕ) → Lifted marks t ds src cut f v w n n' r → Alive r →
        (a : LegArc) → UsedArc marks t ds a → Here a → Kept G n' a
    serves_lifted src cut n' r l z a u x =
        ⊎_elim
        (λ k. kept_by n' (l.there z) a k (h.ends a u x))
        (λ k. done ((l.raised z).grown.rose a u k))
        (le_or_lt (get_or n' (G.from a) 0) (get_or n (G.from a) 0))

    -- raising goes on without the lift where the minutes are there, or with it
    module _ (src cut : ℕ) (H : List ℕ → Type 0) (D T : LegArc → Type 0) (m : List ℕ) (c : ℕ) (g : Going marks t ds src cut H D T m n c) where
      pub serves_still : (T' : LegArc → Type 0) → ((a : LegArc) → UsedArc marks t ds a → T a → Here a ⊎ T' a) → v ≤ get_or n f 0 → w ≤ get_or n (176 + f) 0 →
          Going marks t ds src cut H D T' m n c
      serves_still T' part p q =
          going_skip marks t ds src cut H D T m n c g T' (λ a u x. ⊎_elim (λ k. inl (serves_there p q a u k)) (λ k. inr k) (part a u x))

      module _ (clear : (y : List ℕ) → Solves G src m y → H y → Clear G src Here n y) (n' : List ℕ) (r : Option ℕ) (l : Lifted marks t ds src cut f v w n n' r) where
        asks : (y : List ℕ) → Solves G src m y → H y → Asks src f v w n y
        asks y s k = serves_asks src y (solves_on G src H D T m n g.raised y s k) (clear y s k)

        pub serves_dead : r ≡ None → NoWay marks t ds src cut H m n'
        serves_dead q = none_then G src H D T m n g.raised (InLimits t ds) (cost_in t) cut (Asks src f v w n) n' (l.none q) asks

        pub serves_raised : (T' : LegArc → Type 0) → ((a : LegArc) → UsedArc marks t ds a → T a → Here a ⊎ T' a) → Alive r →
            Going marks t ds src cut H D T' m n' (told_cost r)
        serves_raised T' part z =
            record {
              raised = raised_skip G src H D T m n'
                  (raised_then G src H D T m n g.raised (Asks src f v w n) (Nothing G) T n' (λ a u x. inr x) (l.raised z) asks)
                  T' (λ a u x. ⊎_elim (λ k. inl (serves_lifted src cut n' r l z a u k)) (λ k. inr k) (part a u x));
              settled = l.settled z;
              legs = l.legs z;
            }

  -- ---- which arcs are served

  -- one arc, which ends at the departure of leg f or at its arrival
  module _ (n : List ℕ) (b : LegArc) (u : UsedArc marks t ds b) (f : ℕ) where
    pub serves_departure : (v : ℕ) → Calls n f v b → Serves (λ a. a ≡ b) n f v 0
    serves_departure v c =
        record { ends = λ a k q. inl (subst⁻¹ (λ (z : LegArc). Calls n f v z) q c); departs = inr (b, u, refl, c); arrives = inl refl }

    pub serves_arrival : (w : ℕ) → Calls n (176 + f) w b → Serves (λ a. a ≡ b) n f 0 w
    serves_arrival w c =
        record { ends = λ a k q. inr (subst⁻¹ (λ (z : LegArc). Calls n (176 + f) w z) q c); departs = inl refl; arrives = inr (b, u, refl, c) }

  module _ (n : List ℕ) (e f : ℕ) where
    pub serves_next : (v : ℕ) → UsedArc marks t ds (next e) → f ≡ next_in t e → v ≡ get_or n (176 + e) 0 + stop_in t e → Serves (ToNext e) n f v 0
    serves_next v u ef ev = record { ends = ends; departs = inr (next e, u, refl, (sym ef, omega arith)); arrives = inl refl }
      where
        ends : (a : LegArc) → UsedArc marks t ds a → ToNext e a → Calls n f v a ⊎ Calls n (176 + f) 0 a
        ends (runs x) k q = absurd q
        ends (slow x) k q = absurd q
        ends (next x) k q = inl (subst⁻¹ (λ (z : ℕ). Calls n f v (next z)) q (sym ef, omega arith))
        ends (depart x i) k q = absurd q
        ends (arrive x i) k q = absurd q
        ends (after x i) k q = absurd q
        ends (gone x i) k q = absurd q

    module _ (j : ℕ) (leg : UsedLeg ds e) (train : j < 12) where
      pub serves_comes : (w : ℕ) → in_mask (get_or marks (leaving ds e) 0) j ≡ true → f ≡ comes_on ds (station_of ds e) j → w ≡ get_or n e 0 + 1 →
          Serves (Comes e j) n f 0 w
      serves_comes w on ef ew = record
          { ends = ends; departs = inl refl; arrives = inr (gone e j, (leg, train, on), (refl, refl), (ap (λ (z : ℕ). 176 + z) (sym ef), omega arith)) }
        where
          ends : (a : LegArc) → UsedArc marks t ds a → Comes e j a → Calls n f 0 a ⊎ Calls n (176 + f) w a
          ends (runs x) k q = absurd q
          ends (slow x) k q = absurd q
          ends (next x) k q = absurd q
          ends (depart x i) k q = absurd q
          ends (arrive x i) k q = absurd q
          ends (after x i) k q = absurd q
          ends (gone x i) k q = inr (at_pair (λ x i. Calls n (176 + f) w (gone x i)) e j x i q.0 q.1 (ap (λ (z : ℕ). 176 + z) (sym ef), omega arith))

      module _ (v w : ℕ) (on : in_mask (get_or marks e 0) j ≡ true) (ef : f ≡ beside e j) where
        twice : doubled t ds e j ≡ true → v ≡ get_or n e 0 + gap_in t ds e j → w ≡ get_or n (176 + e) 0 + gap_in t ds e j → Serves (Follows e j) n f v w
        twice d ev ew =
            record {
              ends = ends;
              departs = inr (depart e j, (leg, train, on, d), (refl, refl), (sym ef, omega arith));
              arrives = inr (arrive e j, (leg, train, on, d), (refl, refl), (ap (λ (z : ℕ). 176 + z) (sym ef), omega arith));
            }
          where
            ends : (a : LegArc) → UsedArc marks t ds a → Follows e j a → Calls n f v a ⊎ Calls n (176 + f) w a
            ends (runs x) k q = absurd q
            ends (slow x) k q = absurd q
            ends (next x) k q = absurd q
            ends (depart x i) k q = inl (at_pair (λ x i. Calls n f v (depart x i)) e j x i q.0 q.1 (sym ef, omega arith))
            ends (arrive x i) k q =
                inr (at_pair (λ x i. Calls n (176 + f) w (arrive x i)) e j x i q.0 q.1 (ap (λ (z : ℕ). 176 + z) (sym ef), omega arith))
            ends (after x i) k q =
                absurd (true≢false (sym d ∙ at_pair (λ x i. doubled t ds x i ≡ false) x i e j (sym q.0) (sym q.1) k.3))
            ends (gone x i) k q = absurd q

        once : doubled t ds e j ≡ false → v ≡ get_or n (176 + e) 0 + gap_in t ds e j → w ≡ 0 → Serves (Follows e j) n f v w
        once d ev ew = record { ends = ends; departs = inr (after e j, (leg, train, on, d), (refl, refl), (sym ef, omega arith)); arrives = inl ew }
          where
            other : (x i : ℕ) → x ≡ e → i ≡ j → doubled t ds x i ≡ true → ⊥
            other x i p q k = true≢false (sym (at_pair (λ x i. doubled t ds x i ≡ true) x i e j (sym p) (sym q) k) ∙ d)

            ends : (a : LegArc) → UsedArc marks t ds a → Follows e j a → Calls n f v a ⊎ Calls n (176 + f) w a
            ends (runs x) k q = absurd q
            ends (slow x) k q = absurd q
            ends (next x) k q = absurd q
            ends (depart x i) k q = absurd (other x i q.0 q.1 k.3)
            ends (arrive x i) k q = absurd (other x i q.0 q.1 k.3)
            ends (after x i) k q = inl (at_pair (λ x i. Calls n f v (after x i)) e j x i q.0 q.1 (sym ef, omega arith))
            ends (gone x i) k q = absurd q

        pub serves_behind : GoesBehind n t ds e j v w → Serves (Follows e j) n f v w
        serves_behind b = ⊎_elim (λ z. twice z.0 z.1 z.2) (λ z. once z.0 z.1 z.2) b
