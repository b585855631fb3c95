-- Laws of a first look at a choice: minutes that no solution can be before, along the legs of the train that has to wait, and what they cost at least.
use Rattle.std.specs.Prelude.{ℕ, zero, suc, ◌+◌, ◌%◌, ◌≤◌, ◌<◌, ◌≡◌, Bool, true, List, set}
use Rattle.std.proofs.Math.Path.{refl, ap, subst⁻¹}
use Rattle.std.proofs.Common.{sym, ◌∙◌, subst, inl, inr, get_or-set_same}
use Rattle.std.proofs.Math.Logic.{⊎_elim}
use Rattle.std.proofs.Math.Bool.{false}
use native.Mathlib.Omega.{arith}
use Rattle.std.proofs.Math.ListN.{get_or}
use borrow.Author.Tests.{ne_eqb}
use Rattle.orders.specs.LeastMinutes.NoLater.{◌⊑◌}
use Rattle.orders.specs.LeastMinutes.ArcsLaws.{stored}
use Rattle.orders.specs.Plan.Bits.{in_mask}
use Rattle.orders.specs.LineTables.Tables.{run_in, next_in, limit_in, rest_in, last_in, cost_in}
use Rattle.orders.specs.Raise.CostLaws.{cost_grows, cost_one}
use Rattle.orders.specs.Raise.Raising.{Graph, KeepsAll}
use Rattle.orders.specs.Graph.LegGraph.{LegArc, runs, next, depart, after, gone, beside, doubled, station_of, leaving, comes_on, UsedLeg, leg_graph, Ends, GoesOn, Shaped}
use Rattle.orders.specs.Raise.LegTimes.{Arrives, more_cost}
use Rattle.orders.specs.Lift.Lifting.{Ready, NoneChosen}
use Rattle.orders.specs.Look.Prospects.{NoneFrom, GoesBefore}
use Rattle.orders.proofs.Lift.ServingLaws.{CalledBy, Serves}

-- the arrival by the leg that has to wait is no great minute
pub arrives_small : (w v run a : ℕ) → Arrives 0 w v run a → v ≤ 20000 → w ≤ 20000 → run ≤ 240 → a ≤ 20240
arrives_small w v run a p i j k = ⊎_elim (λ o. omega arith) (λ o. ⊎_elim (λ o. omega arith) (λ o. omega arith) o) p.one

module _ (marks t ds : List ℕ) where
  abbrev G : Graph
  G = leg_graph marks t ds

  -- ---- an arrival by leg e that is late, or that costs too much

  module _ (m : List ℕ) (e cost cut a : ℕ) (r : Ready m marks t ds e cost cut) where
    pub none_late : (limit : ℕ) → limit ≡ limit_in t e → limit < a → NoneFrom marks t ds cut e 0 a m
    unfolding NoneFrom
    none_late limit q l y within keeps above dep arr limits cheap = omega (arith, limits e r.leg)

    -- the minutes with this arrival alone put later cost no more than any that arrive then
    abbrev m₁ : List ℕ
    m₁ = set m (176 + e) a

    pub none_dear : (a₀ more : ℕ) → a₀ ≡ get_or m (176 + e) 0 → a₀ < a → more ≡ more_cost t e a₀ a → cut < cost + more → NoneFrom marks t ds cut e 0 a m
    unfolding NoneFrom
    none_dear a₀ more was l q d y within keeps above dep arr limits cheap = omega (arith, r.cost_is, dearer, cost_grows t m₁ y below)
      where
        dearer : cost_in t m₁ ≡ cost_in t m + more_cost t e a₀ a
        dearer =
            cost_one t m m₁ e a₀ a r.leg.0 (sym was) (get_or-set_same m (176 + e) a 0 (omega (arith, r.size, r.leg.0))) (omega arith)
            (λ i n _. ⊎_elim (λ z. z) (λ z. absurd (n z.0)) (stored m (176 + e) a i))

        below : m₁ ⊑ y
        below i = ⊎_elim (λ z. omega (arith, above i)) (λ z. omega (arith, z.1, ap (λ (x : ℕ). get_or y x 0) z.0)) (stored m (176 + e) a i)

  -- ---- along the train: from leg e to its last leg it takes the runs and stops that are left, which get less from leg to leg

  module _ (s : Shaped marks t ds) (y : List ℕ) (keeps : KeepsAll G y) where
    abbrev RestKept : ℕ → Type 0
    RestKept e = get_or y (176 + e) 0 + rest_in t e ≤ get_or y (176 + last_in t e) 0

    kept_last : (e : ℕ) → Ends t e → RestKept e
    kept_last e h = omega (arith, h.1, ap (λ (i : ℕ). get_or y (176 + i) 0) h.2)

    kept_on : (e : ℕ) → UsedLeg ds e → GoesOn t e (next_in t e) → RestKept (next_in t e) → RestKept e
    unfolding KeepsAll
    kept_on e u h k =
        omega (
          arith,
          k,
          h.1,
          keeps (next e) (u, λ z. omega (arith, h.0, h.1, ap (rest_in t) z)),
          keeps (runs (next_in t e)) (s.next_used e u),
          ap (λ (i : ℕ). get_or y (176 + i) 0) h.2,
        )

    rest_kept : (n e : ℕ) → rest_in t e ≤ n → UsedLeg ds e → RestKept e
    rest_kept zero e few u = ⊎_elim (kept_last e) (λ h. absurd (omega (arith, h.0, h.1))) (s.rest_falls e u)
    rest_kept (suc n) e few u =
        ⊎_elim (kept_last e) (λ h. kept_on e u h (rest_kept n (next_in t e) (omega (arith, h.0, h.1)) (s.next_used e u))) (s.rest_falls e u)

  module _ (m : List ℕ) (e v w cost cut : ℕ) (r : Ready m marks t ds e cost cut) where
    -- a train that fails by the minute at which it comes to its end at the earliest fails
    pub none_by : (run a f rest : ℕ) → run ≡ run_in t e → Arrives 0 w v run a → f ≡ last_in t e → rest ≡ rest_in t e →
        NoneFrom marks t ds cut f 0 (a + rest) m → NoneFrom marks t ds cut e v w m
    unfolding NoneFrom KeepsAll
    none_by run a f rest q p last left none y within keeps above dep arr =
        none y within keeps above (omega arith)
        (omega (arith, arrived, rest_kept r.shaped y keeps (rest_in t e) e (omega arith) r.leg, ap (λ (i : ℕ). get_or y (176 + i) 0) last))
      where
        arrived : a ≤ get_or y (176 + e) 0
        arrived = ⊎_elim (λ o. omega arith) (λ o. ⊎_elim (λ o. omega arith) (λ o. omega (arith, keeps (runs e) r.leg)) o) p.one

  -- ---- the choice: its arcs ask that leg f depart at v and arrive at w, so every solution has them

  called : (Here : LegArc → Type 0) (m y : List ℕ) (x v : ℕ) → KeepsAll G y → m ⊑ y → CalledBy marks t ds Here m x v → v ≤ get_or y x 0
  unfolding KeepsAll
  called Here m y x v keeps above (inl z) = omega arith
  called Here m y x v keeps above (inr (a, u, h, (q, r))) = omega (arith, keeps a u, above (G.from a), ap (λ (i : ℕ). get_or y i 0) q)

  pub none_chosen : (Chosen : LegArc → Type 0) (m : List ℕ) (f v w cut : ℕ) → Serves marks t ds Chosen m f v w → NoneFrom marks t ds cut f v w m →
      NoneChosen marks t ds cut m
  unfolding NoneFrom NoneChosen
  none_chosen Chosen m f v w cut h none y within keeps above =
      none y within keeps above (called Chosen m y f v keeps above h.departs) (called Chosen m y (176 + f) w keeps above h.arrives)

  -- ---- a train that goes over the segment before

  -- train j goes before that of leg e on its segment
  module _ (e j : ℕ) (low : j < 12) (train : e % 16 < 12) (marked : in_mask (get_or marks (beside e j) 0) (e % 16) ≡ true)
      (used : UsedLeg ds (beside e j)) (y : List ℕ) (keeps : KeepsAll G y) where
    place : beside (beside e j) (e % 16) ≡ e
    place = omega arith

    departs_before : get_or y (beside e j) 0 ≤ get_or y e 0
    unfolding KeepsAll
    departs_before = go (doubled t ds (beside e j) (e % 16)) refl
      where
        at_leg : get_or y (beside (beside e j) (e % 16)) 0 ≡ get_or y e 0
        at_leg = ap (λ (x : ℕ). get_or y x 0) place

        go : (b : Bool) → doubled t ds (beside e j) (e % 16) ≡ b → get_or y (beside e j) 0 ≤ get_or y e 0
        go true q = omega (arith, at_leg, keeps (depart (beside e j) (e % 16)) (used, train, marked, q))
        go false q = omega (arith, at_leg, keeps (after (beside e j) (e % 16)) (used, train, marked, q), keeps (runs (beside e j)) used)

    -- the other way
    arrives_before : (get_or ds (beside e j) 0 ≡ get_or ds e 0 → ⊥) → get_or y (176 + beside e j) 0 ≤ get_or y e 0
    unfolding KeepsAll
    arrives_before other =
        let apart : doubled t ds (beside e j) (e % 16) ≡ false = rw (place, ne_eqb (get_or ds (beside e j) 0) (get_or ds e 0) other) refl in
        omega (arith, ap (λ (x : ℕ). get_or y x 0) place, keeps (after (beside e j) (e % 16)) (used, train, marked, apart))

  -- so it cannot come to the station after that train has left
  pub before_none : (m : List ℕ) (e f j cost cut : ℕ) → Ready m marks t ds e cost cut → j < 12 → in_mask (get_or marks (leaving ds e) 0) j ≡ true →
      f ≡ comes_on ds (station_of ds e) j → GoesBefore marks t ds e f j → NoneChosen marks t ds cut m
  unfolding NoneChosen KeepsAll
  before_none m e f j cost cut r low mark is g y within keeps above limits cheap = ⊎_elim
      (λ h. omega (
        arith,
        comes,
        arrives_before e j low g.train g.marked (subst (UsedLeg ds) h.0 used) y keeps
            (λ q. h.1 (ap (λ (x : ℕ). get_or ds x 0) h.0 ∙ q)),
        ap (λ (x : ℕ). get_or y (176 + x) 0) h.0,
      ))
      (λ h. omega (
        arith,
        comes,
        keeps (next f) (used, λ q. h.0 (sym q ∙ h.1)),
        ap (λ (x : ℕ). get_or y x 0) h.1,
        departs_before e j low g.train g.marked (subst (UsedLeg ds) h.1 (r.shaped.next_used f used)) y keeps,
      ))
      g.goes
    where
      used : UsedLeg ds f
      used = subst⁻¹ (UsedLeg ds) is (r.shaped.comes_used e j r.leg low mark)

      comes : get_or y e 0 + 1 ≤ get_or y (176 + f) 0
      comes = omega (arith, keeps (gone e j) (r.leg, low, mark), ap (λ (x : ℕ). get_or y (176 + x) 0) is)
