-- Laws of the two stores of `raise_leg`: one leg departs and arrives later. What leaves the leg is to do then; or there is no way.
use Rattle.std.specs.Prelude.{ℕ, ◌+◌, ◌≤◌, ◌<◌, ◌≡◌, refl, ◌⊎◌, Bool, true, false, List, length, set, Some, None}
use Rattle.std.proofs.Common.{sym, ◌∙◌, ap, inr, arith, length-set, get_or-set_same, get_or-set_other}
use Rattle.std.proofs.Math.Path.{subst⁻¹}
use Rattle.std.proofs.Math.Logic.{inl, ⊎_elim}
use Rattle.std.proofs.Math.ListN.{get_or}
use Rattle.orders.specs.LeastMinutes.NoLater.{◌⊑◌, WithinDays}
use Rattle.orders.specs.LeastMinutes.NoLaterLaws.{slack_less}
use Rattle.orders.specs.LeastMinutes.ArcsLaws.{stored}
use Rattle.orders.specs.LineTables.Tables.{run_in, limit_in, cost_in}
use Rattle.orders.specs.Raise.CostLaws.{cost_grows, cost_one}
use Rattle.orders.specs.Raise.Raising.{Graph, Kept, KeepsAll, Solves, Clear, Reach, AllReached, NoneFor}
use Rattle.orders.specs.Raise.RaisingLaws.{first_below}
use Rattle.orders.specs.Graph.LegGraph.{LegArc, runs, slow, next, depart, arrive, after, gone, UsedArc, leg_graph, InLimits}
use Rattle.orders.specs.Raise.LegTimes.{Departs, Arrives, SourceRises, more_cost}
use Rattle.orders.specs.Lift.Lifting.{LegsKept, Ready, Asks, Stepped}
use Rattle.orders.specs.Lift.RaisedPaths.{Outward, LegRaised}

module _ (marks t ds : List ℕ) where
  abbrev G : Graph
  G = leg_graph marks t ds

  module _ (m : List ℕ) (src e v w cost cut d a : ℕ) (r : Ready m marks t ds e cost cut)
      (dep : Departs (get_or m e 0) v w (run_in t e) d) (arr : Arrives (get_or m (176 + e) 0) w d (run_in t e) a) where
    abbrev m₁ : List ℕ
    m₁ = set (set m e d) (176 + e) a

    one_leg : (get_or m e 0 + run_in t e ≤ get_or m (176 + e) 0) × (get_or m (176 + e) 0 ≤ get_or m e 0 + run_in t e)
    unfolding LegsKept
    one_leg = r.legs e r.leg

    at_dep : get_or m₁ e 0 ≡ d
    at_dep = get_or-set_other (set m e d) (176 + e) e a 0 (λ q. omega arith) ∙ get_or-set_same m e d 0 (omega (arith, r.size, r.leg.0))

    at_arr : get_or m₁ (176 + e) 0 ≡ a
    at_arr = get_or-set_same (set m e d) (176 + e) a 0 (omega (arith, r.size, r.leg.0, length-set m e d))

    cases : (x : ℕ) → ((x ≡ e) ⊎ (x ≡ 176 + e)) ⊎ (get_or m₁ x 0 ≡ get_or m x 0)
    cases x =
        ⊎_elim
        (λ p. ⊎_elim (λ q. inr (p ∙ q)) (λ q. inl (inl q.0)) (stored m e d x))
        (λ p. inl (inr p.0))
        (stored (set m e d) (176 + e) a x)

    size : length m₁ ≡ length m
    size = length-set (set m e d) (176 + e) a ∙ length-set m e d

    -- a fact of each entry, from those of the two and of the rest
    each : (P : ℕ → ℕ → Type 0) → P e d → P (176 + e) a → ((x : ℕ) → P x (get_or m x 0)) → (x : ℕ) → P x (get_or m₁ x 0)
    each P p q o x =
        ⊎_elim
        (λ z. ⊎_elim
        (λ h. subst⁻¹ (λ (i : ℕ). P i (get_or m₁ i 0)) h (subst⁻¹ (λ (k : ℕ). P e k) at_dep p))
        (λ h. subst⁻¹ (λ (i : ℕ). P i (get_or m₁ i 0)) h (subst⁻¹ (λ (k : ℕ). P (176 + e) k) at_arr q))
        z)
        (λ z. subst⁻¹ (λ (k : ℕ). P x k) z (o x))
        (cases x)

    up : m ⊑ m₁
    up = each (λ x k. get_or m x 0 ≤ k) dep.old arr.old (λ x. omega arith)

    -- ---- a solution has the leg as late

    module _ (y : List ℕ) (s : Solves G src m y) (h : Asks src e v w m y) where
      run_y : get_or y (176 + e) 0 ≡ get_or y e 0 + run_in t e
      unfolding KeepsAll
      run_y = omega (arith, s.keeps (runs e) r.leg, s.keeps (slow e) r.leg)

      reach_dep : (d ≡ get_or m e 0) ⊎ Reach src m y e d
      reach_dep =
          ⊎_elim
          (λ o. inl o)
          (λ o. ⊎_elim
          (λ o. ⊎_elim (λ z. inl (omega (arith, dep.old))) (λ z. inr (omega arith)) h.0)
          (λ o. ⊎_elim (λ z. inl (omega (arith, dep.old, one_leg.1))) (λ z. inr (omega (arith, run_y))) h.1)
          o)
          dep.one

      reach_arr : (a ≡ get_or m (176 + e) 0) ⊎ Reach src m y (176 + e) a
      reach_arr =
          ⊎_elim
          (λ o. inl o)
          (λ o. ⊎_elim
          (λ o. ⊎_elim (λ z. inl (omega (arith, arr.old))) (λ z. inr (omega arith)) h.1)
          (λ o. ⊎_elim (λ z. inl (omega (arith, arr.old, one_leg.0))) (λ z. inr (omega (arith, run_y))) reach_dep)
          o)
          arr.one

      store_first : AllReached src m m₁ y
      unfolding AllReached
      store_first = each (λ x k. (k ≡ get_or m x 0) ⊎ Reach src m y x k) reach_dep reach_arr (λ x. inl refl)

    -- ---- no way: past the limit, back at the source, past the cut

    -- nothing is stored then: the minutes are those that every solution is at or above
    no_way : ((y : List ℕ) → Solves G src m y → Asks src e v w m y → WithinDays y → InLimits t ds y → cost_in t y ≤ cut → ⊥) →
        LegRaised marks t ds src cut e v w m m None
    unfolding NoneFor
    no_way h = record { stepped = λ q. absurd (q refl); none = λ _ y s k. (s.above, h y s k) }

    pub store_late : (limit : ℕ) → limit ≡ limit_in t e → limit < a → LegRaised marks t ds src cut e v w m m None
    store_late limit q l =
        no_way
        (λ y s h within limits cheap. ⊎_elim
        (λ z. omega (arith, r.limits e r.leg))
        (λ z. omega (arith, s.above src, limits e r.leg))
        (reach_arr y s h))

    pub store_back : (b : Bool) → SourceRises src e (get_or m e 0) d (get_or m (176 + e) 0) a b → b ≡ true →
        LegRaised marks t ds src cut e v w m m None
    store_back b k q =
        no_way
        (λ y s h within limits cheap. ⊎_elim
        (λ o. ⊎_elim (λ z. omega arith) (λ z. omega (arith, ap (λ (i : ℕ). get_or y i 0) o.0, ap (λ (i : ℕ). get_or m i 0) o.0)) (reach_dep y s h))
        (λ o. ⊎_elim (λ z. omega arith) (λ z. omega (arith, ap (λ (i : ℕ). get_or y i 0) o.0, ap (λ (i : ℕ). get_or m i 0) o.0)) (reach_arr y s h))
        (k.yes q))

    store_cost : cost_in t m₁ ≡ cost + more_cost t e (get_or m (176 + e) 0) a
    store_cost = cost_one t m m₁ e _ a r.leg.0 refl at_arr arr.old other ∙ ap (λ (c : ℕ). c + more_cost t e (get_or m (176 + e) 0) a) (sym r.cost_is)
      where
        other : (i : ℕ) → (i ≡ 176 + e → ⊥) → 176 ≤ i → get_or m₁ i 0 ≡ get_or m i 0
        other i n l = ⊎_elim (λ z. ⊎_elim (λ q. absurd (omega (arith, r.leg.0))) (λ q. absurd (n q)) z) (λ z. z) (cases i)

    module _ (c more : ℕ) (more_is : more ≡ more_cost t e (get_or m (176 + e) 0) a) (c-is : c ≡ cost + more) where
      cost_here : c ≡ cost_in t m₁
      cost_here = omega (arith, store_cost)

      pub store_dear : cut < c → LegRaised marks t ds src cut e v w m m None
      store_dear l =
          no_way
          (λ y s h within limits cheap. omega (arith, cost_here, cost_grows t m₁ y (first_below G src m m₁ y s (store_first y s h))))

      -- ---- the store

      module _ (limit : ℕ) (limit_is : limit ≡ limit_in t e) (in_time_lem : a ≤ limit) (b : Bool)
          (back : SourceRises src e (get_or m e 0) d (get_or m (176 + e) 0) a b) (stays : b ≡ false) (cheap : c ≤ cut) where
        within : WithinDays m₁
        within =
            each (λ x k. k ≤ 2879) (omega (arith, arr.ran, r.shaped.limit_most e r.leg.0)) (omega (arith, r.shaped.limit_most e r.leg.0))
            r.within

        exact : (get_or m₁ e 0 + run_in t e ≤ get_or m₁ (176 + e) 0) × (get_or m₁ (176 + e) 0 ≤ get_or m₁ e 0 + run_in t e)
        exact = (
          omega (arith, at_dep, at_arr, arr.ran),
          ⊎_elim
              (λ o. omega (arith, at_dep, at_arr, one_leg.1, dep.old))
              (λ o. ⊎_elim (λ o. omega (arith, at_dep, at_arr, dep.near)) (λ o. omega (arith, at_dep, at_arr)) o)
              arr.one,
        )

        -- whether event x, a departure or an arrival, is the one that was stored
        departure : {A B : Type 0} (x : ℕ) → x < 176 → (x ≡ e → B) → (get_or m₁ x 0 ≡ get_or m x 0) ⊎ (A ⊎ B)
        departure x l f = ⊎_elim (λ z. ⊎_elim (λ q. inr (inr (f q))) (λ q. absurd (omega arith)) z) (λ z. inl z) (cases x)

        arrival : {A B : Type 0} (x : ℕ) → (x ≡ e → B) → (get_or m₁ (176 + x) 0 ≡ get_or m (176 + x) 0) ⊎ (A ⊎ B)
        arrival x f = ⊎_elim (λ z. ⊎_elim (λ q. absurd (omega (arith, r.leg.0))) (λ q. inr (inr (f (omega arith)))) z) (λ z. inl z) (cases (176 + x))

        -- an arc whose source stands on the leg is kept, or is one of those that leave it
        out : (a : LegArc) → UsedArc marks t ds a → (get_or m₁ (G.from a) 0 ≡ get_or m (G.from a) 0) ⊎ (Kept G m₁ a ⊎ Outward e a)
        out (runs x) u = ⊎_elim (λ z. ⊎_elim (λ q. inr (inl (go q))) (λ q. absurd (omega (arith, u.0))) z) (λ z. inl z) (cases x)
          where
            go : x ≡ e → get_or m₁ x 0 + run_in t x ≤ get_or m₁ (176 + x) 0 + 0
            go q = subst⁻¹ (λ (i : ℕ). get_or m₁ i 0 + run_in t i ≤ get_or m₁ (176 + i) 0 + 0) q (omega (arith, exact.0))
        out (slow x) u = ⊎_elim (λ z. ⊎_elim (λ q. absurd (omega (arith, r.leg.0))) (λ q. inr (inl (go (omega arith)))) z) (λ z. inl z) (cases (176 + x))
          where
            go : x ≡ e → get_or m₁ (176 + x) 0 + 0 ≤ get_or m₁ x 0 + run_in t x
            go q = subst⁻¹ (λ (i : ℕ). get_or m₁ (176 + i) 0 + 0 ≤ get_or m₁ i 0 + run_in t i) q (omega (arith, exact.1))
        out (next x) u = arrival x (λ q. inl q)
        out (depart x j) u = departure x u.0.0 (λ q. inr (inl q))
        out (arrive x j) u = arrival x (λ q. inr (inl q))
        out (after x j) u = arrival x (λ q. inr (inl q))
        out (gone x j) u = departure x u.0.0 (λ q. inr (inr q))

        never : ⊥ ⊎ (⊥ ⊎ ⊥) → ⊥
        never z = ⊎_elim (λ q. q) (λ q. ⊎_elim (λ q. q) (λ q. q) q) z

        legs : LegsKept marks t ds m₁
        unfolding LegsKept
        legs x u = (
          ⊎_elim
              (λ z. omega (arith, (r.legs x u).0, up (176 + x)))
              (λ z. ⊎_elim (λ k. omega arith) (λ k. absurd (never k)) z)
              (out (runs x) u),
          ⊎_elim
              (λ z. omega (arith, (r.legs x u).1, up x))
              (λ z. ⊎_elim (λ k. omega arith) (λ k. absurd (never k)) z)
              (out (slow x) u),
        )

        limits : InLimits t ds m₁
        limits x u =
            ⊎_elim
            (λ z. ⊎_elim
            (λ q. absurd (omega (arith, r.leg.0)))
            (λ q. subst⁻¹ (λ (i : ℕ). get_or m₁ (176 + i) 0 ≤ limit_in t i) (let p : x ≡ e = omega arith in p) (omega (arith, at_arr)))
            z)
            (λ z. omega (arith, r.limits x u))
            (cases (176 + x))

        source : get_or m₁ src 0 ≡ get_or m src 0
        source =
            ⊎_elim
            (λ z. ⊎_elim
            (λ h. omega (arith, (back.no stays).0 h, dep.old, at_dep, ap (λ (i : ℕ). get_or m₁ i 0) h, ap (λ (i : ℕ). get_or m i 0) h))
            (λ h. omega (arith, (back.no stays).1 h, arr.old, at_arr, ap (λ (i : ℕ). get_or m₁ i 0) h, ap (λ (i : ℕ). get_or m i 0) h))
            z)
            (λ z. z)
            (cases src)

        -- where the leg departs at the source, it is its arrival that rose
        rose_clear : (get_or m e 0 < v) ⊎ (get_or m (176 + e) 0 < w) → (y : List ℕ) → Solves G src m y → Asks src e v w m y → src ≡ e →
            Reach src m₁ y (176 + e) (get_or m₁ (176 + e) 0)
        rose_clear rise y s h q =
            ⊎_elim
            (λ z. absurd (⊎_elim (λ k. omega (arith, dep.asked, (back.no stays).0 q)) (λ k. omega (arith, arr.asked)) rise))
            (λ z. omega (arith, at_arr, source))
            (reach_arr y s h)

        clear : (get_or m e 0 < v) ⊎ (get_or m (176 + e) 0 < w) → (y : List ℕ) → Solves G src m y → Asks src e v w m y → Clear G src (Outward e) m₁ y
        clear rise y s h (runs x) u d l = absurd l
        clear rise y s h (slow x) u d l = absurd l
        clear rise y s h (next x) u d l = absurd l
        clear rise y s h (depart x j) u d l = absurd l
        clear rise y s h (arrive x j) u d l =
            let q : x ≡ e = ⊎_elim (λ o. absurd o) (λ o. ⊎_elim (λ o. o) (λ o. absurd o) o) d in
            subst⁻¹ (λ (i : ℕ). Reach src m₁ y (176 + i) (get_or m₁ (176 + i) 0)) q (rose_clear rise y s h (sym l ∙ q))
        clear rise y s h (after x j) u d l = absurd l
        clear rise y s h (gone x j) u d l = absurd l

        stepped : (get_or m e 0 < v) ⊎ (get_or m (176 + e) 0 < w) → Stepped marks t ds (Outward e) src cut e v w m m₁ c
        stepped rise =
            record {
              going = record {
                raised = record {
                  grown = record {
                    size = size;
                    up = up;
                    within = within;
                    due = λ a u d. absurd d;
                    stays = λ a u h. ⊎_elim (λ z. inl (omega (arith, up (G.to a)))) (λ z. z) (out a u);
                    rose = λ a u h. ⊎_elim (λ z. absurd (omega arith)) (λ z. z) (out a u);
                  };
                  source = source;
                  first = store_first;
                };
                settled = record { cost_is = cost_here; cost_in_lem = cheap; limits = limits };
                legs = legs;
              };
              dep = omega (arith, at_dep, dep.asked);
              arr = omega (arith, at_arr, arr.asked);
              clear = clear rise;
              less = ⊎_elim
                  (λ q. slack_less m m₁ e size up within (omega (arith, at_dep, dep.asked)))
                  (λ q. slack_less m m₁ (176 + e) size up within (omega (arith, at_arr, arr.asked)))
                  rise;
            }

        pub store : (get_or m e 0 < v) ⊎ (get_or m (176 + e) 0 < w) → LegRaised marks t ds src cut e v w m m₁ (Some c)
        store rise = record { stepped = λ _. stepped rise; none = λ q. absurd (cc) }
