-- The legs of the graph are those of the line's trains: train i has leg 16 p + i where it goes over segment p.
use Rattle.std.specs.Prelude.{ℕ, ◌+◌, ◌*◌, ◌/◌, ◌%◌, ◌≤◌, ◌<◌, ◌≡◌, refl, ◌&&◌, List, ltb, eqb}
use Rattle.std.proofs.Common.{sym, ◌∙◌, subst, arith}
use Rattle.std.proofs.Math.Decide.{dec_lt}
use Rattle.finite.specs.Decide.{Decides}
use Rattle.finite.specs.DecideLaws.{is_true, is_false, decides_and, decides_not, decides_lt, decides_eq}
use Rattle.line.specs.declared.Line.{Line}
use Rattle.line.specs.Within.{Arrays}
use Rattle.line.specs.Runnable.{Runnable}
use Rattle.rules.specs.Statement.Paths.{train, legs, segment_of, outbound, Uses, Middle, into, out_of, Routed}
use Rattle.rules.specs.Statement.Minutes.{departs}
use Rattle.rules.specs.StatementLaws.PathsLaws.{routed, routed_leg, uses_few, leg-uses, uses-leg, middle-legs}
use Rattle.rules.specs.Conflict.Directions.{uses_between, directions_of}
use Rattle.rules.specs.Conflict.DirectionsLaws.{way_past, decides_between, decides_on, outbound-way}
use Rattle.orders.specs.Graph.LegGraph.{way_in}

-- entry e is a leg of train e % 16
abbrev pub Leg : Line → ℕ → Type 0
Leg l e = (e % 16 < l.traffic.train_count) × Uses (train l (e % 16)) (e / 16)

module _ (l : Line) (e : ℕ) where
  pub leg_test : Decides (Leg l e) (ltb (e % 16) l.traffic.train_count && uses_between (train l (e % 16)).origin (train l (e % 16)).destination (e / 16))
  leg_test = decides_and (decides_lt _ _) (decides_between _ _ _)

  pub leg_path : Runnable l → Leg l e → Routed (train l (e % 16))
  leg_path w g = routed_leg l (e % 16) w g.0 (omega (arith, (uses-leg (train l (e % 16)) (e / 16) g.1).1))

  -- the table of directions tells whether it is one
  module _ (ds : List ℕ) (few : l.traffic.train_count ≤ 12) (b : e < 176) (made : ds ≡ directions_of l) where
    same : way_in ds e ≡ way_in (directions_of l) (16 * (e / 16) + e % 16)
    same =
        let place : 16 * (e / 16) + e % 16 ≡ e = omega arith in
        rw (made, place) refl

    pub leg_is : (way_in ds e ≡ 0 → ⊥) → Leg l e
    leg_is h =
        let known : e % 16 < l.traffic.train_count = elim (dec_lt (e % 16) l.traffic.train_count) [
          | yes k ↦ k
          | no k ↦ absurd (h (same ∙ way_past l (16 * (e / 16) + e % 16) (omega arith) (omega arith)))
        ] in
        (known, (decides_on l few (e / 16) (omega arith) (e % 16) known).yea (is_true (decides_not (decides_eq _ _)) (λ z. h (same ∙ z))))

    pub leg-not : way_in ds e ≡ 0 → Leg l e → ⊥
    leg-not z g = (decides_on l few (e / 16) (omega arith) (e % 16) g.0).nay (is_false (decides_not (decides_eq _ _)) (λ h. h (sym same ∙ z))) g.1

-- leg e is one of a train, by the table of directions
abbrev pub LegOf : Line → ℕ → Type 0
LegOf l e = (e < 176) × (way_in (directions_of l) e ≡ 0 → ⊥)

module _ (l : Line) (w : Runnable l) (r : Arrays l) where
  -- ---- from the train to the leg

  module _ (i : ℕ) (n : i < l.traffic.train_count) where
    pub over_few : (p : ℕ) → Uses (train l i) p → p < 11
    over_few p u = uses_few (train l i) (routed l i w r.trains n) p u

    pub over_leg : (p : ℕ) → Uses (train l i) p → LegOf l (departs p i)
    over_leg p u =
        let few = over_few p u in
        (omega (arith, w.trains.1), (decides_not (decides_eq _ _)).yea (is_true (decides_on l w.trains.1 p few i n) u))

    pub leg_over : (k : ℕ) → k < legs l i → Uses (train l i) (segment_of (train l i) k)
    leg_over k h = leg-uses (train l i) (routed l i w r.trains n) k h

    pub train-leg : (k : ℕ) → k < legs l i → LegOf l (departs (segment_of (train l i) k) i)
    train-leg k h = over_leg (segment_of (train l i) k) (leg_over k h)

    -- it comes to a middle station and leaves it on legs
    pub middle_over : (s : ℕ) → Middle (train l i) s → Uses (train l i) (into (train l i) s) × Uses (train l i) (out_of (train l i) s)
    middle_over s h =
        let k = middle-legs (train l i) s h in
        (subst (Uses (train l i)) k.2 (leg_over k.0 (omega (arith, k.1))), subst (Uses (train l i)) k.3 (leg_over (k.0 + 1) k.1))

    pub out_over : (p : ℕ) → Uses (train l i) p → eqb (way_in (directions_of l) (departs p i)) 1 ≡ outbound (train l i)
    out_over p u = outbound-way l w.trains.1 p (over_few p u) i n u

  -- ---- from the leg to the train

  pub leg-train : (e : ℕ) → LegOf l e → Leg l e
  leg-train e u = leg_is l e (directions_of l) w.trains.1 u.0 refl u.1

  -- what holds of every train's legs holds of every leg
  pub by_leg : (P : ℕ → Type 0) → ((i k : ℕ) → i < l.traffic.train_count → k < legs l i → P (departs (segment_of (train l i) k) i)) → (e : ℕ) → LegOf l e → P e
  by_leg P h e u =
      let t = leg-train e u in
      let k = uses-leg (train l (e % 16)) (e / 16) t.1 in
      let at : 16 * segment_of (train l (e % 16)) k.0 + e % 16 ≡ e = omega (arith, k.2) in
      subst P at (h (e % 16) k.0 t.0 k.1)
