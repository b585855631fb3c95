-- The laws of departures and rule 13 as minutes rise, and what it is to be better in the words of document 01.
use Rattle.std.specs.Prelude.{ℕ, zero, suc, ◌+◌, ◌*◌, ◌-◌, ◌/◌, ◌%◌, ◌≤◌, ◌<◌, ◌≡◌, Bool, List, get_or}
use Rattle.std.proofs.Math.Path.{refl}
use Rattle.std.proofs.Common.{sym, ◌∙◌, ap, inl, inr, ⊎_elim}
use Rattle.std.proofs.Math.Bool.{true, false, cond}
use Rattle.std.proofs.Math.Decide.{dec_lt}
use native.Mathlib.Omega.{arith}
use Rattle.finite.specs.Decide.{Decides}
use Rattle.finite.specs.DecideLaws.{is_true, decides_and, decides_lt}
use Rattle.finite.specs.LoopLaws.{decides_all}
use Rattle.finite.specs.BelowLaws.{table_at, table_past, table_grows}
use Rattle.line.specs.declared.Line.{Line}
use Rattle.line.specs.Within.{Within, Arrays}
use Rattle.line.specs.RunnableLaws.{within_runnable}
use Rattle.rules.specs.Statement.Paths.{train, legs, EachTrain}
use Rattle.rules.specs.Statement.Minutes.{departure}
use Rattle.rules.specs.Statement.Rules.{NotLate}
use Rattle.rules.specs.Statement.Delay.{Same, compared, Earlier, Preferred}
use Rattle.rules.specs.StatementLaws.PathsLaws.{legs_few, routed}
use Rattle.rules.specs.Check.RulesLaws.{decides_13}
use Rattle.orders.specs.LeastMinutes.NoLater.{◌⊑◌}
use Rattle.orders.specs.LeastMinutes.PlanArcs.{departs_at, arrives_at}
use Rattle.plans.specs.Theory.Ranking.{Ahead}
use Rattle.plans.specs.Theory.Problem.{Better}
use Rattle.plans.specs.Theory.Search.{ToldApart}
use Rattle.plans.specs.Instance.Planning.{is_leg, departures, in_time, planning}

-- ---- as minutes rise

module _ (l : Line) where
  entry_up : (b : Bool) (x y : ℕ) → x ≤ y → cond b x 0 ≤ cond b y 0
  entry_up true x y h = h
  entry_up false x y h = omega arith

  pub departures_up : (m m' : List ℕ) → m ⊑ m' → departures l m ⊑ departures l m'
  unfolding departures
  departures_up m m' h e' = table_grows _ _ 132 e' (λ e _. entry_up (is_leg l (e / 11) (e % 11)) _ _ (h (departs_at l (e / 11) (e % 11))))

  pub decides_in_time : (m : List ℕ) → Decides (EachTrain l (NotLate l m)) (in_time l m)
  unfolding in_time
  decides_in_time m = decides_all (NotLate l m) _ l.traffic.train_count (λ i _. decides_13 l m i)

  pub in_time_down : (m m' : List ℕ) → m ⊑ m' → in_time l m' ≡ true → in_time l m ≡ true
  in_time_down m m' h t =
      is_true (decides_in_time m) (λ i k. omega (arith, (decides_in_time m').yea t i k, h (arrives_at l i (legs l i - 1))))

-- ---- the departures, by train and leg

module _ (l : Line) where
  pub decides_leg : (i k : ℕ) → Decides ((i < l.traffic.train_count) × (k < legs l i)) (is_leg l i k)
  unfolding is_leg
  decides_leg i k = decides_and (decides_lt _ _) (decides_lt _ _)

  abbrev entry : List ℕ → ℕ → ℕ
  entry m e = cond (is_leg l (e / 11) (e % 11)) (compared l m (e / 11) (e % 11)) 0

  -- an entry that is not 0 is a leg's
  departures_real : (m : List ℕ) (e : ℕ) → 0 < get_or (departures l m) e 0 → (e / 11 < l.traffic.train_count) × (e % 11 < legs l (e / 11))
  unfolding departures
  departures_real m e h = elim (dec_lt e 132) [
    | yes n ↦ go (is_leg l (e / 11) (e % 11)) refl (rw (table_at (entry m) 132 e n) at h)
    | no n ↦ absurd (omega (arith, table_past (entry m) 132 e (omega arith)))
  ]
    where
      go : (b : Bool) → is_leg l (e / 11) (e % 11) ≡ b → 0 < cond b (departure l m (e / 11) (e % 11)) 0 →
          (e / 11 < l.traffic.train_count) × (e % 11 < legs l (e / 11))
      go true t k = (decides_leg (e / 11) (e % 11)).yea t
      go false t k = absurd (omega arith)

module _ (l : Line) (w : Within l) (a : Arrays l) where
  eleven : (i : ℕ) → i < l.traffic.train_count → legs l i ≤ 11
  eleven i n = (legs_few (train l i) (routed l i (within_runnable l w) a.trains n)).1

  -- an entry that is a leg's
  departures_at : (m : List ℕ) (i k : ℕ) → i < l.traffic.train_count → k < legs l i → get_or (departures l m) (i * 11 + k) 0 ≡ departure l m i k
  unfolding departures
  departures_at m i k n h =
      let few = eleven i n in
      let q : (i * 11 + k) / 11 ≡ i = omega arith in
      let r : (i * 11 + k) % 11 ≡ k = omega arith in
      table_at (entry l m) 132 (i * 11 + k) (omega (arith, w.trains.1)) ∙ rw (q, r, is_true (decides_leg l i k) (n, h))

  -- timetables with the same departures are the same, by rule 11
  pub told_apart : ToldApart (planning l) (Same l)
  told_apart m m' x y c h i n k r =
      let d : departure l m i k ≡ departure l m' i k = sym (departures_at m i k n r) ∙ h (i * 11 + k) ∙ departures_at m' i k n r in
      (d, omega (arith, (x.1.trains i n).rule11 k r, (y.1.trains i n).rule11 k r))

  -- the first departure that differs
  earlier : (m m' : List ℕ) → Ahead (departures l m) (departures l m') → Earlier l m m'
  earlier m m' b =
      let e = b.place in
      let real = departures_real l m' e (omega arith) in
      let at : e / 11 * 11 + e % 11 ≡ e = omega arith in
      let d = ap (λ x. get_or (departures l m) x 0) (sym at) ∙ departures_at m (e / 11) (e % 11) real.0 real.1 in
      let d' = ap (λ x. get_or (departures l m') x 0) (sym at) ∙ departures_at m' (e / 11) (e % 11) real.0 real.1 in
      record {
        who = e / 11;
        place = e % 11;
        real = real;
        alike = λ i n k r o.
            let few = eleven i n in
            sym (departures_at m i k n r) ∙ b.alike (i * 11 + k) (⊎_elim (λ h. omega arith) (λ h. omega arith) o) ∙ departures_at m' i k n r;
        less = omega arith;
      }

  -- to be better is to be preferred
  pub better_preferred : (m m' : List ℕ) → Better (planning l) m m' → Preferred l m m'
  better_preferred m m' b = go b.place refl
    where
      go : (e : ℕ) → b.place ≡ e → Preferred l m m'
      go zero q = inl (rw q at b.less)
      go (suc e) q =
          inr (
            b.alike 0 (omega arith),
            earlier m m' record {
              place = e;
              alike = λ j n. b.alike (suc j) (omega arith);
              less = rw q at b.less;
            },
          )
