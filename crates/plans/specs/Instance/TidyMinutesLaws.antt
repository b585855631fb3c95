-- Tidy minutes are the same timetable, and of a lawful one all of them lie within the two days.
use Rattle.std.specs.Prelude.{ℕ, ◌/◌, ◌%◌, ◌≤◌, ◌<◌, ◌≡◌, Bool, List}
use Rattle.std.proofs.Math.Path.{refl, ap}
use Rattle.std.proofs.Common.{◌∙◌}
use Rattle.std.proofs.Math.Bool.{true, false, cond}
use Rattle.std.proofs.Math.Decide.{dec_lt}
use native.Mathlib.Omega.{arith}
use Rattle.std.proofs.Math.ListN.{get_or}
use Rattle.finite.specs.Decide.{Decides}
use Rattle.finite.specs.DecideLaws.{is_true, decides_and, decides_lt}
use Rattle.finite.specs.BelowLaws.{table_at, table_past, table_size_lem}
use Rattle.line.specs.declared.Line.{Line}
use Rattle.line.specs.Within.{Within, Arrays}
use Rattle.line.specs.RunnableLaws.{within_runnable}
use Rattle.rules.specs.Statement.Paths.{train, segment_of, Uses, EachTrain}
use Rattle.rules.specs.Statement.Minutes.{departs, arrives, departs_on, arrives_on}
use Rattle.rules.specs.Statement.Rules.{InDays, Lawful}
use Rattle.rules.specs.StatementLaws.PathsLaws.{routed, uses-leg, leg-uses, segment_below}
use Rattle.rules.specs.Conflict.DirectionsLaws.{decides_between}
use Rattle.rules.specs.Statement.Delay.{Same}
use Rattle.orders.specs.LeastMinutes.Least.{Fit}
use Rattle.plans.specs.Instance.TidyMinutes.{is_used, tidy_entry, tidy_minutes}

module _ (l : Line) where
  decides_used : (p i : ℕ) → Decides ((i < l.traffic.train_count) × Uses (train l i) p) (is_used l p i)
  unfolding is_used
  decides_used p i = decides_and (decides_lt _ _) (decides_between _ _ p)

  -- the entry of a segment and a train that uses it
  tidy_at :
      (m : List ℕ) (e p i : ℕ) → e < 352 → e % 176 / 16 ≡ p → e % 16 ≡ i → i < l.traffic.train_count → Uses (train l i) p →
      get_or (tidy_minutes l m) e 0 ≡ get_or m e 0
  unfolding tidy_minutes tidy_entry
  tidy_at m e p i b q r n u = table_at (tidy_entry l m) 352 e b ∙ rw (q, r, is_true (decides_used p i) (n, u))

module _ (l : Line) (w : Within l) (a : Arrays l) (m : List ℕ) where
  pub tidy_same : Same l (tidy_minutes l m) m
  tidy_same i n k h =
      let t = routed l i (within_runnable l w) a.trains n in
      let u = leg-uses (train l i) t k h in
      let p = segment_of (train l i) k in
      let few : p < 11 = segment_below (train l i) t k h in
      let low : i < 12 = omega (arith, w.trains.1) in
      (at_departure p few low n u, at_arrival p few low n u)
    where
      at_departure : (p : ℕ) → p < 11 → i < 12 → i < l.traffic.train_count → Uses (train l i) p → departs_on (tidy_minutes l m) p i ≡ departs_on m p i
      at_departure p few low n u = tidy_at l m (departs p i) p i (omega arith) (omega arith) (omega arith) n u

      at_arrival : (p : ℕ) → p < 11 → i < 12 → i < l.traffic.train_count → Uses (train l i) p → arrives_on (tidy_minutes l m) p i ≡ arrives_on m p i
      at_arrival p few low n u = tidy_at l m (arrives p i) p i (omega arith) (omega arith) (omega arith) n u

  -- the minutes of a train on a segment that it uses lie within the two days
  used_low : EachTrain l (InDays l m) → (p i : ℕ) → i < l.traffic.train_count → Uses (train l i) p → (departs_on m p i ≤ 2879) × (arrives_on m p i ≤ 2879)
  used_low h p i n u =
      let (k, b, e) = uses-leg (train l i) p u in
      rw e at (h i n k b)

  tidy_low : EachTrain l (InDays l m) → (e : ℕ) → get_or (tidy_minutes l m) e 0 ≤ 2879
  unfolding tidy_minutes tidy_entry
  tidy_low h e = elim (dec_lt e 352) [
    | yes n ↦ rw (table_at (tidy_entry l m) 352 e n) (go (is_used l (e % 176 / 16) (e % 16)) refl n)
    | no n ↦ omega (arith, table_past (tidy_entry l m) 352 e (omega arith))
  ]
    where
      go : (b : Bool) → is_used l (e % 176 / 16) (e % 16) ≡ b → e < 352 → cond b (get_or m e 0) 0 ≤ 2879
      go true t n =
          let u = (decides_used l (e % 176 / 16) (e % 16)).yea t in
          let d = used_low h (e % 176 / 16) (e % 16) u.0 u.1 in
          elim (dec_lt e 176) [
            | yes q ↦ omega (arith, d.0, ap (λ x. get_or m x 0) (let f : e ≡ departs (e % 176 / 16) (e % 16) = omega arith in f))
            | no q ↦ omega (arith, d.1, ap (λ x. get_or m x 0) (let f : e ≡ arrives (e % 176 / 16) (e % 16) = omega arith in f))
          ]
      go false t n = omega arith

  pub tidy_fit : Lawful l m → Fit 352 (tidy_minutes l m)
  unfolding tidy_minutes
  tidy_fit h = record { size = table_size_lem (tidy_entry l m) 352; within = tidy_low h.days }
