-- What minutes cost by the tables of a line is its weighted delay: of all legs, only each train's last has a weight.
use Rattle.std.specs.Prelude.{ℕ, ◌+◌, ◌*◌, ◌-◌, ◌<◌, ◌≡◌, refl, List, get_or}
use Rattle.std.proofs.Common.{sym, ◌∙◌, zero-mul, arith}
use Rattle.std.proofs.Math.Path.{ap}
use Rattle.finite.specs.Below.{sum}
use Rattle.finite.specs.BelowLaws.{sum_same}
use Rattle.finite.specs.SumsLaws.{sum_none, sum_only, sum-parts, sum_columns}
use Rattle.line.specs.declared.Line.{Line}
use Rattle.line.specs.Within.{Arrays}
use Rattle.line.specs.Runnable.{Runnable}
use Rattle.rules.specs.Statement.Paths.{train, legs, segment_of}
use Rattle.rules.specs.Statement.Minutes.{departs}
use Rattle.rules.specs.Statement.Delay.{delay, weighted_delay}
use Rattle.rules.specs.Check.RulesLaws.{cost, cost-sum}
use Rattle.rules.specs.StatementLaws.PathsLaws.{routed, legs_few, segment_below}
use Rattle.orders.specs.LineTables.Tables.{weight_in, due_in, cost_in, tables_of}
use Rattle.orders.specs.LineTables.TableLegsLaws.{weight_last, due_last, weight_else}

module _ (l : Line) (w : Runnable l) (r : Arrays l) (m : List ℕ) where
  -- the cost of leg e
  abbrev leg_cost : ℕ → ℕ
  leg_cost e = weight_in (tables_of l) e * (get_or m (176 + e) 0 - due_in (tables_of l) e)

  -- that of train i, over its 11 possible legs
  abbrev train_cost : ℕ → ℕ
  train_cost i = sum (λ p. leg_cost (departs p i)) 11

  no_cost : (e : ℕ) → weight_in (tables_of l) e ≡ 0 → leg_cost e ≡ 0
  no_cost e h = rw h (zero-mul _)

  cost_past : (i : ℕ) → l.traffic.train_count + i < 16 → train_cost (l.traffic.train_count + i) ≡ 0
  cost_past i b =
      sum_none (λ p. leg_cost (departs p (l.traffic.train_count + i))) 11
      (λ p low. no_cost _ (weight_else l w r _ (omega arith) (λ j k n last q. omega (arith, w.trains.1))))

  cost_of : (i : ℕ) → i < l.traffic.train_count → train_cost i ≡ (train l i).weight * delay l m i
  cost_of i n =
      let path = routed l i w r.trains n in
      let some = (legs_few (train l i) path).0 in
      let k = legs l i - 1 in
      let last : k + 1 ≡ legs l i = omega arith in
      let inside : k < legs l i = omega arith in
      sum_only (λ p. leg_cost (departs p i)) 11 (segment_of (train l i) k) (segment_below (train l i) path k inside)
      (λ p low other. no_cost _ (weight_else l w r _ (omega (arith, w.trains.1)) (λ j x b end q. other (same_end j x b end p q)))) ∙
      rw (weight_last l w r i k n inside last, due_last l w r i k n inside last) refl
    where
      -- train i has one last leg
      same_end : (j x : ℕ) → j < l.traffic.train_count → x + 1 ≡ legs l j → (p : ℕ) → departs p i ≡ departs (segment_of (train l j) x) j →
          p ≡ segment_of (train l i) (legs l i - 1)
      same_end j x b end p q =
          let same : j ≡ i = omega (arith, w.trains.1) in
          let there : p ≡ segment_of (train l j) x = omega (arith, w.trains.1) in
          let leg : x ≡ legs l j - 1 = omega arith in
          there ∙ ap (segment_of (train l j)) leg ∙ ap (λ (y : ℕ). segment_of (train l y) (legs l y - 1)) same

  pub cost_is : cost_in (tables_of l) m ≡ weighted_delay l m
  unfolding cost_in
  cost_is =
      let n = l.traffic.train_count in
      let all : n + (16 - n) ≡ 16 = omega (arith, w.trains.1) in
      sum_columns leg_cost 16 11 ∙ ap (sum train_cost) (sym all) ∙ sum-parts train_cost n (16 - n) ∙
      rw (sum_none (λ i. train_cost (n + i)) (16 - n) (λ i b. cost_past i (omega arith)), sum_same train_cost (cost l m) n cost_of)
      (omega (arith, cost-sum l m))
