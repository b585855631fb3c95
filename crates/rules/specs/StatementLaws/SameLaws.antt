-- Only the minutes of legs matter: two timetables that are the same have the same weighted delay and the same order lists, and one keeps the rules where
-- the other does.
use Rattle.std.specs.Prelude.{◌≡◌, ℕ, ◌+◌, ◌-◌, ◌*◌, ◌<◌, ◌≤◌, List, [], ◌∷◌}
use Rattle.std.proofs.Math.Path.{refl, ap}
use Rattle.std.proofs.Common.{sym, ◌∙◌, inl, inr, ⊎_elim, arith}
use Rattle.finite.specs.DecideLaws.{by_test, is_false}
use Rattle.finite.specs.BelowLaws.{count_same, sum_same, gather-same}
use Rattle.line.specs.declared.Line.{Line}
use Rattle.line.specs.Within.{Within, Arrays}
use Rattle.line.specs.RunnableLaws.{within_runnable}
use Rattle.rules.specs.declared.orders.Lane.{Lane}
use Rattle.rules.specs.Statement.Paths.{train, segment_count, segment, legs, Uses}
use Rattle.rules.specs.Statement.Minutes.{departs_on, arrives_on, last_arrival}
use Rattle.rules.specs.Statement.Rules.{Before, stands, standing, Lawful}
use Rattle.rules.specs.Statement.Delay.{due, weighted_delay, Same}
use Rattle.rules.specs.Statement.OrderLists.{lanes_of}
use Rattle.rules.specs.Lists.Orders.{lists_on, order_list, order_lists}
use Rattle.rules.specs.Lists.LanesLaws.{test_lane}
use Rattle.rules.specs.Lists.OrdersLaws.{ordered_same}
use Rattle.rules.specs.StatementLaws.PathsLaws.{uses-leg, decides_middle, middle-legs, legs_few, routed}
use Rattle.rules.specs.StatementLaws.BookingsLaws.{booked_leg}

pub same_sym : (l : Line) (m m' : List ℕ) → Same l m m' → Same l m' m
same_sym l m m' s i n k r = (sym (s i n k r).0, sym (s i n k r).1)

pub same_trans : (l : Line) (a b c : List ℕ) → Same l a b → Same l b c → Same l a c
same_trans l a b c s t i n k r = ((s i n k r).0 ∙ (t i n k r).0, (s i n k r).1 ∙ (t i n k r).1)

-- ---- what the same minutes have in common

module _ (l : Line) (m m' : List ℕ) (s : Same l m m') where
  pub same-on : (p i : ℕ) → i < l.traffic.train_count → Uses (train l i) p → (departs_on m p i ≡ departs_on m' p i) × (arrives_on m p i ≡ arrives_on m' p i)
  same-on p i n u = let k = uses-leg (train l i) p u in rw k.2 at (s i n k.0 k.1)

  before_same : (p i j : ℕ) → i < l.traffic.train_count → j < l.traffic.train_count → Uses (train l i) p → Uses (train l j) p → Before l m p i j → Before l m' p i j
  before_same p i j a b u v h = let x = same-on p i a u in let y = same-on p j b v in rw (← x.0, ← x.1, ← y.0, ← y.1) h

  stands_same : (q t i : ℕ) → i < l.traffic.train_count → stands l m q t i ≡ stands l m' q t i
  unfolding stands
  stands_same q t i n =
      by_test (decides_middle (train l i) q)
      (λ h.
      let (k, r, e, f) = middle-legs (train l i) q h in
      let came_same = rw e at (s i n k (omega arith)).1 in
      let Goes-same = rw f at (s i n (k + 1) r).0 in
      rw (came_same, Goes-same) refl)
      (λ h. rw (is_false (decides_middle (train l i) q) h) refl)

  standing-same : (q t : ℕ) → standing l m q t ≡ standing l m' q t
  unfolding standing
  standing-same q t = count_same (stands l m q t) (stands l m' q t) l.traffic.train_count (λ i n. stands_same q t i n)

  module _ (w : Within l) (a : Arrays l) where
    has_legs : (i : ℕ) → i < l.traffic.train_count → 1 ≤ legs l i
    has_legs i n = (legs_few (train l i) (routed l i (within_runnable l w) a.trains n)).0

    last_same : (i : ℕ) → i < l.traffic.train_count → last_arrival l m i ≡ last_arrival l m' i
    last_same i n = (s i n (legs l i - 1) (omega (arith, has_legs i n))).1

    pub delay-same : weighted_delay l m ≡ weighted_delay l m'
    unfolding weighted_delay
    delay-same = sum_same _ _ l.traffic.train_count (λ i n. ap (λ (x : ℕ). (train l i).weight * (x - due l i)) (last_same i n))

    list_same : (p : ℕ) → p < 11 → (lane : Lane) → order_list l m p lane ≡ order_list l m' p lane
    unfolding order_list
    list_same p b lane =
        ordered_same (departs_on m p) (departs_on m' p) _ _ l.traffic.train_count
        (λ i n. (λ t. (same-on p i n (test_lane l w.trains.1 p b i n lane t).0).0, refl))

    pub lists_same : order_lists l m ≡ order_lists l m'
    unfolding order_lists
    lists_same = gather-same _ _ (segment_count l) (λ p b. lanes_same p (omega (arith, w.stations.1)) (lanes_of (segment l p).kind))
      where
        lanes_same : (p : ℕ) → p < 11 → (lanes : List Lane) → lists_on l m p lanes ≡ lists_on l m' p lanes
        lanes_same p b [] = refl
        lanes_same p b (lane ∷ lanes) = λ i. list_same p b lane i ∷ lanes_same p b lanes i

    pub lawful_same : Lawful l m → Lawful l m'
    lawful_same h = record {
      days = λ i n k r. (omega (arith, (h.days i n k r).0, (s i n k r).0), omega (arith, (h.days i n k r).1, (s i n k r).1));
      trains = λ i n. record {
        rule10 = omega (arith, (h.trains i n).rule10, (s i n 0 (has_legs i n)).0);
        rule11 = λ k r. omega (arith, (h.trains i n).rule11 k r, (s i n k r).0, (s i n k r).1);
        rule12 = λ k r. omega (arith, (h.trains i n).rule12 k r, (s i n k (omega arith)).1, (s i n (k + 1) (omega arith)).0);
        rule18 = λ j b e. omega (arith, (h.trains i n).rule18 j b e, (s i n _ (booked_leg l (within_runnable l w) i j b e)).0);
      };
      rule13 = λ i n. omega (arith, h.rule13 i n, last_same i n);
      rule14 = λ p b i n j o e u v. ⊎_elim (λ x. inl (before_same p i j n o u v x)) (λ x. inr (before_same p j i o n v u x)) (h.rule14 p b i n j o e u v);
      rule15 = λ q b t r. omega (arith, h.rule15 q b t r, standing-same q t);
    }
