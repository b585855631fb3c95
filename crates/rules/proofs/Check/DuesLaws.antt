-- What the code needs that looks trains up in the list of dues, and that sums up by due minutes in a list.
use Rattle.std.specs.Prelude.{◌≡◌, ℕ, zero, suc, [], ◌∷◌, ◌+◌, ◌-◌, ◌*◌, ◌<◌, ◌≤◌, List, length, get_or, take, drop, ◌≢◌, slice_index, slice_index_or}
use Rattle.std.specs.List.{AllWithin, HoldsAt}
use Rattle.std.proofs.Math.Path.{refl, ap}
use Rattle.std.proofs.Common.{sym, ◌∙◌, mul-zero, arith, length-take-le}
use Rattle.finite.specs.Below.{sum}
use Rattle.finite.specs.BelowLaws.{sum_same}
use Rattle.text.specs.Elements.LeftLaws.{left_cons, left_none}
use Rattle.line.specs.declared.Train.{Train}
use Rattle.line.specs.declared.Line.{Line}
use Rattle.line.specs.declared.Listed.{Listed}
use Rattle.line.specs.Record.{legs_of, no_listed, dues_of}
use Rattle.line.specs.Runnable.{Runnable}
use Rattle.rules.specs.Statement.Paths.{past_train, train, legs}
use Rattle.rules.specs.Statement.Minutes.{last_arrival}
use Rattle.rules.specs.Statement.Delay.{listed_for, due, weighted_delay}
use Rattle.rules.proofs.StatementLaws.DueLaws.{listed_here, listed-later}
use Rattle.rules.specs.StatementLaws.PathsLaws.{routed, legs_few}
use Rattle.rules.specs.Check.Floors.{Floors}
use Rattle.rules.specs.Check.FloorsLaws.{arrived_line}
use Rattle.rules.specs.Check.Dues.{Dues, due_from, cost_by}
use Rattle.rules.specs.Check.Tests.{arrival_of}
use Rattle.rules.specs.Check.RulesLaws.{cost}

-- the entries from j on, where those before are of other trains
module _ (xs : List Listed) (count i given j : ℕ) (room : count ≤ length xs) where
  abbrev x : Listed
  x = slice_index_or xs j no_listed

  pub found_here : j < count → x.train ≡ i + 1 → x.minutes ≡ listed_for (drop j (take count xs)) i given
  found_here h e = rw (left_cons count xs j (length-take-le count xs room) no_listed h) (sym (listed_here x _ i given e))

  pub found_later : j < count → (x.train ≢ i + 1) → listed_for (drop (j + 1) (take count xs)) i given ≡ listed_for (drop j (take count xs)) i given
  found_later h e = rw (left_cons count xs j (length-take-le count xs room) no_listed h) (sym (listed-later x _ i given e))

  pub found_nowhere : j ≡ count → given ≡ listed_for (drop j (take count xs)) i given
  unfolding listed_for
  found_nowhere e = rw (left_none count xs j (length-take-le count xs room) e) refl

-- the first entry of train i in a list, and where it has none
module _ (i given : ℕ) where
  pub listed_first : (xs : List Listed) (k : ℕ) (x : Listed) → AllWithin (λ y. y.train ≢ i + 1) xs 0 k → k < length xs → HoldsAt (λ y. y ≡ x) xs k →
      x.train ≡ i + 1 → x.minutes ≡ listed_for xs i given
  listed_first [] k x before b at e = absurd (omega arith)
  listed_first (y ∷ xs) zero x before b at e =
      let same : y ≡ x = at x in
      sym (ap (λ (z : Listed). z.minutes) same) ∙ sym (listed_here y xs i given (ap (λ (z : Listed). z.train) same ∙ e))
  listed_first (y ∷ xs) (suc k) x before b at e =
      listed_first xs k x (λ j d l h. before (suc j) d (omega arith) (omega arith)) (omega arith) at e
      ∙ sym (listed-later y xs i given (before 0 x (omega arith) (omega arith)))

  pub listed_nowhere : (xs : List Listed) → AllWithin (λ y. y.train ≢ i + 1) xs 0 (length xs) → given ≡ listed_for xs i given
  unfolding listed_for
  listed_nowhere [] before = refl
  listed_nowhere (y ∷ xs) before =
      listed_nowhere xs (λ j d l h. before (suc j) d (omega arith) (omega arith))
      ∙ sym (listed-later y xs i given (before 0 no_listed (omega arith) (omega arith)))

-- a line's train i, which has a last leg
module _ (l : Line) (w : Runnable l) (size : length l.traffic.trains ≡ 12) (i : ℕ) (n : i < l.traffic.train_count) where
  pub last_leg : legs l i - 1 < legs l i
  last_leg = omega (arith, (legs_few (train l i) (routed l i w size n)).0)

  pub due-from : (t : List ℕ) → Floors l t → due_from l.traffic.trains (take l.dues.count l.dues.listed) t i ≡ due l i
  unfolding due
  due-from t h = ap (listed_for (dues_of l) i) (arrived_line l w t h i n (legs l i - 1) last_leg)

-- ---- weighted delay

module _ (trains : List Train) (dues m : List ℕ) where
  pub cost-start : 0 ≡ sum (cost_by trains dues m) 0
  unfolding sum
  cost-start = refl

  -- a is the last arrival of train i and d its due minute
  module _ (i : ℕ) {a d k : ℕ} (legs-is : k ≡ legs_of (slice_index_or trains i past_train)) (last : a ≡ arrival_of (slice_index_or trains i past_train) m i (k - 1)) (due-at : d ≡ slice_index dues i) where
    pub cost_late : {w : ℕ} → w ≡ (get_or trains i past_train).weight → w * (a - d) ≡ cost_by trains dues m i
    cost_late e = rw (e, last, due-at, legs-is) refl

    pub cost_none : a ≤ d → 0 ≡ cost_by trains dues m i
    cost_none h =
        let none : a - d ≡ 0 = omega arith in
        sym (ap (λ (x : ℕ). (get_or trains i past_train).weight * x) none ∙ mul-zero _) ∙ cost_late refl

pub cost-end : (l : Line) (dues m : List ℕ) → Dues l dues → {s n : ℕ} → s ≡ sum (cost_by l.traffic.trains dues m) n → n ≡ l.traffic.train_count →
    s ≡ weighted_delay l m
unfolding weighted_delay
cost-end l dues m h e q =
    e ∙ ap (sum (cost_by l.traffic.trains dues m)) q ∙
    sum_same _ (cost l m) l.traffic.train_count (λ i b. ap (λ (d : ℕ). (train l i).weight * (last_arrival l m i - d)) (h.entries i b))
