-- What the walk's functions need on their way from one to the other: the ways out of a plan's lowest conflict are choices to try, and marks set and
-- restored.
use Rattle.std.specs.Prelude.{ℕ, zero, suc, ◌≤◌, ◌<◌, ◌≡◌, refl, length, get_or, set, Option, Some, None}
use Rattle.std.proofs.Common.{sym, ◌∙◌, ap, subst, arith}
use mathlib.Core.List.{List, [], ◌∷◌, Memᴰ}
use Rattle.line.specs.declared.Line.{Line}
use Rattle.line.specs.Within.{Within, Arrays}
use Rattle.line.specs.RunnableLaws.{within_runnable}
use Rattle.rules.specs.declared.conflicts.Conflict.{Conflict}
use Rattle.rules.specs.StatementLaws.PathsLaws.{routed}
use Rattle.rules.specs.Conflict.Conflicts.{conflict_of}
use Rattle.orders.specs.Plan.Bits.{in_mask, with_bit}
use Rattle.orders.specs.Plan.BitsLaws.{change-set}
use Rattle.finite.specs.BelowLaws.{count_nth, gather_in}
use Rattle.orders.specs.Plan.Choices.{Choice, on_segment, at_station, KeepsChoice}
use Rattle.orders.specs.Plan.Marks.{Plan, row, second, also}
use Rattle.orders.specs.Plan.MarksLaws.{of_placed, row_below}
use Rattle.orders.specs.Plan.TidyPlans.{Related, Fitting}
use Rattle.plans.specs.Conflict.Ways.{way_of, way_count, ways_of}
use Rattle.plans.proofs.Conflict.WaysLaws.{not_kept}
use Rattle.plans.specs.Conflict.RealConflicts.{Real}
use Rattle.plans.specs.Conflict.RealConflictsLaws.{conflict_real}
use Rattle.plans.specs.Clauses.WaysTold.{Tells, TellsWay, InRange}
use Rattle.plans.specs.Clauses.Choosing.{IsWay}
use Rattle.plans.specs.declared.ways.Way.{Way}

-- ---- a way, as told

module _ (ds : List ℕ) where
  pub way_there : (way : Way) (xs : List Choice) → TellsWay ds xs (Some way) → (c : Choice) × (xs ≡ c ∷ []) × Tells ds c way
  way_there way [] h = absurd h
  way_there way (c ∷ []) h = (c, refl, h)
  way_there way (c ∷ d ∷ cs) h = absurd h

  pub way_absent : (xs : List Choice) → TellsWay ds xs None → xs ≡ []
  way_absent [] h = refl
  way_absent (c ∷ []) h = absurd h
  way_absent (c ∷ d ∷ cs) h = absurd h

-- ---- of a conflict

pub count_most : (c : Option Conflict) → way_count c ≤ 144
count_most None = omega arith
count_most (Some (Conflict.OnSegment x)) = omega arith
count_most (Some (Conflict.AtStation x)) = omega arith

-- a choice that some minutes do not keep asks something
related : (l : Line) (m : List ℕ) (c : Choice) → (KeepsChoice l m c → ⊥) → Related l c
related l m (on_segment p i j) n = λ d o. n (rw (d, o) tt)
related l m (at_station s a b) n = tt

module _ (l : Line) (w : Within l) (a : Arrays l) (m : List ℕ) where
  pub range_of : (c : Conflict) → Real l m (Some c) → InRange c
  range_of (Conflict.OnSegment x) h =
      (omega (arith, h.place, w.stations.1), omega (arith, h.trains.0, w.trains.1), omega (arith, h.trains.1, w.trains.1))
  range_of (Conflict.AtStation x) h =
      let (i, n, e, _) = count_nth (in_mask x.trains) l.traffic.train_count 0 (omega (arith, h.many)) in
      let path = routed l i (within_runnable l w) a.trains n in
      let middle = (h.trains i e).1.0 in
      (omega (arith, middle.0), omega (arith, middle.1, path.origin.1, path.destination.1))

  -- way k out of any conflict is one to try
  pub way_of_real : (conflict : Option Conflict) → Real l m conflict → (ds : List ℕ) (way : Way) (n k : ℕ) → n ≡ way_count conflict → k < n →
      (c : Choice) → way_of conflict k ≡ c ∷ [] → Tells ds c way → IsWay l m ds c way
  unfolding ways_of
  way_of_real conflict real ds way n k count_is low c e told =
      let there : Memᴰ c (way_of conflict k) = rw e (mathlib.Core.List.Memᴰ.head refl) in
      let one : Memᴰ c (ways_of conflict) = gather_in (way_of conflict) (way_count conflict) k (omega arith) there in
      let n = not_kept l m conflict real c one in
      record { fitting = (n.0, n.1, related l m c n.2); open_yet = n.2; told = told }

  -- so of the lowest
  module _ (conflict : Option Conflict) (is : conflict ≡ conflict_of l m) where
    lowest_real : Real l m conflict
    lowest_real = rw is (conflict_real l w a m)

    pub conflict_range : (c : Conflict) → conflict ≡ Some c → InRange c
    conflict_range c some = range_of c (subst (Real l m) some lowest_real)

    pub is_way : (ds : List ℕ) (way : Way) (n k : ℕ) → n ≡ way_count conflict → k < n → (c : Choice) → way_of conflict k ≡ c ∷ [] →
        Tells ds c way → IsWay l m ds c way
    is_way = way_of_real conflict lowest_real

-- ---- marks

pub row_low : (l : Line) → Within l → (c : Choice) → Fitting l c → row c < 368
row_low l w c f = row_below c (of_placed l (within_runnable l w) c f.0)

pub second_low : (l : Line) → Within l → (c : Choice) → Fitting l c → second c < 16
second_low l w (on_segment p i j) f = omega (arith, f.0.2, w.trains.1)
second_low l w (at_station s a b) f = omega (arith, f.0.2, w.trains.1)

-- the marks with the way's choice
pub marks_added : (c : Choice) (p : Plan) (e j v : ℕ) → e ≡ row c → j ≡ second c → v ≡ with_bit j (get_or p e 0) → e < length p → set p e v ≡ also c p
unfolding also
marks_added c p e j v at who is low = rw (is, who, at) (sym (change-set (with_bit (second c)) (row c) p (omega arith)))

-- what was there put back
pub put_back : (p : List ℕ) (e v : ℕ) → set (set p e v) e (get_or p e 0) ≡ p
put_back [] e v = refl
put_back (x ∷ p) zero v = refl
put_back (x ∷ p) (suc e) v = ap (λ (q : List ℕ). x ∷ q) (put_back p e v)
