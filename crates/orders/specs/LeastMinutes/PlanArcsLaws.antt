-- The arcs of a plan say what it is to keep it, and each ends at an entry; so raising over them gives the plan's least minutes.
use Rattle.std.specs.Prelude.{ℕ, ◌+◌, ◌-◌, ◌<◌, ◌≡◌, Bool, cond, ◌&&◌, List, [], ◌++◌, length, get_or}
use Rattle.std.proofs.Math.Path.{refl}
use Rattle.std.proofs.Math.Bool.{true, false, and-eq-true_iff}
use Rattle.std.proofs.Common.{arith}
use Rattle.std.proofs.Math.ListN.{get_or-eq_default}
use Rattle.finite.specs.Each.{Each}
use Rattle.finite.specs.EachLaws.{each_append, each_parts}
use Rattle.finite.specs.Decide.{Decides}
use Rattle.finite.specs.DecideLaws.{is_true, decides_and}
use Rattle.finite.specs.Below.{EachBelow, gather}
use Rattle.finite.specs.BelowLaws.{gather_each, gather-parts}
use Rattle.line.specs.declared.Kind.{Kind}
use Rattle.line.specs.declared.Segment.{Segment}
use Rattle.line.specs.declared.Train.{Train}
use Rattle.line.specs.declared.Line.{Line}
use Rattle.line.specs.Within.{Arrays}
use Rattle.line.specs.Runnable.{Runnable}
use Rattle.rules.specs.Statement.Paths.{train, segment_count, segment, legs, segment_of, same_way, into, outbound, EachTrain}
use Rattle.rules.specs.Statement.Minutes.{departs, arrives}
use Rattle.rules.specs.Statement.Bookings.{floor_of}
use Rattle.rules.specs.Statement.Rules.{NotBefore, TrainRules, GapBy}
use Rattle.rules.specs.StatementLaws.BookingsLaws.{floors_kept, kept_floors, booked_leg}
use Rattle.rules.specs.StatementLaws.PathsLaws.{routed, legs_few, segment_below, decides_middle, middle_few}
use Rattle.rules.specs.Conflict.DirectionsLaws.{decides_between}
use Rattle.orders.specs.LeastMinutes.NoLater.{slack}
use Rattle.orders.specs.LeastMinutes.NoLaterLaws.{slack-most}
use Rattle.orders.specs.LeastMinutes.Least.{minutes, none, Fit, IsLeast, NoneKeeps}
use Rattle.orders.specs.LeastMinutes.SettleLaws.{RoundRaises, settle-least, settle_none}
use Rattle.orders.specs.LeastMinutes.Arcs.{Arc, KeepsArc, KeepsArcs, AllIn, pull_all}
use Rattle.orders.specs.LeastMinutes.ArcsLaws.{arcs_raise}
use Rattle.orders.specs.Plan.Choices.{Choice, on_segment, at_station, Of, Shared, KeepsChoice}
use Rattle.orders.specs.Plan.Marks.{Plan, marked}
use Rattle.orders.specs.Plan.Plans.{Keeps}
use Rattle.orders.specs.LeastMinutes.PlanArcs.{floor_arc, early_arcs, run_arcs, stop_arcs, booked_arcs, train_arcs, gap_arcs, choice_arcs, shared, chosen_arcs, for_pairs, arcs, rounds, least}

-- ---- the arcs of a choice

decides_shared : (l : Line) (c : Choice) → Decides (Shared l c) (shared l c)
decides_shared l (on_segment p i j) = decides_and (decides_between _ _ p) (decides_between _ _ p)
decides_shared l (at_station s a b) = decides_and (decides_middle (train l a) s) (decides_middle (train l b) s)

module _ (g : Segment) (d a d' a' : ℕ) where
  gap_kept : (k : Kind) (w : Bool) (m : List ℕ) → GapBy k w g (get_or m d 0) (get_or m a 0) (get_or m d' 0) (get_or m a' 0) → KeepsArcs (gap_arcs k w g d a d' a') m
  gap_kept Kind.S true m h = (omega arith, tt)
  gap_kept Kind.F true m h = (omega (arith, h.0), (omega (arith, h.1), tt))
  gap_kept Kind.D true m h = (omega (arith, h.0), (omega (arith, h.1), tt))
  gap_kept Kind.S false m h = (omega arith, tt)
  gap_kept Kind.F false m h = (omega arith, tt)
  gap_kept Kind.D false m h = tt

  kept_gap : (k : Kind) (w : Bool) (m : List ℕ) → KeepsArcs (gap_arcs k w g d a d' a') m → GapBy k w g (get_or m d 0) (get_or m a 0) (get_or m d' 0) (get_or m a' 0)
  kept_gap Kind.S true m h = omega (arith, h.0)
  kept_gap Kind.F true m h = (omega (arith, h.0), omega (arith, h.1.0))
  kept_gap Kind.D true m h = (omega (arith, h.0), omega (arith, h.1.0))
  kept_gap Kind.S false m h = omega (arith, h.0)
  kept_gap Kind.F false m h = omega (arith, h.0)
  kept_gap Kind.D false m h = tt

  gap_in : (k : Kind) (w : Bool) (n : ℕ) → d' < n → a' < n → AllIn (gap_arcs k w g d a d' a') n
  gap_in Kind.S true n h k = (h, tt)
  gap_in Kind.F true n h k = (h, (k, tt))
  gap_in Kind.D true n h k = (h, (k, tt))
  gap_in Kind.S false n h k = (h, tt)
  gap_in Kind.F false n h k = (h, tt)
  gap_in Kind.D false n h k = tt

module _ (l : Line) (m : List ℕ) where
  choice_kept : (c : Choice) → KeepsChoice l m c → KeepsArcs (choice_arcs l c) m
  choice_kept (on_segment p i j) h = gap_kept (segment l p) _ _ _ _ (segment l p).kind (same_way l i j) m h
  choice_kept (at_station s a b) h = (omega arith, tt)

  kept_choice : (c : Choice) → KeepsArcs (choice_arcs l c) m → KeepsChoice l m c
  kept_choice (on_segment p i j) h = kept_gap (segment l p) _ _ _ _ (segment l p).kind (same_way l i j) m h
  kept_choice (at_station s a b) h = omega (arith, h.0)

-- of a choice that is marked and shared
module _ (P : Arc → Type 0) (l : Line) (q : Plan) (c : Choice) where
  each_chosen : (Shared l c → marked q c ≡ true → Each P (choice_arcs l c)) → Each P (chosen_arcs l q c)
  unfolding chosen_arcs
  each_chosen h =
      (elim (marked q c && shared l c) as (λ b. marked q c && shared l c ≡ b → Each P (cond b (choice_arcs l c) [])) [
        | true ↦ λ e. let r = (and-eq-true_iff (marked q c) (shared l c)).0 e in h ((decides_shared l c).yea r.1) r.0
        | false ↦ λ e. tt
      ]) refl

  chosen_each : Each P (chosen_arcs l q c) → Shared l c → marked q c ≡ true → Each P (choice_arcs l c)
  unfolding chosen_arcs
  chosen_each h s e = rw ((and-eq-true_iff (marked q c) (shared l c)).1 (e, is_true (decides_shared l c) s)) at h

-- ---- the arcs of train i, for rules 10, 11, 12 and 18

module _ (P : Arc → Type 0) (l : Line) (i : ℕ) where
  abbrev runs_all : List Arc
  runs_all = gather (run_arcs l i) (legs l i)

  abbrev stops_all : List Arc
  stops_all = gather (stop_arcs l i) (legs l i - 1)

  abbrev EachRun : Type 0
  EachRun = EachBelow (legs l i) (λ k. Each P (run_arcs l i k))

  abbrev EachStop : Type 0
  EachStop = EachBelow (legs l i - 1) (λ k. Each P (stop_arcs l i k))

  abbrev booked_all : List Arc
  booked_all = gather (booked_arcs l i) (legs l i)

  abbrev EachBooked : Type 0
  EachBooked = EachBelow (legs l i) (λ k. Each P (booked_arcs l i k))

  each_train : Each P (early_arcs l i) → EachRun → EachStop → EachBooked → Each P (train_arcs l i)
  unfolding train_arcs
  each_train a b c d =
      each_append P (early_arcs l i) (runs_all ++ (stops_all ++ booked_all)) a
      (each_append P runs_all (stops_all ++ booked_all) (gather_each P (run_arcs l i) (legs l i) b)
      (each_append P stops_all booked_all (gather_each P (stop_arcs l i) (legs l i - 1) c) (gather_each P (booked_arcs l i) (legs l i) d)))

  train_each : Each P (train_arcs l i) → Each P (early_arcs l i) × EachRun × EachStop × EachBooked
  unfolding train_arcs
  train_each h =
      let a = each_parts P (early_arcs l i) (runs_all ++ (stops_all ++ booked_all)) h in
      let b = each_parts P runs_all (stops_all ++ booked_all) a.1 in
      let c = each_parts P stops_all booked_all b.1 in
      (a.0, gather-parts P (run_arcs l i) (legs l i) b.0, gather-parts P (stop_arcs l i) (legs l i - 1) c.0, gather-parts P (booked_arcs l i) (legs l i) c.1)

module _ (l : Line) (m : List ℕ) (z : length m ≡ 352) (i : ℕ) where
  floor_kept : (k minute : ℕ) → NotBefore l m i k minute → KeepsArc m (floor_arc l i k minute)
  floor_kept k minute h = omega (arith, h, get_or-eq_default m 0 {n = 352} (omega arith))

  train_kept : TrainRules l m i → KeepsArcs (train_arcs l i) m
  train_kept h =
      each_train (KeepsArc m) l i
      (floor_kept 0 (train l i).earliest h.rule10, tt)
      (λ k n. (omega (arith, h.rule11 k n), (omega (arith, h.rule11 k n), tt)))
      (λ k n. (omega (arith, h.rule12 k n), tt))
      (λ k n. (floor_kept k (floor_of l i k) (floors_kept l m i h.rule18 k), tt))

  kept_train : Runnable l → KeepsArcs (train_arcs l i) m → TrainRules l m i
  kept_train w h =
      let a = train_each (KeepsArc m) l i h in
      record {
        rule10 = omega (arith, a.0.0);
        rule11 = λ k n. omega (arith, (a.1 k n).0, (a.1 k n).1.0);
        rule12 = λ k n. omega (arith, (a.2 k n).0);
        rule18 = kept_floors l m i (booked_leg l w i) (λ k n. omega (arith, (a.3 k n).0));
      }

-- ---- the arcs of a plan

module _ (P : Arc → Type 0) (l : Line) (n : ℕ) (f : ℕ → ℕ → ℕ → List Arc) where
  abbrev EachPair : Type 0
  EachPair = EachBelow n (λ p. EachTrain l (λ i. EachTrain l (λ j. Each P (f p i j))))

  pairs_each : EachPair → Each P (for_pairs l n f)
  pairs_each h =
      gather_each P _ n (λ p a. gather_each P _ l.traffic.train_count (λ i b. gather_each P (f p i) l.traffic.train_count (λ j c. h p a i b j c)))

  each_pairs : Each P (for_pairs l n f) → EachPair
  each_pairs h p a i b j c = gather-parts P (f p i) l.traffic.train_count (gather-parts P _ l.traffic.train_count (gather-parts P _ n h p a) i b) j c

module _ (l : Line) (q : Plan) where
  abbrev segment_arcs : ℕ → ℕ → ℕ → List Arc
  segment_arcs p i j = chosen_arcs l q (on_segment p i j)

  abbrev station_arcs : ℕ → ℕ → ℕ → List Arc
  station_arcs s a b = chosen_arcs l q (at_station s a b)

  abbrev from_trains : List Arc
  from_trains = gather (train_arcs l) l.traffic.train_count

  abbrev from_segments : List Arc
  from_segments = for_pairs l (segment_count l) segment_arcs

  abbrev from_stations : List Arc
  from_stations = for_pairs l l.track.station_count station_arcs

  each_arcs : (P : Arc → Type 0) → EachTrain l (λ i. Each P (train_arcs l i)) → ((c : Choice) → Of l c → Each P (chosen_arcs l q c)) → Each P (arcs l q)
  unfolding arcs
  each_arcs P h k =
      each_append P from_trains (from_segments ++ from_stations) (gather_each P (train_arcs l) l.traffic.train_count h)
      (each_append P from_segments from_stations
      (pairs_each P l (segment_count l) segment_arcs (λ p a i b j c. k (on_segment p i j) (a, b, c)))
      (pairs_each P l l.track.station_count station_arcs (λ p a i b j c. k (at_station p i j) (a, b, c))))

  arcs_each : (P : Arc → Type 0) → Each P (arcs l q) → EachTrain l (λ i. Each P (train_arcs l i)) × ((c : Choice) → Of l c → Each P (chosen_arcs l q c))
  unfolding arcs
  arcs_each P h =
      let a = each_parts P from_trains (from_segments ++ from_stations) h in
      let b = each_parts P from_segments from_stations a.1 in
      (gather-parts P (train_arcs l) l.traffic.train_count a.0, go b.0 b.1)
    where
      go : Each P from_segments → Each P from_stations → (c : Choice) → Of l c → Each P (chosen_arcs l q c)
      go x y (on_segment p i j) o = each_pairs P l (segment_count l) segment_arcs x p o.0 i o.1 j o.2
      go x y (at_station s a b) o = each_pairs P l l.track.station_count station_arcs y s o.0 a o.1 b o.2

  -- to keep the plan is to keep its arcs
  keeps_arcs : (m : List ℕ) → Fit 352 m → Keeps l q m → KeepsArcs (arcs l q) m
  keeps_arcs m z k =
      each_arcs (KeepsArc m)
      (λ i n. train_kept l m z.size i (k.trains i n))
      (λ c o. each_chosen (KeepsArc m) l q c (λ s e. choice_kept l m c (k.choices c o s e)))

  arcs_keep : Runnable l → (m : List ℕ) → Fit 352 m → KeepsArcs (arcs l q) m → Keeps l q m
  arcs_keep w m z h =
      let a = arcs_each (KeepsArc m) h in
      record {
        trains = λ i n. kept_train l m z.size i w (a.0 i n);
        choices = λ c o s e. kept_choice l m c (chosen_each (KeepsArc m) l q c (a.1 c o) s e);
      }

-- ---- every arc ends at an entry

-- an entry of a segment and a train
departs_in : (p i : ℕ) → p < 11 → i < 12 → departs p i < 352
departs_in p i h k = omega arith

arrives_in : (p i : ℕ) → p < 11 → i < 12 → arrives p i < 352
arrives_in p i h k = omega arith

-- a train comes to a middle station over a segment
into_few : (t : Train) (s : ℕ) → 0 < s → s < 11 → into t s < 11
into_few t s h k = elim (outbound t) as (λ b. cond b (s - 1) s < 11) [ true ↦ omega arith | false ↦ omega arith ]

module _ (l : Line) (w : Runnable l) (r : Arrays l) (q : Plan) where
  train_in : EachTrain l (λ i. AllIn (train_arcs l i) 352)
  train_in i n =
      let t = routed l i w r.trains n in
      let low : i < 12 = omega (arith, w.trains.1) in
      let at : EachBelow (legs l i) (λ k. segment_of (train l i) k < 11) = λ k h. segment_below (train l i) t k h in
      each_train (λ a. a.to < 352) l i
      (departs_in _ i (at 0 (legs_few (train l i) t).0) low, tt)
      (λ k h. (arrives_in _ i (at k h) low, (departs_in _ i (at k h) low, tt)))
      (λ k h. (departs_in _ i (at (k + 1) (omega arith)) low, tt))
      (λ k h. (departs_in _ i (at k h) low, tt))

  choice_in : (c : Choice) → Of l c → Shared l c → AllIn (choice_arcs l c) 352
  choice_in (on_segment p i j) o s =
      let low : j < 12 = omega (arith, w.trains.1, o.2) in
      let few : p < 11 = omega (arith, w.stations.1, o.0) in
      gap_in (segment l p) _ _ _ _ (segment l p).kind (same_way l i j) 352 (departs_in p j few low) (arrives_in p j few low)
  choice_in (at_station s a b) o h =
      let low : b < 12 = omega (arith, w.trains.1, o.2) in
      let few = middle_few (train l b) (routed l b w r.trains o.2) s h.1 in
      (arrives_in _ b (into_few (train l b) s few.0 few.1) low, tt)

  raises : RoundRaises 352 (Keeps l q) (pull_all (arcs l q))
  raises =
      arcs_raise 352 (Keeps l q) (arcs l q)
      (each_arcs l q (λ a. a.to < 352) train_in (λ c o. each_chosen (λ a. a.to < 352) l q c (λ s _. choice_in c o s)))
      (keeps_arcs l q) (arcs_keep l q w)

  rounds_enough : (s : List ℕ) → Fit 352 s → slack s < rounds
  unfolding rounds
  rounds_enough s z = omega (arith, slack-most s, z.size)

  pub least_is : (s m : List ℕ) → Fit 352 s → least l q s ≡ minutes m → IsLeast 352 (Keeps l q) s m
  unfolding least
  least_is s m z e = settle-least 352 (Keeps l q) (pull_all (arcs l q)) raises rounds s m z (rounds_enough s z) e

  pub least_none : (s : List ℕ) → Fit 352 s → least l q s ≡ none → NoneKeeps 352 (Keeps l q) s
  unfolding least
  least_none s z e = settle_none 352 (Keeps l q) (pull_all (arcs l q)) raises rounds s z (rounds_enough s z) e
