-- The first breach is none exactly when every rule is kept, 10 to 15 and 18: each test of the scan decides its rule.
use Rattle.std.specs.Prelude.{◌≡◌, ℕ, ◌+◌, ◌-◌, ◌<◌, ◌≤◌, Bool, true, false, cond, ◌&&◌, ◌⊎◌, List, nat_le, Option, Some, None, Ok}
use Rattle.std.proofs.Math.Path.{refl, sym}
use Rattle.std.proofs.Common.{ap, ◌∙◌, inl, inr, ⊎_elim, true≢false, arith}
use Rattle.std.proofs.Math.Decide.{dec_lt}
use Rattle.finite.specs.Decide.{Decides}
use Rattle.finite.specs.DecideLaws.{by_test, is_true, is_false, decides_lt, decides_le, decides_then, decides_and, decides_or, decides_not, decides_as}
use Rattle.finite.specs.Below.{EachBelow}
use Rattle.finite.specs.BelowLaws.{count_same, count_never}
use Rattle.line.specs.declared.Kind.{Kind}
use Rattle.line.specs.declared.Segment.{Segment}
use Rattle.line.specs.declared.Line.{Line}
use Rattle.line.specs.Within.{Within, Arrays}
use Rattle.line.specs.RunnableLaws.{within_runnable}
use Rattle.rules.specs.declared.conflicts.Conflict.{Conflict}
use Rattle.rules.specs.declared.passages.Passage.{Passage}
use Rattle.rules.specs.Statement.Paths.{train, segment_count, segment, tracks_at, outbound, same_way, Uses, Middle, EachTrain}
use Rattle.rules.specs.Statement.Minutes.{departs_on, arrives_on}
use Rattle.rules.specs.Statement.Rules.{InDays, TrainRules, NotLate, GapBy, Before, Apart, stands, standing, Room, Lawful}
use Rattle.rules.specs.Conflict.Directions.{directions_of, on}
use Rattle.rules.specs.Conflict.DirectionsLaws.{decides_on, same_way_lem, outbound-way}
use Rattle.rules.specs.Conflict.Conflicts.{gap_by, passage, keeps_after, neither_first, clash, pair_on, segment_conflict, stands_in, stands_at, standing_at, crowd_at, crowd_on, station_conflict, conflict_of}
use Rattle.rules.specs.Scan.StationLaws.{or_nothing, conflict_none, none_conflict, none_clash, clash_none, never_crowded, crowded_never, crowd-middle, crowd-first, crowd_last}
use Rattle.rules.specs.StatementLaws.PathsLaws.{decides_middle, train_runnable}
use Rattle.rules.specs.Check.RulesLaws.{decides_10, decides_11, decides_12, decides_18, decides_13}
use Rattle.rules.specs.Check.Breaches.{train_breach, conflict_breach, breach_of}
use Rattle.rules.specs.Check.BreachesLaws.{or_none, breach_none, none_breach}

-- ---- rule 14

decides_gap : (k : Kind) (b : Bool) (g : Segment) (d a d' a' : ℕ) → Decides (GapBy k b g d a d' a') (gap_by k b g d a d' a')
decides_gap Kind.S true g d a d' a' = decides_le _ _
decides_gap Kind.F true g d a d' a' = decides_and (decides_le _ _) (decides_le _ _)
decides_gap Kind.D true g d a d' a' = decides_and (decides_le _ _) (decides_le _ _)
decides_gap Kind.S false g d a d' a' = decides_le _ _
decides_gap Kind.F false g d a d' a' = decides_le _ _
decides_gap Kind.D false g d a d' a' = record { yea = λ e. tt; nay = λ e h. true≢false e }

module _ (l : Line) (few : l.traffic.train_count ≤ 12) (m : List ℕ) (p : ℕ) (short : p < 11) where
  abbrev passing : ℕ → Passage
  passing i = passage (directions_of l) m p i

  decides_before : (i j : ℕ) → i < l.traffic.train_count → j < l.traffic.train_count → Uses (train l i) p → Uses (train l j) p →
      Decides (Before l m p i j) (keeps_after (segment l p) (passing i) (passing j))
  unfolding keeps_after
  decides_before i j a b u v = rw (same_way_lem l few p short i j a b u v) (decides_gap (segment l p).kind (same_way l i j) (segment l p) _ _ _ _)

  -- two trains that share the segment and of which neither goes first
  abbrev pub Clash : ℕ → ℕ → Type 0
  Clash i j = (i < j) × (Uses (train l i) p × (Uses (train l j) p × (Before l m p i j ⊎ Before l m p j i → ⊥)))

  pub decides_conflict : (i j : ℕ) → i < l.traffic.train_count → j < l.traffic.train_count → Decides (Clash i j) (clash (segment l p) (directions_of l) m p i j)
  unfolding clash neither_first
  decides_conflict i j a b =
      decides_and (decides_lt i j)
      (decides_then (decides_on l few p short i a) (λ u.
      decides_then (decides_on l few p short j b) (λ v.
      decides_not (decides_or (decides_before i j a b u v) (decides_before j i b a v u)))))

  apart_of : EachTrain l (λ i. EachTrain l (λ j. clash (segment l p) (directions_of l) m p i j ≡ false)) → Apart l m p
  apart_of h i a j b o u v =
      by_test (decides_before i j a b u v) inl
      (λ x. by_test (decides_before j i b a v u) inr
      (λ y. absurd ((decides_conflict i j a b).nay (h i a j b) (o, (u, (v, λ q. ⊎_elim x y q))))))

  of_apart : Apart l m p → EachTrain l (λ i. EachTrain l (λ j. clash (segment l p) (directions_of l) m p i j ≡ false))
  of_apart h i a j b = is_false (decides_conflict i j a b) (λ c. c.1.1.1 (h i a j b c.0 c.1.0 c.1.1.0))

  -- no pair is found exactly when the rule is kept
  pair_clear : pair_on (segment l p) (directions_of l) m l.traffic.train_count p ≡ None → Apart l m p
  pair_clear e = apart_of (none_clash (segment l p) (directions_of l) m l.traffic.train_count p e)

  clear_pair : Apart l m p → pair_on (segment l p) (directions_of l) m l.traffic.train_count p ≡ None
  clear_pair h = clash_none (segment l p) (directions_of l) m l.traffic.train_count p (of_apart h)

-- ---- rule 15

module _ (l : Line) (few : l.traffic.train_count ≤ 12) (m : List ℕ) (s : ℕ) (low : 0 < s) (short : s < 11) where
  -- a train goes over the segments on both sides of its middle stations
  decides_passes : (i : ℕ) → i < l.traffic.train_count → Decides (Middle (train l i) s) (on (directions_of l) s i && on (directions_of l) (s - 1) i)
  decides_passes i a =
      decides_as (λ h. (omega (arith, h.0, h.1), omega (arith, h.0, h.1)))
      (λ h. ((omega (arith, h.0, h.1), omega (arith, h.0, h.1)), (omega (arith, h.0, h.1), omega (arith, h.0, h.1))))
      (decides_and (decides_on l few s short i a) (decides_on l few (s - 1) (omega arith) i a))

  -- the test of the table of directions is the rule's
  pub stands_at_lem : (t i : ℕ) → i < l.traffic.train_count → stands_at (directions_of l) m s t i ≡ stands l m s t i
  unfolding stands_in stands
  stands_at_lem t i a =
      by_test (decides_passes i a)
      (λ h.
      let over : Uses (train l i) s = (omega (arith, h.0, h.1), h.1) in
      let out = outbound-way l few s short i a over in
      rw (is_true (decides_passes i a) h, is_true (decides_middle (train l i) s) h, out) (turned (outbound (train l i))))
      (λ h. rw (is_false (decides_passes i a) h, is_false (decides_middle (train l i) s) h) refl)
    where
      turned : (w : Bool) → nat_le (cond w (arrives_on m (s - 1) i) (arrives_on m s i)) t && nat_le t (cond w (departs_on m s i) (departs_on m (s - 1) i))
          ≡ nat_le (arrives_on m (cond w (s - 1) s) i) t && nat_le t (departs_on m (cond w s (s - 1)) i)
      turned true = refl
      turned false = refl

  standing_at_lem : (t : ℕ) → standing_at (directions_of l) m l.traffic.train_count s t ≡ standing l m s t
  unfolding standing_at standing
  standing_at_lem t = count_same _ _ l.traffic.train_count (λ i a. stands_at_lem t i a)

  -- no crowd is found exactly when the rule is kept
  room_clear : (tracks : ℕ) → tracks ≡ tracks_at l s → EachBelow 2880 (λ t. standing_at (directions_of l) m l.traffic.train_count s t ≤ tracks) → Room l m s
  room_clear tracks e h t b = omega (arith, h t b, standing_at_lem t)

  clear_room : (tracks : ℕ) → tracks ≡ tracks_at l s → Room l m s → EachBelow 2880 (λ t. standing_at (directions_of l) m l.traffic.train_count s t ≤ tracks)
  clear_room tracks e h t b = omega (arith, h t b, standing_at_lem t)

-- at a station that is nobody's middle one nobody stands
nobody_stands : (l : Line) (m : List ℕ) (s : ℕ) → EachTrain l (λ i. Middle (train l i) s → ⊥) → Room l m s
unfolding standing stands
nobody_stands l m s h t b =
    omega (arith, count_never (stands l m s t) l.traffic.train_count (λ i a. rw (is_false (decides_middle (train l i) s) (h i a)) refl))

-- ---- the whole

-- every rule is kept, 10 to 15 and 18
pub record KeptRules (l : Line) (m : List ℕ) : Type 0 where
  pub trains : EachTrain l (TrainRules l m)
  pub rule13 : EachTrain l (NotLate l m)
  pub rule14 : EachBelow (segment_count l) (Apart l m)
  pub rule15 : EachBelow l.track.station_count (Room l m)

no_conflict : (c : Option Conflict) → conflict_breach c ≡ Ok tt → c ≡ None
no_conflict None e = refl
no_conflict (Some (Conflict.OnSegment x)) e = let z : ◌≡◌ {A = ℕ} 0 1 = cc in absurd (omega arith)
no_conflict (Some (Conflict.AtStation x)) e = let z : ◌≡◌ {A = ℕ} 0 1 = cc in absurd (omega arith)

module _ (l : Line) (w : Within l) (a : Arrays l) (m : List ℕ) where
  few_trains : l.traffic.train_count ≤ 12
  few_trains = w.trains.1

  -- ---- rule 14 on every segment

  -- on one of them
  pub segment_clear : (p : ℕ) → p < segment_count l → pair_on (segment l p) (directions_of l) m l.traffic.train_count p ≡ None → Apart l m p
  segment_clear p b e = pair_clear l few_trains m p (omega (arith, w.stations.1)) e

  pub clear_segment : (p : ℕ) → p < segment_count l → Apart l m p → pair_on (segment l p) (directions_of l) m l.traffic.train_count p ≡ None
  clear_segment p b h = clear_pair l few_trains m p (omega (arith, w.stations.1)) h

  segments_clear : segment_conflict l.track.segments (directions_of l) m (segment_count l) l.traffic.train_count ≡ None →
      EachBelow (segment_count l) (Apart l m)
  unfolding segment_conflict
  segments_clear e p b = segment_clear p b (none_conflict _ (segment_count l) e p b)

  clear_segments : EachBelow (segment_count l) (Apart l m) →
      segment_conflict l.track.segments (directions_of l) m (segment_count l) l.traffic.train_count ≡ None
  unfolding segment_conflict
  clear_segments h = conflict_none _ (segment_count l) (λ p b. clear_segment p b (h p b))

  -- ---- rule 15 at every station

  -- the first and the last station are nobody's middle ones
  ends_free : (s : ℕ) → (s ≡ 0) ⊎ (l.track.station_count ≤ s + 1) → Room l m s
  ends_free s (inl e) = nobody_stands l m s (λ i b h. omega (arith, h.0))
  ends_free s (inr e) = nobody_stands l m s (λ i b h. let t = train_runnable l i (within_runnable l w) a.trains b in omega (arith, h.1, t.origin.1, t.destination.1))

  crowd_clear : (s : ℕ) → 0 < s → s + 1 < l.track.station_count →
      crowd_on l.track.tracks (directions_of l) m l.track.station_count l.traffic.train_count s ≡ None → Room l m s
  crowd_clear s o b e =
      room_clear l few_trains m s o (omega (arith, w.stations.1)) (tracks_at l s) refl
      (never_crowded (directions_of l) m l.traffic.train_count (tracks_at l s) s
      (never _ (sym (crowd-middle l.track.tracks (directions_of l) m l.track.station_count l.traffic.train_count s o b) ∙ e)))
    where
      never : (f : Option ℕ) → crowd_at (directions_of l) m l.traffic.train_count (tracks_at l s) s f ≡ None → f ≡ None
      never None q = refl
      never (Some t) q = let z : ◌≡◌ {A = ℕ} 0 1 = cc in absurd (omega arith)

  clear_crowd : (s : ℕ) → 0 < s → s + 1 < l.track.station_count → Room l m s →
      crowd_on l.track.tracks (directions_of l) m l.track.station_count l.traffic.train_count s ≡ None
  clear_crowd s o b h =
      crowd-middle l.track.tracks (directions_of l) m l.track.station_count l.traffic.train_count s o b
      ∙ ap (λ (f : Option ℕ). crowd_at (directions_of l) m l.traffic.train_count (tracks_at l s) s f)
      (crowded_never (directions_of l) m l.traffic.train_count (tracks_at l s) s
      (clear_room l few_trains m s o (omega (arith, w.stations.1)) (tracks_at l s) refl h))

  -- each station is the first, the last, or between
  by_place : {Q : Type 0} (s : ℕ) → (s ≡ 0 → Q) → (l.track.station_count ≤ s + 1 → Q) → (0 < s → s + 1 < l.track.station_count → Q) → Q
  by_place s f g h = elim (dec_lt 0 s) [
    | yes o ↦ elim (dec_lt (s + 1) l.track.station_count) [ yes b ↦ h o b | no b ↦ g (omega arith) ]
    | no o ↦ f (omega arith)
  ]

  pub station_clear : (s : ℕ) →
      crowd_on l.track.tracks (directions_of l) m l.track.station_count l.traffic.train_count s ≡ None → Room l m s
  station_clear s e = by_place s (λ z. ends_free s (inl z)) (λ z. ends_free s (inr z)) (λ o k. crowd_clear s o k e)

  pub clear_station : (s : ℕ) → Room l m s →
      crowd_on l.track.tracks (directions_of l) m l.track.station_count l.traffic.train_count s ≡ None
  clear_station s h =
      by_place s (crowd-first l.track.tracks (directions_of l) m l.track.station_count l.traffic.train_count s)
      (crowd_last l.track.tracks (directions_of l) m l.track.station_count l.traffic.train_count s) (λ o k. clear_crowd s o k h)

  stations_clear : station_conflict l.track.tracks (directions_of l) m l.track.station_count l.traffic.train_count ≡ None →
      EachBelow l.track.station_count (Room l m)
  unfolding station_conflict
  stations_clear e s b = station_clear s (none_conflict _ l.track.station_count e s b)

  clear_stations : EachBelow l.track.station_count (Room l m) →
      station_conflict l.track.tracks (directions_of l) m l.track.station_count l.traffic.train_count ≡ None
  unfolding station_conflict
  clear_stations h = conflict_none _ l.track.station_count (λ s b. clear_station s (h s b))

  -- ---- the theorem

  -- where there is no conflict rules 14 and 15 are kept
  pub clear_of : conflict_of l m ≡ None → EachBelow (segment_count l) (Apart l m) × EachBelow l.track.station_count (Room l m)
  unfolding conflict_of
  clear_of e = let c = or_nothing _ _ e in (segments_clear c.0, stations_clear c.1)

  -- where no breach is found every rule is kept
  pub kept_of : breach_of l m ≡ Ok tt → KeptRules l m
  unfolding breach_of
  kept_of e =
      let r10 = or_none (train_breach 10 l m) _ e in
      let r11 = or_none (train_breach 11 l m) _ r10.1 in
      let r12 = or_none (train_breach 12 l m) _ r11.1 in
      let r18 = or_none (train_breach 18 l m) _ r12.1 in
      let r13 = or_none (train_breach 13 l m) _ r18.1 in
      let c = clear_of (no_conflict _ r13.1) in
      record {
        trains = λ i b. record {
          rule10 = (decides_10 l m i).yea (none_breach 10 l m r10.0 i b);
          rule11 = (decides_11 l m i).yea (none_breach 11 l m r11.0 i b);
          rule12 = (decides_12 l m i).yea (none_breach 12 l m r12.0 i b);
          rule18 = (decides_18 l m i (within_runnable l w)).yea (none_breach 18 l m r18.0 i b);
        };
        rule13 = λ i b. (decides_13 l m i).yea (none_breach 13 l m r13.0 i b);
        rule14 = c.0;
        rule15 = c.1;
      }

  -- where every rule is kept no breach is found
  pub of_kept : KeptRules l m → breach_of l m ≡ Ok tt
  unfolding breach_of conflict_of
  of_kept k =
      let b10 = sym (breach_none 10 l m (λ i b. is_true (decides_10 l m i) (k.trains i b).rule10)) in
      let b11 = sym (breach_none 11 l m (λ i b. is_true (decides_11 l m i) (k.trains i b).rule11)) in
      let b12 = sym (breach_none 12 l m (λ i b. is_true (decides_12 l m i) (k.trains i b).rule12)) in
      let b18 = sym (breach_none 18 l m (λ i b. is_true (decides_18 l m i (within_runnable l w)) (k.trains i b).rule18)) in
      let b13 = sym (breach_none 13 l m (λ i b. is_true (decides_13 l m i) (k.rule13 i b))) in
      rw (b10, b11, b12, b18, b13, clear_segments k.rule14, clear_stations k.rule15) refl

  -- minutes in days are lawful exactly when no breach is found
  pub lawful_of : EachTrain l (InDays l m) → breach_of l m ≡ Ok tt → Lawful l m
  lawful_of h e =
      let k = kept_of e in
      record { days = h; trains = k.trains; rule13 = k.rule13; rule14 = k.rule14; rule15 = k.rule15 }

  pub of_lawful : Lawful l m → breach_of l m ≡ Ok tt
  of_lawful h =
      of_kept record { trains = h.trains; rule13 = h.rule13; rule14 = h.rule14; rule15 = h.rule15 }
