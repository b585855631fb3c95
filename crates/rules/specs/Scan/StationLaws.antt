-- Laws of rule 15: when a train stands at a station, the earliest crowded minute by arrivals alone, the mask of the crowd, and the lowest station with
-- a conflict. Assumes nothing.
use Rattle.std.specs.Prelude.{◌≡◌, ℕ, zero, suc, ◌+◌, ◌-◌, ◌*◌, ◌^◌, ◌<◌, ◌≤◌, Bool, true, false, cond, ◌&&◌, ltb, List, length, ◌≢◌, nat_le, nat_lt, slice_index, slice_index_or, Option, Some, None}
use Rattle.std.proofs.Math.Path.{refl, sym, ap}
use Rattle.std.proofs.Common.{◌∙◌, subst, pow-suc, add-one, arith, pow_mono, below_more}
use Rattle.std.proofs.Math.Decide.{dec_lt}
use Rattle.std.specs.Bool.{then_some}
use Rattle.std.proofs.Math.Option.{Option as Maybe, some, none}
use borrow.Author.Tests.{lt-ltb, le-ltb, le-leb, lt-leb, eq-eqb, ne_eqb, ltb-false}
use Rattle.finite.specs.Decide.{Decides}
use Rattle.finite.specs.DecideLaws.{is_false, decides_as, decides_and, decides_lt, decides_le, decides_self}
use Rattle.finite.specs.Below.{EachBelow, count, sum}
use Rattle.finite.specs.LoopLaws.{each_more, first_found, first_none, none_first, sum_more}
use Rattle.finite.specs.BelowLaws.{table_size_lem, count_lowest}
use Rattle.line.specs.declared.Segment.{Segment}
use Rattle.line.specs.declared.Line.{Line}
use Rattle.line.specs.Record.{no_segment}
use Rattle.rules.specs.declared.conflicts.Conflict.{Conflict}
use Rattle.rules.specs.declared.conflicts.Layout.{Layout}
use Rattle.rules.specs.declared.stations.Stay.{Stay}
use Rattle.rules.specs.Statement.Minutes.{departs_on, arrives_on}
use Rattle.rules.specs.Conflict.Directions.{direction_entry, directions_of, way}
use Rattle.rules.specs.Conflict.Conflicts.{or_conflict, first_conflict, clash, option_of, partner_of, pair_with, pair_on, came_to, leaves_from, passes, stay, stands_in, stands_at, standing_at, earliest_crowd, in_crowd, crowd_mask, crowd_at, crowd_on, station_conflict, segment_conflict, conflict_in}
use Rattle.rules.specs.Conflict.ConflictsLaws.{conflict_start, conflict_on, conflict_hit, NoSegment}
use Rattle.rules.specs.Scan.StandingLaws.{crowd-arrives}

-- ---- there is no first conflict exactly when there is none at any number

pub or_nothing : (c d : Option Conflict) → or_conflict c d ≡ None → (c ≡ None) × (d ≡ None)
or_nothing None d e = (refl, e)
or_nothing (Some x) d e = absurd (let z : ◌≡◌ {A = ℕ} 0 1 = cc in omega arith)

module _ (f : ℕ → Option Conflict) where
  pub conflict_none : (n : ℕ) → EachBelow n (λ i. f i ≡ None) → first_conflict f n ≡ None
  unfolding first_conflict
  conflict_none zero h = refl
  conflict_none (suc n) h = rw (conflict_none n (λ i l. h i (omega arith)), h n (omega arith))

  pub none_conflict : (n : ℕ) → first_conflict f n ≡ None → EachBelow n (λ i. f i ≡ None)
  unfolding first_conflict
  none_conflict zero e i l = absurd (omega arith)
  none_conflict (suc n) e i l =
      let h = or_nothing (first_conflict f n) (f n) e in
      each_more (λ i. f i ≡ None) n (none_conflict n h.0) h.1 i l

-- there is no pair on a segment exactly when no two trains are in conflict there
module _ (g : Segment) (ds m : List ℕ) (n p : ℕ) where
  abbrev pub NoClash : Type 0
  NoClash = EachBelow n (λ i. EachBelow n (λ j. clash g ds m p i j ≡ false))

  pub none_clash : pair_on g ds m n p ≡ None → NoClash
  unfolding pair_on partner_of
  none_clash e i a = none_first (clash g ds m p i) n (nobody i _ (none_conflict _ n e i a))
    where
      nobody : (i : ℕ) (o : Maybe ℕ) → pair_with p i (option_of o) ≡ None → o ≡ none
      nobody i none q = refl
      nobody i (some j) q = let z : ◌≡◌ {A = ℕ} 0 1 = cc in absurd (omega arith)

  pub clash_none : NoClash → pair_on g ds m n p ≡ None
  unfolding pair_on partner_of
  clash_none h = conflict_none _ n (λ i a. ap (λ (o : Maybe ℕ). pair_with p i (option_of o)) (first_none (clash g ds m p i) n (h i a)))

-- where no segment below a number has a pair, each of them has none
pub segment_each : (gs : List Segment) (ds m : List ℕ) (n segments : ℕ) → NoSegment gs ds m n segments →
    EachBelow segments (λ p. pair_on (slice_index_or gs p no_segment) ds m n p ≡ None)
unfolding segment_conflict
segment_each gs ds m n segments e = none_conflict _ segments e

-- ---- when a train stands at a station

-- where the station is a middle one of its path, by its way over the segment after it
module _ (ds m : List ℕ) (s i c l : ℕ) (middle : passes ds s i ≡ true) where
  pub stay-outbound : way ds s i ≡ 1 → c ≡ arrives_on m (s - 1) i → l ≡ departs_on m s i → Some (record { came = c; leaves = l }) ≡ stay ds m s i
  stay-outbound o f g = rw (middle, eq-eqb (way ds s i) 1 o) (λ k. Some (record { came = f k; leaves = g k }))

  pub stay_inbound : (way ds s i ≢ 1) → c ≡ arrives_on m s i → l ≡ departs_on m (s - 1) i → Some (record { came = c; leaves = l }) ≡ stay ds m s i
  stay_inbound o f g = rw (middle, ne_eqb (way ds s i) 1 o) (λ k. Some (record { came = f k; leaves = g k }))

-- and where it is not
pub stay_none : (ds m : List ℕ) (s i : ℕ) → passes ds s i ≡ false → None ≡ stay ds m s i
stay_none ds m s i e = rw e

-- when it stands
module _ (ds m : List ℕ) (s t i : ℕ) where
  pub stands_middle : stands_at ds m s t i ≡ (passes ds s i && (nat_le (came_to ds m s i) t && nat_le t (leaves_from ds m s i)))
  unfolding stands_in
  stands_middle = go (passes ds s i)
    where
      go : (b : Bool) → stands_in (cond b (Some (record { came = came_to ds m s i; leaves = leaves_from ds m s i })) None) t
          ≡ (b && (nat_le (came_to ds m s i) t && nat_le t (leaves_from ds m s i)))
      go true = refl
      go false = refl

  decides_stands : Decides ((passes ds s i ≡ true) × (came_to ds m s i ≤ t) × (t ≤ leaves_from ds m s i)) (stands_at ds m s t i)
  decides_stands =
      rw stands_middle
      (decides_as (λ h. (h.0, h.1.0, h.1.1)) (λ h. (h.0, (h.1, h.2)))
      (decides_and (decides_self (passes ds s i)) (decides_and (decides_le (came_to ds m s i) t) (decides_le t (leaves_from ds m s i)))))

-- a stay, or none
module _ (x : Stay) (t : ℕ) where
  pub stands_last : (r : Bool) → x.came ≤ t → r ≡ nat_le t x.leaves → r ≡ stands_in (Some x) t
  unfolding stands_in
  stands_last r c e = rw (le-leb x.came t c) e

  pub stands_early : t < x.came → false ≡ stands_in (Some x) t
  unfolding stands_in
  stands_early c = rw (lt-leb x.came t c)

pub stands_elsewhere : (t : ℕ) → false ≡ stands_in None t
unfolding stands_in
stands_elsewhere t = refl

pub stands_here : (x y : Option Stay) (t : ℕ) (r : Bool) → x ≡ y → r ≡ stands_in x t → stands_in y t ≡ r
stands_here x y t r e h = ap (λ (z : Option Stay). stands_in z t) (sym e) ∙ sym h

-- ---- the earliest crowded minute: only the minutes of arrivals need a look

-- e is the earliest crowded minute below 2880 among the arrivals of the trains below i, or 2880
pub record Earliest (ds m : List ℕ) (n tracks s i e : ℕ) : Type 0 where
  pub within : e ≤ 2880
  pub crowded : e < 2880 → tracks < standing_at ds m n s e
  pub least : EachBelow i (λ k. passes ds s k ≡ true → tracks < standing_at ds m n s (came_to ds m s k) → e ≤ came_to ds m s k)

module _ (ds m : List ℕ) (n tracks s : ℕ) where
  pub earliest_start : Earliest ds m n tracks s 0 2880
  earliest_start = record { within = omega arith; crowded = λ l. absurd (omega arith); least = λ k l. absurd (omega arith) }

  -- c is when train i comes, where it stops there: that is no earlier crowded minute, or it is one
  module _ (i e c : ℕ) (comes : passes ds s i ≡ true → c ≡ came_to ds m s i) (h : Earliest ds m n tracks s i e) where
    pub earliest_on : (tracks < standing_at ds m n s c → e ≤ c) → Earliest ds m n tracks s (i + 1) e
    earliest_on k = record {
      within = h.within;
      crowded = h.crowded;
      least = below_more (λ j. passes ds s j ≡ true → tracks < standing_at ds m n s (came_to ds m s j) → e ≤ came_to ds m s j) i h.least
          (λ p. subst (λ (t : ℕ). tracks < standing_at ds m n s t → e ≤ t) (comes p) k);
    }

  pub earliest_sooner : (i e c : ℕ) → (passes ds s i ≡ true → c ≡ came_to ds m s i) → Earliest ds m n tracks s i e → c < e →
      tracks < standing_at ds m n s c → Earliest ds m n tracks s (i + 1) c
  earliest_sooner i e c comes h l k =
      earliest_on i c c comes
      record { within = omega (arith, h.within); crowded = λ _. k; least = λ j o p d. omega (arith, h.least j o p d) }
      (λ _. omega arith)

  -- before the earliest crowded arrival no minute is crowded
  few_before : (i e : ℕ) → n ≤ i → Earliest ds m n tracks s i e → EachBelow e (λ t. nat_lt tracks (standing_at ds m n s t) ≡ false)
  unfolding standing_at
  few_before i e b h t l = is_false (decides_lt tracks (standing_at ds m n s t)) (λ q.
      let a = crowd-arrives (λ i. passes ds s i ≡ true) (came_to ds m s) (leaves_from ds m s) (stands_at ds m s)
      (λ t i. decides_stands ds m s t i) n t tracks q in
      omega (arith, a.3, h.least a.0 (omega (arith, a.1)) a.2 a.4))

  pub earliest_minute : (i e : ℕ) → n ≤ i → e < 2880 → Earliest ds m n tracks s i e → Some e ≡ earliest_crowd ds m n tracks s
  unfolding earliest_crowd
  earliest_minute i e b l h =
      sym (ap option_of (first_found (λ t. ltb tracks (standing_at ds m n s t)) 2880 e l (lt-ltb _ _ (h.crowded l)) (few_before i e b h)))

  pub earliest_never : (i e : ℕ) → n ≤ i → 2880 ≤ e → Earliest ds m n tracks s i e → None ≡ earliest_crowd ds m n tracks s
  unfolding earliest_crowd
  earliest_never i e b l h =
      sym (ap option_of (first_none (λ t. ltb tracks (standing_at ds m n s t)) 2880 (λ t o. few_before i e b h t (omega arith))))

  pub earliest_told : (i e : ℕ) → n ≤ i → Earliest ds m n tracks s i e → then_some (ltb e 2880) e ≡ earliest_crowd ds m n tracks s
  earliest_told i e b h = elim (dec_lt e 2880) [
    | yes l ↦ rw (lt-ltb e 2880 l) (earliest_minute i e b l h)
    | no l ↦ rw (le-ltb e 2880 (omega arith)) (earliest_never i e b (omega arith) h)
  ]

  -- there is none exactly when at no minute of the two days more stand than there are tracks
  pub never_crowded : earliest_crowd ds m n tracks s ≡ None → EachBelow 2880 (λ t. standing_at ds m n s t ≤ tracks)
  unfolding earliest_crowd
  never_crowded e t l = ltb-false _ _ (none_first (λ t. ltb tracks (standing_at ds m n s t)) 2880 (no_minute _ e) t l)
    where
      no_minute : (o : Maybe ℕ) → option_of o ≡ None → o ≡ none
      no_minute none e = refl
      no_minute (some t) e = absurd (let z : ◌≡◌ {A = ℕ} 0 1 = cc in omega arith)

  pub crowded_never : EachBelow 2880 (λ t. standing_at ds m n s t ≤ tracks) → earliest_crowd ds m n tracks s ≡ None
  unfolding earliest_crowd
  crowded_never h = ap option_of (first_none (λ t. ltb tracks (standing_at ds m n s t)) 2880 (λ t l. le-ltb _ _ (h t l)))

-- ---- the mask of the crowd

module _ (ds m : List ℕ) (tracks s t i mask : ℕ) (e : mask ≡ crowd_mask ds m i tracks s t) where
  pub mask_out : stands_at ds m s t i ≡ false → mask ≡ crowd_mask ds m (i + 1) tracks s t
  unfolding crowd_mask in_crowd
  mask_out h = rw (sum_more, h) (omega arith)

  pub mask_in : (bit k : ℕ) → stands_at ds m s t i ≡ true → k ≡ count (stands_at ds m s t) i → k ≤ tracks → bit ≡ 2 ^ i →
      mask + bit ≡ crowd_mask ds m (i + 1) tracks s t
  unfolding crowd_mask in_crowd
  mask_in bit k h c l b = rw (sum_more, h, le-leb (count (stands_at ds m s t) i) tracks (omega arith)) (omega arith)

  pub mask_full : (k : ℕ) → stands_at ds m s t i ≡ true → k ≡ count (stands_at ds m s t) i → tracks < k → mask ≡ crowd_mask ds m (i + 1) tracks s t
  unfolding crowd_mask in_crowd
  mask_full k h c l = rw (sum_more, h, lt-leb (count (stands_at ds m s t) i) tracks (omega arith)) (omega arith)

module _ (ds m : List ℕ) (n tracks s t : ℕ) where
  -- it has the bits of the trains in the crowd
  pub mask_sum : crowd_mask ds m n tracks s t ≡ sum (λ i. cond (in_crowd ds m tracks s t i) (2 ^ i) 0) n
  unfolding crowd_mask
  mask_sum = refl

  -- each of them stands there
  pub crowd-stands : (i : ℕ) → in_crowd ds m tracks s t i ≡ true → stands_at ds m s t i ≡ true
  unfolding in_crowd
  crowd-stands i e = ((decides_and (decides_self (stands_at ds m s t i)) (decides_le (count (stands_at ds m s t) i) tracks)).yea e).0

  -- "one more train than tracks", where more stand there
  pub crowd-many : tracks < standing_at ds m n s t → count (in_crowd ds m tracks s t) n ≡ tracks + 1
  unfolding in_crowd standing_at
  crowd-many h = omega (arith, count_lowest (stands_at ds m s t) n tracks)

pub mask_start : (ds m : List ℕ) (tracks s t : ℕ) → 0 ≡ crowd_mask ds m 0 tracks s t
unfolding crowd_mask sum
mask_start ds m tracks s t = refl

pub bit-next : (bit i : ℕ) → bit ≡ 2 ^ i → bit * 2 ≡ 2 ^ (i + 1)
bit-next bit i e = rw (add-one, pow-suc, ← e)

pub bit_small : (bit i : ℕ) → bit ≡ 2 ^ i → i ≤ 12 → bit ≤ 4096
bit_small bit i e l = omega (arith, pow_mono {i = i} {j = 12} l)

-- ---- the conflict at a station

module _ (ds m : List ℕ) (n tracks s : ℕ) where
  pub crowd_never : earliest_crowd ds m n tracks s ≡ None → None ≡ crowd_at ds m n tracks s (earliest_crowd ds m n tracks s)
  crowd_never e = sym (ap (crowd_at ds m n tracks s) e)

  pub crowd_minute : (t mask : ℕ) → earliest_crowd ds m n tracks s ≡ Some t → mask ≡ crowd_mask ds m n tracks s t →
      Some (Conflict.AtStation (record { station = s; minute = t; trains = mask })) ≡ crowd_at ds m n tracks s (earliest_crowd ds m n tracks s)
  crowd_minute t mask e q = ap (λ (x : ℕ). Some (Conflict.AtStation (record { station = s; minute = t; trains = x }))) q ∙ sym (ap (crowd_at ds m n tracks s) e)

-- ---- the lowest station with a conflict

-- the first and the last station of the line have none
module _ (tracks ds m : List ℕ) (stations n s : ℕ) where
  pub crowd-middle : 0 < s → s + 1 < stations → crowd_on tracks ds m stations n s ≡ crowd_at ds m n (slice_index tracks s) s (earliest_crowd ds m n (slice_index tracks s) s)
  unfolding crowd_on
  crowd-middle l k = rw (lt-ltb 0 s l, lt-ltb (s + 1) stations k)

  pub crowd-first : s ≡ 0 → crowd_on tracks ds m stations n s ≡ None
  unfolding crowd_on
  crowd-first e = rw (le-ltb 0 s (omega arith))

  pub crowd_last : stations ≤ s + 1 → crowd_on tracks ds m stations n s ≡ None
  unfolding crowd_on
  crowd_last l = rw (is_false (decides_and (decides_lt 0 s) (decides_lt (s + 1) stations)) (λ h. omega (arith, h.1)))

module _ (tracks ds m : List ℕ) (stations n : ℕ) where
  -- no station below s has a conflict
  abbrev pub NoCrowd : ℕ → Type 0
  NoCrowd s = first_conflict (crowd_on tracks ds m stations n) s ≡ None

  pub station-start : NoCrowd 1
  station-start = conflict_on (crowd_on tracks ds m stations n) 0 (conflict_start (crowd_on tracks ds m stations n)) (crowd-first tracks ds m stations n 0 refl)

  module _ (s : ℕ) (x : Option Conflict) (below : NoCrowd s) (l : 0 < s) (k : s + 1 < stations)
      (e : x ≡ crowd_at ds m n (slice_index tracks s) s (earliest_crowd ds m n (slice_index tracks s) s)) where
    pub station-on : x ≡ None → NoCrowd (s + 1)
    station-on h = conflict_on (crowd_on tracks ds m stations n) s below (crowd-middle tracks ds m stations n s l k ∙ sym e ∙ h)

    pub station_found : ((c : Option Conflict) → or_conflict x c ≡ x) → x ≡ station_conflict tracks ds m stations n
    unfolding station_conflict
    station_found h = sym (conflict_hit (crowd_on tracks ds m stations n) stations s x (omega arith) below (crowd-middle tracks ds m stations n s l k ∙ sym e) h)

  pub station_none : (s : ℕ) → NoCrowd s → s + 1 ≡ stations → None ≡ station_conflict tracks ds m stations n
  unfolding station_conflict
  station_none s below q =
      sym (conflict_on (crowd_on tracks ds m stations n) s below (crowd_last tracks ds m stations n s (omega arith)))
      ∙ ap (first_conflict (crowd_on tracks ds m stations n)) q

-- ---- the lowest conflict: a segment's, else a station's

pub directions_size : (l : Line) (ds : List ℕ) → ds ≡ directions_of l → length ds ≡ 176
unfolding directions_of
directions_size l ds e = ap length e ∙ table_size_lem (direction_entry l) 176

module _ (y : Layout) (ds m : List ℕ) (x : Option Conflict) (e : x ≡ segment_conflict y.segments ds m (y.stations - 1) y.trains) where
  pub lowest_segment : ((c : Option Conflict) → or_conflict x c ≡ x) → x ≡ conflict_in y ds m
  unfolding conflict_in
  lowest_segment k = rw (← e) (sym (k _))

  pub lowest_station : (r : Option Conflict) → x ≡ None → r ≡ station_conflict y.tracks ds m y.stations y.trains → r ≡ conflict_in y ds m
  unfolding conflict_in
  lowest_station r k f = rw (← e, k) f
