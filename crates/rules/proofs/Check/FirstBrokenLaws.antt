-- The breach that is found is the first in the order of the papers (`first_broken`), there is no other such number and place (`broken_only`), and both have
-- their bounds (`broken_bounds`).
use Rattle.std.specs.Prelude.{◌≡◌, ℕ, zero, suc, ◌+◌, ◌<◌, ◌≤◌, Bool, not, ◌⊎◌, List, [], ◌∷◌, ◌≢◌, Option, Some, None, Result, Ok, Err, ⊤}
use Rattle.std.proofs.Math.Path.{refl, ap, subst⁻¹}
use Rattle.std.proofs.Common.{sym, ◌∙◌, subst, inl, inr, arith}
use Rattle.std.proofs.Math.Option.{Option as Maybe, some, none}
use Rattle.std.proofs.lemmas.Bool.{not-true, not-false}
use Rattle.finite.specs.Decide.{Decides}
use Rattle.finite.specs.Below.{EachBelow, first, IsFirst}
use Rattle.finite.specs.LoopLaws.{first_is}
use Rattle.text.specs.declared.Refusal.{Refusal}
use Rattle.text.specs.Reading.Told.{refusal}
use Rattle.line.specs.declared.Line.{Line}
use Rattle.line.specs.Within.{Within, Arrays}
use Rattle.line.specs.RunnableLaws.{within_runnable}
use Rattle.rules.specs.declared.conflicts.Conflict.{Conflict}
use Rattle.rules.specs.Statement.Paths.{segment_count, segment}
use Rattle.rules.specs.Statement.FirstBroken.{CheckedRule, early, run, stop, booked, late, gap, tracks, checked_order, number_of, places_of, HoldsAt, HoldsEverywhere, BrokenAt, FirstBroken}
use Rattle.rules.specs.Check.Tests.{keeps_rule}
use Rattle.rules.specs.Check.Breaches.{or_breach, at_train, train_breach, conflict_breach, breach_of}
use Rattle.rules.specs.Check.RulesLaws.{decides_10, decides_11, decides_12, decides_18, decides_13}
use Rattle.rules.proofs.Check.ExactLaws.{segment_clear, clear_segment, station_clear, clear_station}
use Rattle.rules.specs.Conflict.Conflicts.{or_conflict, first_conflict, pair_on, segment_conflict, crowd_on, station_conflict, conflict_of}
use Rattle.rules.specs.Conflict.LowestLaws.{OnlyOn, pair_only, OnlyAt, crowd_only}
use Rattle.rules.specs.Conflict.Directions.{directions_of}
use Rattle.rules.specs.Scan.StationLaws.{none_conflict}

-- ---- the first of several conflicts

abbrev Something : Option Conflict → Type 0
Something None = ⊥
Something (Some x) = Unit {0}

pub record FirstAt (f : ℕ → Option Conflict) (n : ℕ) : Type 0 where
  pub at : ℕ
  pub real : at < n
  pub is : first_conflict f n ≡ f at
  pub some : f at ≡ None → ⊥
  pub below : first_conflict f at ≡ None

first_at : (f : ℕ → Option Conflict) (n : ℕ) → (first_conflict f n ≡ None) ⊎ FirstAt f n
unfolding first_conflict
first_at f zero = inl refl
first_at f (suc n) = more (first_conflict f n) (f n) refl refl (first_at f n)
  where
    not-nothing : (c : Option Conflict) → Something c → c ≢ None
    not-nothing None s e = s
    not-nothing (Some x) s e = let z : ◌≡◌ {A = ℕ} 0 1 = cc in omega arith

    later : (c d : Option Conflict) → first_conflict f n ≡ c → f n ≡ d → Something d → c ≡ None → FirstAt f (suc n)
    later c d p q s e =
        record {
          at = n;
          real = omega arith;
          is = ap (λ (x : Option Conflict). or_conflict x (f n)) (p ∙ e);
          some = λ h. not-nothing d s (sym q ∙ h);
          below = p ∙ e;
        }

    earlier : (c : Option Conflict) → first_conflict f n ≡ c → Something c → (first_conflict f n ≡ None) ⊎ FirstAt f n → FirstAt f (suc n)
    earlier c p s (inl e) = absurd (not-nothing c s (sym p ∙ e))
    earlier c p s (inr w) =
        record { at = w.at; real = omega (arith, w.real); is = kept (first_conflict f n) (f n) (subst⁻¹ Something p s) ∙ w.is; some = w.some; below = w.below }
      where
        kept : (c d : Option Conflict) → Something c → or_conflict c d ≡ c
        kept None d s = absurd s
        kept (Some x) d s = refl

    more : (c d : Option Conflict) → first_conflict f n ≡ c → f n ≡ d → (first_conflict f n ≡ None) ⊎ FirstAt f n →
        (or_conflict (first_conflict f n) (f n) ≡ None) ⊎ FirstAt f (suc n)
    more None None p q h = inl (ap (λ (x : Option Conflict). or_conflict x (f n)) p ∙ q)
    more None (Some x) p q h = inr (later None (Some x) p q tt refl)
    more (Some x) d p q h = inr (earlier (Some x) p tt h)

-- ---- what an answer says of one rule, and of several in their order

module _ (l : Line) (m : List ℕ) where
  abbrev Says : CheckedRule → Result ⊤ Refusal → Type 0
  Says r (Ok _) = HoldsEverywhere l m r
  Says r (Err x) = BrokenAt l m r x.number x.place

  abbrev AllHold : List CheckedRule → Type 0
  AllHold [] = Unit {0}
  AllHold (r ∷ rs) = HoldsEverywhere l m r × AllHold rs

  abbrev SaysAll : List CheckedRule → Result ⊤ Refusal → Type 0
  SaysAll rs (Ok _) = AllHold rs
  SaysAll rs (Err x) = FirstBroken l m rs x.number x.place

  says_then : (r : CheckedRule) (rs : List CheckedRule) (a b : Result ⊤ Refusal) → Says r a → SaysAll rs b → SaysAll (r ∷ rs) (or_breach a b)
  says_then r rs (Ok _) (Ok _) h k = (h, k)
  says_then r rs (Ok _) (Err x) h k = inr (h, k)
  says_then r rs (Err x) b h k = inl h

  says_last : (r : CheckedRule) (a : Result ⊤ Refusal) → Says r a → SaysAll (r ∷ []) a
  says_last r (Ok _) h = (h, tt)
  says_last r (Err x) h = inl h

  -- ---- a rule of the trains

  train_says : (r : CheckedRule) → places_of l r ≡ l.traffic.train_count → ((i : ℕ) → Decides (HoldsAt l m r i) (keeps_rule (number_of r) l m i)) →
      Says r (train_breach (number_of r) l m)
  unfolding train_breach
  train_says r places decides = go (first fails l.traffic.train_count) (first_is fails l.traffic.train_count)
    where
      fails : ℕ → Bool
      fails i = not (keeps_rule (number_of r) l m i)

      go : (o : Maybe ℕ) → IsFirst fails l.traffic.train_count o → Says r (at_train (number_of r) o)
      go none h = λ i b. (decides i).yea (not-false _ (h i (omega (arith, places))))
      go (some i) h =
          record {
            index = i;
            number = refl;
            place = refl;
            real = omega (arith, places, h.0);
            lower = λ j b. (decides j).yea (not-false _ (h.2 j b));
            broken = λ k. (decides i).nay (not-true _ h.1) k;
          }

  -- ---- a rule of the conflicts: each place has its own conflict, or none where the rule holds

  pub record ByPlace (r : CheckedRule) (f : ℕ → Option Conflict) (i : ℕ) : Type 0 where
    pub holds : f i ≡ None → HoldsAt l m r i
    pub clear : HoldsAt l m r i → f i ≡ None
    pub told : (f i ≢ None) → conflict_breach (f i) ≡ refusal (number_of r) (i + 1)

  conflict_says : (r : CheckedRule) (f : ℕ → Option Conflict) → EachBelow (places_of l r) (ByPlace r f) → Says r (conflict_breach (first_conflict f (places_of l r)))
  conflict_says r f each = go (first_at f (places_of l r))
    where
      go : (first_conflict f (places_of l r) ≡ None) ⊎ FirstAt f (places_of l r) → Says r (conflict_breach (first_conflict f (places_of l r)))
      go (inl e) = subst⁻¹ (λ (c : Option Conflict). Says r (conflict_breach c)) e (λ i b. (each i b).holds (none_conflict f (places_of l r) e i b))
      go (inr w) =
          let here = each w.at w.real in
          subst⁻¹ (Says r) (ap conflict_breach w.is ∙ here.told w.some) (record {
            index = w.at;
            number = refl;
            place = refl;
            real = w.real;
            lower = λ j b. (each j (omega (arith, w.real))).holds (none_conflict f w.at w.below j b);
            broken = λ h. w.some (here.clear h);
          })

  or_told : (c d : Option Conflict) → conflict_breach (or_conflict c d) ≡ or_breach (conflict_breach c) (conflict_breach d)
  or_told None d = refl
  or_told (Some (Conflict.OnSegment x)) d = refl
  or_told (Some (Conflict.AtStation x)) d = refl

-- ---- the theorem

module _ (l : Line) (w : Within l) (a : Arrays l) (m : List ℕ) where
  abbrev n : ℕ
  n = l.traffic.train_count

  abbrev pair : ℕ → Option Conflict
  pair p = pair_on (segment l p) (directions_of l) m n p

  abbrev crowd : ℕ → Option Conflict
  crowd s = crowd_on l.track.tracks (directions_of l) m l.track.station_count n s

  segments_say : Says l m gap (conflict_breach (segment_conflict l.track.segments (directions_of l) m (segment_count l) n))
  unfolding segment_conflict
  segments_say =
      conflict_says l m gap pair (λ p b. record {
        holds = segment_clear l w a m p b;
        clear = clear_segment l w a m p b;
        told = λ real. told p (pair p) (pair_only (segment l p) (directions_of l) m n p) real;
      })
    where
      told : (p : ℕ) (c : Option Conflict) → OnlyOn p c → (c ≢ None) → conflict_breach c ≡ refusal 14 (p + 1)
      told p None o real = absurd (real refl)
      told p (Some (Conflict.OnSegment x)) o real = ap (λ (k : ℕ). refusal 14 (k + 1)) o
      told p (Some (Conflict.AtStation x)) o real = absurd o

  stations_say : Says l m tracks (conflict_breach (station_conflict l.track.tracks (directions_of l) m l.track.station_count n))
  unfolding station_conflict
  stations_say =
      conflict_says l m tracks crowd (λ s b. record {
        holds = station_clear l w a m s;
        clear = clear_station l w a m s;
        told = λ real. told s (crowd s) (crowd_only l.track.tracks (directions_of l) m l.track.station_count n s) real;
      })
    where
      told : (s : ℕ) (c : Option Conflict) → OnlyAt s c → (c ≢ None) → conflict_breach c ≡ refusal 15 (s + 1)
      told s None o real = absurd (real refl)
      told s (Some (Conflict.OnSegment x)) o real = absurd o
      told s (Some (Conflict.AtStation x)) o real = ap (λ (k : ℕ). refusal 15 (k + 1)) o

  abbrev on_segments : Option Conflict
  on_segments = segment_conflict l.track.segments (directions_of l) m (segment_count l) n

  abbrev at_stations : Option Conflict
  at_stations = station_conflict l.track.tracks (directions_of l) m l.track.station_count n

  conflicts_say : SaysAll l m (gap ∷ tracks ∷ []) (conflict_breach (conflict_of l m))
  unfolding conflict_of
  conflicts_say =
      subst⁻¹ (SaysAll l m (gap ∷ tracks ∷ [])) (or_told l m on_segments at_stations)
      (says_then l m gap (tracks ∷ []) (conflict_breach on_segments) (conflict_breach at_stations) segments_say
      (says_last l m tracks (conflict_breach at_stations) stations_say))

  all_say : SaysAll l m checked_order (breach_of l m)
  unfolding breach_of
  all_say =
      let b14 = conflict_breach (conflict_of l m) in
      let b13 = or_breach (train_breach 13 l m) b14 in
      let b18 = or_breach (train_breach 18 l m) b13 in
      let b12 = or_breach (train_breach 12 l m) b18 in
      says_then l m early (run ∷ stop ∷ booked ∷ late ∷ gap ∷ tracks ∷ []) (train_breach 10 l m) (or_breach (train_breach 11 l m) b12) (train_says l m early refl (decides_10 l m)) (
      says_then l m run (stop ∷ booked ∷ late ∷ gap ∷ tracks ∷ []) (train_breach 11 l m) b12 (train_says l m run refl (decides_11 l m)) (
      says_then l m stop (booked ∷ late ∷ gap ∷ tracks ∷ []) (train_breach 12 l m) b18 (train_says l m stop refl (decides_12 l m)) (
      says_then l m booked (late ∷ gap ∷ tracks ∷ []) (train_breach 18 l m) b13 (train_says l m booked refl (λ i. decides_18 l m i (within_runnable l w))) (
      says_then l m late (gap ∷ tracks ∷ []) (train_breach 13 l m) b14 (train_says l m late refl (decides_13 l m)) conflicts_say))))

  -- the breach that is found is the first that the minutes have
  pub first_broken : (k p : ℕ) → breach_of l m ≡ refusal k p → FirstBroken l m checked_order k p
  first_broken k p e = subst (SaysAll l m checked_order) e all_say

-- ---- there is one first breach at most

module _ (l : Line) (m : List ℕ) where
  same_place : (r : CheckedRule) (n p n' p' : ℕ) → BrokenAt l m r n p → BrokenAt l m r n' p' → (n ≡ n') × (p ≡ p')
  same_place r n p n' p' x y =
      let low : ¬ (x.index < y.index) = λ h. x.broken (y.lower x.index h) in
      let high : ¬ (y.index < x.index) = λ h. y.broken (x.lower y.index h) in
      (omega (arith, x.number, y.number), omega (arith, x.place, y.place))

  pub broken_only : (rs : List CheckedRule) (n p n' p' : ℕ) → FirstBroken l m rs n p → FirstBroken l m rs n' p' → (n ≡ n') × (p ≡ p')
  broken_only [] n p n' p' x y = absurd x
  broken_only (r ∷ rs) n p n' p' (inl x) (inl y) = same_place r n p n' p' x y
  broken_only (r ∷ rs) n p n' p' (inl x) (inr y) = absurd (x.broken (y.0 x.index x.real))
  broken_only (r ∷ rs) n p n' p' (inr x) (inl y) = absurd (y.broken (x.0 y.index y.real))
  broken_only (r ∷ rs) n p n' p' (inr x) (inr y) = broken_only rs n p n' p' x.1 y.1

-- ---- the bounds of number and place

places_most : (l : Line) → Within l → (r : CheckedRule) → places_of l r ≤ 12
places_most l w early = w.trains.1
places_most l w run = w.trains.1
places_most l w stop = w.trains.1
places_most l w booked = w.trains.1
places_most l w late = w.trains.1
places_most l w gap = omega (arith, w.stations.1)
places_most l w tracks = w.stations.1

number_bounds : (r : CheckedRule) → (10 ≤ number_of r) × (number_of r ≤ 18)
number_bounds early = (omega arith, omega arith)
number_bounds run = (omega arith, omega arith)
number_bounds stop = (omega arith, omega arith)
number_bounds booked = (omega arith, omega arith)
number_bounds late = (omega arith, omega arith)
number_bounds gap = (omega arith, omega arith)
number_bounds tracks = (omega arith, omega arith)

pub broken_bounds : (l : Line) (m : List ℕ) → Within l → (rs : List CheckedRule) (n p : ℕ) → FirstBroken l m rs n p → (10 ≤ n) × (n ≤ 18) × (1 ≤ p) × (p ≤ 12)
broken_bounds l m w [] n p x = absurd x
broken_bounds l m w (r ∷ rs) n p (inl x) =
    let b = number_bounds r in
    (omega (arith, x.number), omega (arith, x.number), omega (arith, x.place), omega (arith, x.place, x.real, places_most l w r))
broken_bounds l m w (r ∷ rs) n p (inr x) = broken_bounds l m w rs n p x.1
