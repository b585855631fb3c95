-- The ways out of a conflict, whichever it is: the minutes go none of them, and every lawful timetable goes one. Where the lowest has none there is no
-- conflict.
use Rattle.std.specs.Prelude.{ℕ, ◌+◌, ◌*◌, ◌/◌, ◌%◌, ◌≤◌, ◌<◌, ◌≡◌, refl, ◌⊎◌, Bool, cond, ◌&&◌, ltb, eqb, Option, Some, None}
use Rattle.std.proofs.Common.{sym, ap, ◌∙◌, subst, ⊎_elim}
use Rattle.std.proofs.Math.Logic.{inl, inr}
use Rattle.std.proofs.Math.Bool.{true, false}
use Rattle.std.proofs.Math.Option.{Option as Maybe, some, none}
use mathlib.Core.List.Memᴰ
use mathlib.Core.List.{List, [], ◌∷◌, Memᴰ}
use native.Mathlib.Omega.{arith}
use Rattle.finite.specs.EachLaws.{each_at}
use Rattle.finite.specs.Decide.{Decides}
use Rattle.finite.specs.DecideLaws.{is_true, decides_self, decides_and, decides_not, decides_lt, decides_eq}
use Rattle.finite.specs.Below.{gather, IsFirst, first, count}
use Rattle.finite.specs.LoopLaws.{first_is}
use Rattle.finite.specs.BelowLaws.{count_nth, gather_in, gather-from}
use Rattle.line.specs.declared.Line.{Line}
use Rattle.line.specs.Ranges.{In, tracks}
use Rattle.line.specs.Within.{Within, Arrays}
use Rattle.rules.specs.declared.conflicts.Conflict.{Conflict}
use Rattle.rules.specs.declared.conflicts.SegmentConflict.{SegmentConflict}
use Rattle.rules.specs.declared.conflicts.StationConflict.{StationConflict}
use Rattle.rules.specs.Statement.Paths.{train, Middle}
use Rattle.rules.specs.Statement.Minutes.{departs_on, arrives_on}
use Rattle.rules.specs.Statement.Rules.{Lawful, came, goes}
use Rattle.rules.specs.StatementLaws.PathsLaws.{middle-legs}
use Rattle.rules.specs.Check.RulesLaws.{room_most}
use Rattle.rules.specs.Conflict.Conflicts.{conflict_of}
use Rattle.rules.specs.Scan.StandingLaws.{Largest, largest}
use Rattle.orders.specs.Plan.Bits.{in_mask}
use Rattle.orders.specs.Plan.Choices.{Choice, on_segment, at_station, Of, Shared, KeepsChoice}
use Rattle.plans.specs.Conflict.Ways.{two_of, way_of, way_count, ways_of, ways}
use Rattle.plans.specs.Conflict.RealConflicts.{Crowded, Real}
use Rattle.plans.specs.Conflict.RealConflictsLaws.{conflict_real}

-- ---- which the ways are

module _ (x : SegmentConflict) where
  abbrev lower_first : Choice
  lower_first = on_segment x.segment x.lower x.higher

  abbrev higher_first : Choice
  higher_first = on_segment x.segment x.higher x.lower

  lower_way : Memᴰ lower_first (ways_of (Some (Conflict.OnSegment x)))
  unfolding ways_of way_of
  lower_way = gather_in (way_of (Some (Conflict.OnSegment x))) 2 0 (omega arith) (Memᴰ.head refl)

  higher_way : Memᴰ higher_first (ways_of (Some (Conflict.OnSegment x)))
  unfolding ways_of way_of
  higher_way = gather_in (way_of (Some (Conflict.OnSegment x))) 2 1 (omega arith) (Memᴰ.head refl)

  way_order : (c : Choice) → Memᴰ c (ways_of (Some (Conflict.OnSegment x))) → (c ≡ lower_first) ⊎ (c ≡ higher_first)
  unfolding ways_of way_of
  way_order c k = let r = gather-from (way_of (Some (Conflict.OnSegment x))) 2 k in go (eqb r.0 0) r.2
    where
      go : (b : Bool) → Memᴰ c (cond b (lower_first ∷ []) (higher_first ∷ [])) → (c ≡ lower_first) ⊎ (c ≡ higher_first)
      go true (Memᴰ.head e) = inl e
      go true (Memᴰ.tail k) = absurd (Memᴰ.not-nil k)
      go false (Memᴰ.head e) = inr e
      go false (Memᴰ.tail k) = absurd (Memᴰ.not-nil k)

-- the member of a list that a test lets have one
in_when : {A : Type 0} {x : A} (b : Bool) (y : A) → Memᴰ x (cond b (y ∷ []) []) → (b ≡ true) × (x ≡ y)
in_when true y (Memᴰ.head e) = (refl, e)
in_when true y (Memᴰ.tail k) = absurd (Memᴰ.not-nil k)
in_when false y k = absurd (Memᴰ.not-nil k)

module _ (x : StationConflict) where
  abbrev Has : ℕ → Type 0
  Has i = in_mask x.trains i ≡ true

  decides_two : (a b : ℕ) → Decides (Has a × (Has b × (a ≡ b → ⊥))) (two_of x.trains a b)
  decides_two a b = decides_and (decides_self _) (decides_and (decides_self _) (decides_not (decides_eq a b)))

  -- each way at a station is between two of its trains
  way-pair : (c : Choice) → Memᴰ c (ways_of (Some (Conflict.AtStation x))) → (a : ℕ) × (b : ℕ) × (c ≡ at_station x.station a b) × Has a × Has b
  unfolding ways_of way_of
  way-pair c k =
      let r = gather-from (way_of (Some (Conflict.AtStation x))) 144 k in
      let w = in_when _ _ r.2 in
      let d = (decides_two (r.0 / 12) (r.0 % 12)).yea w.0 in
      (r.0 / 12, r.0 % 12, w.1, d.0, d.1.0)

  -- and each such pair is a way
  pair-way : (a b : ℕ) → a < 12 → b < 12 → Has a → Has b → (a ≡ b → ⊥) → Memᴰ (at_station x.station a b) (ways_of (Some (Conflict.AtStation x)))
  unfolding ways_of way_of
  pair-way a b g h u v n =
      let q : (12 * a + b) / 12 ≡ a = omega arith in
      let r : (12 * a + b) % 12 ≡ b = omega arith in
      gather_in (way_of (Some (Conflict.AtStation x))) 144 (12 * a + b) (omega arith) (rw (q, r, is_true (decides_two a b) (u, (v, n))) (Memᴰ.head refl))

-- ---- the minutes go none of them

-- it is a choice of the line that the minutes do not keep
abbrev pub NotKept : Line → List ℕ → Choice → Type 0
NotKept l m c = Of l c × Shared l c × (KeepsChoice l m c → ⊥)

pub not_kept : (l : Line) (m : List ℕ) (c : Option Conflict) → Real l m c → (w : Choice) → Memᴰ w (ways_of c) → NotKept l m w
unfolding ways_of
not_kept l m None h w k = let r = gather-from (way_of None) 0 k in absurd (omega (arith, r.1))
not_kept l m (Some (Conflict.OnSegment x)) h w k =
    let (i, j) = h.trains in
    let (u, v) = h.shared in
    ⊎_elim
    (λ e. subst (NotKept l m) (sym e) ((h.place, i, j), (u, v), λ n. h.neither (inl n)))
    (λ e. subst (NotKept l m) (sym e) ((h.place, j, i), (v, u), λ n. h.neither (inr n)))
    (way_order x w k)
not_kept l m (Some (Conflict.AtStation x)) h w k =
    let (a, b, e, u, v) = way-pair x w k in
    let (i, p) = h.trains a u in
    let (j, q) = h.trains b v in
    subst (NotKept l m) (sym e) ((h.place, i, j), (p.0, q.0), λ n. omega (arith, p.1.1, q.1.0))

module _ (l : Line) (w : Within l) (r : Arrays l) (m : List ℕ) where
  -- ---- with no way left there is no conflict

  -- a crowd is of two trains or more, as every station has a track
  crowd-way : (x : StationConflict) → Crowded l m x → (c : Choice) × Memᴰ c (ways_of (Some (Conflict.AtStation x)))
  crowd-way x h =
      let track = each_at (In tracks) l.track.station_count l.track.tracks x.station 0 (omega (arith, r.tracks, w.stations.1)) h.place w.tracks in
      let f = in_mask x.trains in
      let a = count_nth f l.traffic.train_count 0 (omega (arith, h.many)) in
      let b = count_nth f l.traffic.train_count 1 (omega (arith, h.many, track.0)) in
      let few = w.trains.1 in
      let apart : (a.0 ≡ b.0 → ⊥) = λ e. omega (arith, a.3, b.3, ap (count f) e) in
      (at_station x.station a.0 b.0, pair-way x a.0 b.0 (omega (arith, a.1)) (omega (arith, b.1)) a.2 b.2 apart)

  no_conflict : (c : Option Conflict) → Real l m c → ways_of c ≡ [] → c ≡ None
  no_conflict None h q = refl
  no_conflict (Some (Conflict.OnSegment x)) h q = absurd (Memᴰ.not-nil (rw q at (lower_way x)))
  no_conflict (Some (Conflict.AtStation x)) h q = absurd (Memᴰ.not-nil (rw q at (crowd-way x h).1))

  pub ways_none : ways l m ≡ [] → conflict_of l m ≡ None
  unfolding ways
  ways_none = no_conflict (conflict_of l m) (conflict_real l w r m)

  -- ---- a lawful timetable goes one of the ways

  module _ (m' : List ℕ) (lawful : Lawful l m') where
    -- by rule 12 no train leaves a station before it came, and it comes within the two days
    stays : (s i : ℕ) → i < l.traffic.train_count → Middle (train l i) s → (came l m' s i ≤ goes l m' s i) × (came l m' s i ≤ 2879)
    stays s i n h =
        let (k, b, e, f) = middle-legs (train l i) s h in
        let stop = (lawful.trains i n).rule12 k (omega arith) in
        let day = (lawful.days i n k (omega arith)).1 in
        let came-at = ap (λ (p : ℕ). arrives_on m' p i) e in
        let Goes-at = ap (λ (p : ℕ). departs_on m' p i) f in
        (omega (arith, stop, came-at, Goes-at), omega (arith, day, came-at))

    -- Of the crowd, the last to come at m' comes after another has left: else all of them stand there when it comes.
    crowd-goes : (x : StationConflict) → Crowded l m x → (a : ℕ) × (b : ℕ) × Has x a × Has x b × (goes l m' x.station a < came l m' x.station b)
    crowd-goes x h = go (first f n) (first_is f n)
      where
        n : ℕ
        n = l.traffic.train_count

        s : ℕ
        s = x.station

        last : Largest (came l m' s) (in_mask x.trains) n
        last =
            let i = count_nth (in_mask x.trains) n 0 (omega (arith, h.many)) in
            largest (came l m' s) (in_mask x.trains) n i.0 i.1 i.2

        b : ℕ
        b = last.who

        f : ℕ → Bool
        f a = in_mask x.trains a && ltb (goes l m' s a) (came l m' s b)

        d : (a : ℕ) → Decides (Has x a × (goes l m' s a < came l m' s b)) (f a)
        d a = decides_and (decides_self _) (decides_lt _ _)

        go : (o : Maybe ℕ) → IsFirst f n o → (a : ℕ) × (b : ℕ) × Has x a × Has x b × (goes l m' s a < came l m' s b)
        go (some a) q = let c = (d a).yea q.1 in (a, b, c.0, last.passes, c.1)
        go none q =
            let day = (stays s b last.below (h.trains b last.passes).1.0).1 in
            let most = room_most l m' s (lawful.rule15 s h.place) (came l m' s b) (omega (arith, day)) (in_mask x.trains) (λ a k c.
            let g : ¬ (goes l m' s a < came l m' s b) = λ y. (d a).nay (q a k) (c, y) in
            ((h.trains a c).1.0, (last.most a k c, omega arith))) in
            absurd (omega (arith, h.many, most))

    pub goes_of : (c : Option Conflict) → Real l m c → (c ≡ None → ⊥) → (v : Choice) × Memᴰ v (ways_of c) × Of l v × KeepsChoice l m' v
    goes_of None h n = absurd (n refl)
    goes_of (Some (Conflict.OnSegment x)) h n =
        let (i, j) = h.trains in
        ⊎_elim
        (λ o. (lower_first x, lower_way x, (h.place, i, j), o))
        (λ o. (higher_first x, higher_way x, (h.place, j, i), o))
        (lawful.rule14 x.segment h.place x.lower i x.higher j h.order h.shared.0 h.shared.1)
    goes_of (Some (Conflict.AtStation x)) h n =
        let (a, b, u, v, q) = crowd-goes x h in
        let i = h.trains a u in
        let j = h.trains b v in
        let few = w.trains.1 in
        let apart : (a ≡ b → ⊥) = λ e. omega (arith, q, (stays x.station a i.0 i.1.0).0, ap (came l m' x.station) e) in
        (at_station x.station a b, pair-way x a b (omega (arith, i.0)) (omega (arith, j.0)) u v apart, (h.place, i.0, j.0), q)

-- ---- all ways out of the lowest conflict

pub all_ways : (l : Line) (m : List ℕ) (conflict : Option Conflict) → conflict ≡ conflict_of l m → (n : ℕ) → n ≡ way_count conflict →
    ways l m ≡ gather (way_of conflict) n
unfolding ways ways_of
all_ways l m conflict is n n-is = sym (ap (gather (way_of conflict)) n-is ∙ ap ways_of is)

pub no_ways : (l : Line) (m : List ℕ) (conflict : Option Conflict) → conflict ≡ conflict_of l m → way_count conflict ≡ 0 → ways l m ≡ []
unfolding gather
no_ways l m conflict is empty = all_ways l m conflict is 0 (sym empty)

-- each way has a number
pub way-number : (conflict : Option Conflict) (c : Choice) → Memᴰ c (ways_of conflict) → (k : ℕ) × (k < way_count conflict) × Memᴰ c (way_of conflict k)
unfolding ways_of
way-number conflict c there = gather-from (way_of conflict) (way_count conflict) there
