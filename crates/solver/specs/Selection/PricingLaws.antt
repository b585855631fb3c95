-- The laws of pricing the ways out of a conflict: each is what one way out of a function, or one call in it, asks for.
use Rattle.std.specs.Prelude.{ℕ, zero, suc, ◌+◌, ◌≤◌, ◌<◌, ◌≡◌, refl, ◌⊎◌, Bool, true, false, cond, Option, Some, None, IfSome, is_some, length, get_or, set}
use Rattle.std.proofs.Common.{sym, ◌∙◌, ap, subst, inl, inr, ⊎_elim, arith, get_or-set_same, get_or-set_other}
use Rattle.std.proofs.lemmas.Bool.{false≢true}
use mathlib.Core.List.Memᴰ
use mathlib.Core.List.{List, [], ◌∷◌, Memᴰ}
use Rattle.std.proofs.Math.Decide.{dec_lt}
use Rattle.finite.specs.Below.{EachBelow, count}
use Rattle.finite.specs.LoopLaws.{count_grows}
use Rattle.line.specs.declared.Line.{Line}
use Rattle.line.specs.Within.{Within, Arrays}
use Rattle.rules.specs.declared.conflicts.Conflict.{Conflict}
use Rattle.orders.specs.Plan.Bits.{with_bit}
use Rattle.orders.specs.Plan.Choices.{Choice}
use Rattle.plans.specs.Conflict.Ways.{way_of, way_count}
use Rattle.plans.specs.Clauses.WaysTold.{Tells, TellsWay, Steps, InRange}
use Rattle.plans.specs.Conflict.RealConflicts.{Real}
use Rattle.plans.specs.Clauses.Choosing.{Planned, NoRaise, RaisesChoice}
use Rattle.plans.proofs.Clauses.TryingLaws.{way_there, way_absent, range_of, way_of_real, put_back}
use Rattle.plans.proofs.Clauses.NextPlansLaws.{way_raises}
use Rattle.plans.specs.declared.day.Day.{Day}
use Rattle.plans.specs.declared.ways.Way.{Way}
use Rattle.solver.specs.Selection.Pricing.{Prices, DeadBelow, PricesBelow, Cheapest, untried}

pub planned_after : (l : Line) (m marks marks' : List ℕ) (cost : ℕ) → marks' ≡ marks → Planned l marks m cost → Planned l marks' m cost
planned_after l m marks marks' cost same p = subst (λ (q : List ℕ). Planned l q m cost) (sym same) p

-- what raising says is the price
pub priced : (m marks : List ℕ) (d : Day) (way : Way) (cost cut v : ℕ) → v ≡ with_bit way.second (get_or marks way.row 0) →
    (q n : List ℕ) (r : Option ℕ) → q ≡ m → RaisesChoice q (set marks way.row v) d.tables d.ds way cost cut n r →
    Prices m marks d way cost cut (set (set marks way.row v) way.row (get_or marks way.row 0)) r
priced m marks d way cost cut v v-is q n r same h =
    record {
      marks_same = put_back marks way.row v;
      dead = λ l c tabled planned i e. (way_raises l m marks d.tables d.ds cost tabled planned c way i v v-is q same cut n r h).none e;
    }

-- ---- entries of a list

-- an entry after a store
pub set_cases : (xs : List (Option ℕ)) (i : ℕ) (v : Option ℕ) (k : ℕ) →
    ((k ≡ i) × (get_or (set xs i v) k None ≡ v)) ⊎ (get_or (set xs i v) k None ≡ get_or xs k None)
set_cases [] i v k = inr refl
set_cases (x ∷ xs) zero v zero = inl (refl, refl)
set_cases (x ∷ xs) zero v (suc k) = inr refl
set_cases (x ∷ xs) (suc i) v zero = inr refl
set_cases (x ∷ xs) (suc i) v (suc k) = ⊎_elim (λ h. inl (ap suc h.0, h.1)) (λ h. inr h) (set_cases xs i v k)

pub only : {c d : Choice} → Memᴰ d (c ∷ []) → d ≡ c
only (Memᴰ.head e) = e
only (Memᴰ.tail k) = absurd (Memᴰ.not-nil k)

-- ---- the ways one by one

-- the numbers of a conflict, if there is one, are in range
pub range_if : (l : Line) → Within l → Arrays l → (m : List ℕ) (c : Option Conflict) → Real l m c → IfSome c InRange
range_if l w a m None real = tt
range_if l w a m (Some c) real = range_of l w a m c real

-- whatever a dead price says of a choice
module _ (D : Choice → Type 0) (ds : List ℕ) (conflict : Option Conflict) (w : ℕ) (prices : List (Option ℕ)) (h : DeadBelow D conflict w prices)
    (step : ℕ) (steps : Steps conflict w step) where
  -- there is no way of this number, nor of any before the next
  pub dead_skip : TellsWay ds (way_of conflict w) None → DeadBelow D conflict (w + step) prices
  dead_skip tells k b dead c there = elim (dec_lt k w) [
    | yes o ↦ h k o dead c there
    | no o ↦ absurd (Memᴰ.not-nil (subst (Memᴰ c) (nothing_at k (omega arith) b) there))
  ]
    where
      nothing_at : (k : ℕ) → w ≤ k → k < w + step → way_of conflict k ≡ []
      nothing_at k a b = elim (dec_lt w k) [
        | yes o ↦ steps.none_between k o b
        | no o ↦ (let e : k ≡ w = omega arith in ap (way_of conflict) e ∙ way_absent ds (way_of conflict w) tells)
      ]

  -- there is one, and v is its price
  pub dead_more : (way : Way) → TellsWay ds (way_of conflict w) (Some way) → (v : Option ℕ) → w < length prices →
      ((d : Choice) → way_of conflict w ≡ d ∷ [] → Tells ds d way → v ≡ None → D d) → DeadBelow D conflict (w + step) (set prices w v)
  dead_more way tells v room here k b dead c there = elim (dec_lt k w) [
    | yes o ↦ h k o (sym (get_or-set_other prices w k v None (omega arith)) ∙ dead) c there
    | no o ↦ elim (dec_lt w k) [
      | yes u ↦ absurd (Memᴰ.not-nil (subst (Memᴰ c) (steps.none_between k u b) there))
      | no u ↦
          (let at : k ≡ w = omega arith in
          let (d, one, tells-d) = way_there ds way (way_of conflict w) tells in
          let same : c ≡ d = only (subst (Memᴰ c) one (subst (λ (j : ℕ). Memᴰ c (way_of conflict j)) at there)) in
          subst D (sym same)
          (here d one tells-d
          (sym (get_or-set_same prices w v None room) ∙ ap (λ (j : ℕ). get_or (set prices w v) j None) (sym at) ∙ dead)))
    ]
  ]

pub prices_none : (m marks : List ℕ) (d : Day) (cost cut : ℕ) (conflict : Option Conflict) (prices : List (Option ℕ)) →
    PricesBelow m marks d cost cut conflict 0 marks prices
prices_none m marks d cost cut conflict prices = record { marks_same = refl; dead = λ l _ _ _ k b. absurd (omega arith) }

module _ (m marks : List ℕ) (d : Day) (cost cut : ℕ) (conflict : Option Conflict) (n : ℕ) (n-is : n ≡ way_count conflict) (w : ℕ) (low : w < n)
    (marks₁ : List ℕ) (prices : List (Option ℕ)) (h : PricesBelow m marks d cost cut conflict w marks₁ prices)
    (step : ℕ) (steps : Steps conflict w step) where
  pub prices_skip : TellsWay d.ds (way_of conflict w) None → PricesBelow m marks d cost cut conflict (w + step) marks₁ prices
  prices_skip tells =
      record {
        marks_same = h.marks_same;
        dead = λ l tabled planned real. dead_skip _ d.ds conflict w prices (h.dead l tabled planned real) step steps tells;
      }

  pub prices_more : (way : Way) → TellsWay d.ds (way_of conflict w) (Some way) → (marks₂ : List ℕ) (v : Option ℕ) →
      Prices m marks₁ d way cost cut marks₂ v → w < length prices → PricesBelow m marks d cost cut conflict (w + step) marks₂ (set prices w v)
  prices_more way tells marks₂ v e room =
      record {
        marks_same = e.marks_same ∙ h.marks_same;
        dead = λ l tabled planned real.
            dead_more (λ c. NoRaise l c marks m cut) d.ds conflict w prices (h.dead l tabled planned real) step steps way tells v room
            (λ x one tells-x dead.
            let is_way = way_of_real l tabled.within tabled.raisable.arrays m conflict real d.ds way n w n-is low x one tells-x in
            subst (λ (q : List ℕ). NoRaise l x q m cut) h.marks_same
            (e.dead l x tabled (subst (λ (q : List ℕ). Planned l q m cost) (sym h.marks_same) planned) is_way dead));
      }

-- ---- with a way marked dead fewer are left to try

count_less : (f g : ℕ → Bool) (n i : ℕ) → i < n → f i ≡ true → g i ≡ false → EachBelow n (λ j. g j ≡ true → f j ≡ true) → count g n < count f n
unfolding count
count_less f g zero i b t u h = absurd (omega arith)
count_less f g (suc n) i b t u h = elim (dec_lt i n) [
  | yes k ↦ (let less = count_less f g n i k t u (λ j o. h j (omega arith)) in step (f n) (g n) less (λ e. h n (omega arith) e))
  | no k ↦
      (let e : i ≡ n = omega arith in
      let t' : f n ≡ true = subst (λ (x : ℕ). f x ≡ true) e t in
      let u' : g n ≡ false = subst (λ (x : ℕ). g x ≡ false) e u in
      rw (t', u') (omega (arith, count_grows g f n (λ j o. h j (omega arith)))))
]
  where
    step : (x y : Bool) → count g n < count f n → (y ≡ true → x ≡ true) → count g n + cond y 1 0 < count f n + cond x 1 0
    step true true less k = omega arith
    step true false less k = omega arith
    step false true less k = absurd (false≢true (k refl))
    step false false less k = omega arith

pub untried_falls : (prices : List (Option ℕ)) (n w : ℕ) → w < n → w < length prices → (get_or prices w None ≡ None → ⊥) →
    count (untried (set prices w None)) n < count (untried prices) n
unfolding untried
untried_falls prices n w low there alive =
    count_less _ _ n w low (some_there (get_or prices w None) alive) (ap is_some (get_or-set_same prices w None None there))
    (λ j b t.
    ⊎_elim (λ e. absurd (false≢true (sym (ap is_some e.1) ∙ t))) (λ e. ap is_some (sym e) ∙ t)
    (set_cases prices w None j))
  where
    some_there : (x : Option ℕ) → (x ≡ None → ⊥) → is_some x ≡ true
    some_there None alive = absurd (alive refl)
    some_there (Some v) alive = refl

-- ---- looking for the cheapest

-- none of the numbers below w has a price, or r is one that has
abbrev pub PickedBefore : List (Option ℕ) → Option ℕ → ℕ → Type 0
PickedBefore prices None w = EachBelow w (λ k. get_or prices k None ≡ None)
PickedBefore prices (Some r) w = (r < w) × (get_or prices r None ≡ None → ⊥)

-- number w is picked, as it has a price, or it is not
pub picked_more : (prices : List (Option ℕ)) (w : ℕ) → (get_or prices w None ≡ None → ⊥) → PickedBefore prices (Some w) (w + 1)
picked_more prices w alive = (omega arith, alive)

pub picked_skip : (prices : List (Option ℕ)) (r : Option ℕ) (w : ℕ) → get_or prices w None ≡ None → PickedBefore prices r w → PickedBefore prices r (w + 1)
picked_skip prices None w dead h = λ k b. elim (dec_lt k w) [
  | yes o ↦ h k o
  | no o ↦ (let e : k ≡ w = omega arith in ap (λ (j : ℕ). get_or prices j None) e ∙ dead)
]
picked_skip prices (Some r) w dead h = (omega (arith, h.0), h.1)

pub picked_keep : (prices : List (Option ℕ)) (r w : ℕ) → PickedBefore prices (Some r) w → PickedBefore prices (Some r) (w + 1)
picked_keep prices r w h = (omega (arith, h.0), h.1)

pub picked_cheapest : (prices : List (Option ℕ)) (n w : ℕ) (r : Option ℕ) → w ≡ n → PickedBefore prices r w → Cheapest prices n r
picked_cheapest prices n w None all h = record { alive = λ k e. absurd (cc); none_left = λ _ k b. h k (omega arith) }
picked_cheapest prices n w (Some r) all h =
    record {
      alive = λ k e. let same : r ≡ k = cc in (omega (arith, h.0), subst (λ (j : ℕ). get_or prices j None ≡ None → ⊥) same h.1);
      none_left = λ e. absurd (cc);
    }
