-- What reading the minutes stores: each leg has two entries of its own, so those of other legs and of other trains stay as they were, and those of no
-- leg stay 0. So minutes that are the same and were read are one list.
use Prim.Native.Nat.{ℕ, zero, suc, ◌+◌, ◌≤◌, ◌<◌, ◌%◌}
use Rattle.std.specs.Prelude.{◌≡◌, List, length, get_or, set, replicate}
use Rattle.std.proofs.Math.Path.{refl}
use Rattle.std.proofs.Common.{sym, ap, ◌∙◌, arith, length-set, get_or-set_same, get_or-set_other, ext_get_or}
use Rattle.text.specs.declared.Cursor.{Cursor}
use Rattle.finite.specs.Below.{EachFrom}
use Rattle.finite.specs.DecideLaws.{by_test, decides_eq}
use Rattle.text.specs.Reading.Parsed.{Parsed}
use Rattle.text.proofs.Reading.ParsedLaws.{then_got, got_is}
use Rattle.line.specs.declared.Train.{Train}
use Rattle.line.specs.declared.Line.{Line}
use Rattle.line.specs.Record.{legs_of}
use Rattle.line.specs.File.{after_field}
use Rattle.rules.specs.Statement.Paths.{train, legs, segment_of, Routed, EachTrain, EachLeg}
use Rattle.rules.specs.Statement.Minutes.{departs, arrives}
use Rattle.rules.specs.Check.Tests.{departure_of, arrival_of}
use Rattle.rules.specs.Statement.Delay.{Same}
use Rattle.rules.specs.StatementLaws.PathsLaws.{segment_below, segment_apart}
use Rattle.timetable.specs.Reading.{time_at, with_leg, legs_at, trains_at}

-- ---- the legs of a train, which is train i

module _ (t : Train) (i : ℕ) where
  -- entry x is none of those of leg q
  abbrev pub OffLeg : ℕ → ℕ → Type 0
  OffLeg x q = (x ≡ departs (segment_of t q) i → ⊥) × (x ≡ arrives (segment_of t q) i → ⊥)

  -- nor of any of the k legs from leg j on
  abbrev pub Off : ℕ → ℕ → ℕ → Type 0
  Off k j x = EachFrom k j (OffLeg x)

  -- k legs from leg j on were stored into m, which gave m'
  pub record LegsStored (k j : ℕ) (m m' : List ℕ) : Type 0 where
    pub size : length m' ≡ length m
    pub stays : (x : ℕ) → Off k j x → get_or m' x 0 ≡ get_or m x 0

  -- one leg
  pub leg_stored : (j d a : ℕ) (m : List ℕ) → LegsStored 1 j m (with_leg t i j d a m)
  leg_stored j d a m =
      let mid = set m (departs (segment_of t j) i) d in
      record {
        size = length-set mid (arrives (segment_of t j) i) a ∙ length-set m (departs (segment_of t j) i) d;
        stays = λ x off.
            let here = off j (omega arith) (omega arith) in
            get_or-set_other mid (arrives (segment_of t j) i) x a 0 here.1 ∙ get_or-set_other m (departs (segment_of t j) i) x d 0 here.0;
      }

  pub legs_stored : (k j : ℕ) (m s : List ℕ) (c : Cursor) (m' : List ℕ) (next : Cursor) → legs_at k t i j m s c ≡ Parsed.got m' next → LegsStored k j m m'
  unfolding legs_at
  legs_stored zero j m s c m' next e = got_is (λ y _. LegsStored 0 j m y) e (record { size = refl; stays = λ x off. refl })
  legs_stored (suc k) j m s c m' next e =
      let d = then_got (time_at 32 s c) _ m' next e in
      let a = then_got (time_at (after_field k) s d.next) _ m' next d.after in
      let h = legs_stored k (j + 1) (with_leg t i j d.value a.value m) s a.next m' next a.after in
      let one = leg_stored j d.value a.value m in
      record {
        size = h.size ∙ one.size;
        stays = λ x off. h.stays x (λ q low high. off q (omega arith) (omega arith)) ∙ one.stays x (λ q low high. off q low (omega arith));
      }

  -- leg j stored, and then k more from the next on: the minutes of leg j are those that were stored
  module _ (r : Routed t) (few : i < 16) (k j : ℕ) (d a : ℕ) (m m' : List ℕ) (size : length m ≡ 352) (path : j + suc k ≤ legs_of t)
      (stored : LegsStored k (j + 1) (with_leg t i j d a m) m') where
    here : segment_of t j < 11
    here = segment_below t r j (omega arith)

    other : (q : ℕ) → j + 1 ≤ q → q < j + 1 + k → segment_of t j ≡ segment_of t q → ⊥
    other q low high = segment_apart t r j q (omega arith) (omega arith)

    there : (q : ℕ) → q < j + 1 + k → segment_of t q < 11
    there q high = segment_below t r q (omega arith)

    pub departure_stored : departure_of t m' i j ≡ d
    departure_stored =
        stored.stays (departs (segment_of t j) i)
        (λ q low high. ((λ z. other q low high (omega arith)), (λ z. omega (arith, here))))
        ∙ get_or-set_other (set m (departs (segment_of t j) i) d) (arrives (segment_of t j) i) (departs (segment_of t j) i) a 0 (λ z. omega arith)
        ∙ get_or-set_same m (departs (segment_of t j) i) d 0 (omega (arith, here))

    pub arrival_stored : arrival_of t m' i j ≡ a
    arrival_stored =
        stored.stays (arrives (segment_of t j) i)
        (λ q low high. ((λ z. omega (arith, there q high)), (λ z. other q low high (omega arith))))
        ∙ get_or-set_same (set m (departs (segment_of t j) i) d) (arrives (segment_of t j) i) a 0 (rw length-set (omega (arith, here)))

-- ---- the trains of a line

zeros : (n x : ℕ) → get_or (replicate {A = ℕ} n 0) x 0 ≡ 0
zeros zero x = refl
zeros (suc n) zero = refl
zeros (suc n) (suc x) = zeros n x

module _ (l : Line) where
  -- entry x is none of those of the legs of the k trains from train i on
  abbrev pub OffTrains : ℕ → ℕ → ℕ → Type 0
  OffTrains k i x = EachFrom k i (λ q. Off (train l q) q (legs l q) 0 x)

  -- k trains from train i on were stored into m, which gave m'
  pub record TrainsStored (k i : ℕ) (m m' : List ℕ) : Type 0 where
    pub size : length m' ≡ length m
    pub stays : (x : ℕ) → OffTrains k i x → get_or m' x 0 ≡ get_or m x 0

  pub trains_stored : (k i : ℕ) (m s : List ℕ) (c : Cursor) (m' : List ℕ) (next : Cursor) → trains_at k l i m s c ≡ Parsed.got m' next →
      TrainsStored k i m m'
  unfolding trains_at
  trains_stored zero i m s c m' next e = got_is (λ y _. TrainsStored 0 i m y) e (record { size = refl; stays = λ x off. refl })
  trains_stored (suc k) i m s c m' next e =
      let a = then_got (legs_at (legs l i) (train l i) i 0 m s c) _ m' next e in
      let one = legs_stored (train l i) i (legs l i) 0 m s c a.value a.next a.first in
      let others = trains_stored k (i + 1) a.value s a.next m' next a.after in
      record {
        size = others.size ∙ one.size;
        stays = λ x off. others.stays x (λ q low high. off q (omega arith) (omega arith)) ∙ one.stays x (off i (omega arith) (omega arith));
      }

  -- the entries of earlier trains are none of those
  pub earlier_stays : {k i : ℕ} {m m' : List ℕ} → TrainsStored k i m m' → i + k ≤ 12 → (x : ℕ) → x % 16 < i → get_or m' x 0 ≡ get_or m x 0
  earlier_stays stored few x h = stored.stays x (λ q low high j _ _. ((λ z. omega arith), (λ z. omega arith)))

  -- entry x is of no train's leg
  abbrev pub OfNoLeg : ℕ → Type 0
  OfNoLeg x = EachTrain l (λ i. EachLeg l i (OffLeg (train l i) i x))

  -- with all trains stored into 0 everywhere, it is 0 still
  pub idle_zero : {m : List ℕ} → TrainsStored l.traffic.train_count 0 (replicate 352 0) m → (x : ℕ) → OfNoLeg x → get_or m x 0 ≡ 0
  idle_zero stored x off = stored.stays x (λ i _ high k _ here. off i (omega arith) k (omega arith)) ∙ zeros 352 x

  -- minutes that are the same and have 0 where no train's leg is are one list
  pub minutes_only : (m m' : List ℕ) → length m ≡ length m' → ((x : ℕ) → OfNoLeg x → get_or m x 0 ≡ 0) → ((x : ℕ) → OfNoLeg x → get_or m' x 0 ≡ 0) → Same l m m' →
      m ≡ m'
  minutes_only m m' size idle idle' same = ext_get_or 0 m m' size (λ x _. entry x)
    where
      entry : (x : ℕ) → get_or m x 0 ≡ get_or m' x 0
      entry x = by_test (decides_eq (get_or m x 0) (get_or m' x 0)) (λ e. e) (λ other.
          let off : OfNoLeg x = λ i h k here. (
            (λ z. other (ap (λ (y : ℕ). get_or m y 0) z ∙ (same i h k here).0 ∙ ap (λ (y : ℕ). get_or m' y 0) (sym z))),
            (λ z. other (ap (λ (y : ℕ). get_or m y 0) z ∙ (same i h k here).1 ∙ ap (λ (y : ℕ). get_or m' y 0) (sym z))),
          ) in
          idle x off ∙ sym (idle' x off))
