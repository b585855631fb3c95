-- Laws of breaches: the first of two, the lowest train that breaks a rule, and that the place of a conflict is a segment or station of the line.
use Rattle.std.specs.Prelude.{◌≡◌, ℕ, ◌+◌, ◌<◌, ◌≤◌, Bool, true, false, cond, not, List, length, take, ◌==◌, slice_index_or, Option, Result, Ok, Err, ⊤}
use Rattle.std.proofs.Math.Path.{refl, ap}
use Rattle.std.proofs.Common.{sym, ◌∙◌, arith, length-take-le, get_or-take}
use Rattle.std.proofs.Math.Option.{Option as Maybe, some, none}
use borrow.Author.Tests.{not-false}
use Rattle.finite.specs.Below.{EachBelow}
use Rattle.finite.specs.LoopLaws.{first_found, first_none, none_first}
use Rattle.finite.specs.BelowLaws.{first-same}
use Rattle.text.specs.declared.Refusal.{Refusal}
use Rattle.text.specs.Reading.Told.{refusal}
use Rattle.line.specs.declared.Train.{Train}
use Rattle.line.specs.declared.Line.{Line}
use Rattle.line.specs.Within.{Within}
use Rattle.line.specs.Runnable.{Runnable}
use Rattle.line.specs.RunnableLaws.{within_runnable}
use Rattle.rules.specs.declared.conflicts.Conflict.{Conflict}
use Rattle.rules.specs.Statement.Paths.{past_train, train, EachTrain, Routed}
use Rattle.rules.specs.Statement.Bookings.{floor_of}
use Rattle.rules.specs.StatementLaws.PathsLaws.{legs-most, routed}
use Rattle.rules.specs.Check.Floors.{floor_in, Floors}
use Rattle.rules.specs.Check.FloorsLaws.{booked_listed}
use Rattle.rules.specs.Check.Tests.{starts_right, runs_right, stops_right, booked_right, ends_right, keeps_by, keeps_rule}
use Rattle.rules.specs.Conflict.Conflicts.{conflict_of}
use Rattle.rules.specs.Check.Breaches.{or_breach, at_train, lowest_breach, train_breach, place_of}
use Rattle.rules.specs.Conflict.FoundLaws.{conflict_holds}

-- ---- the first of two breaches

-- the first check, which answered r, found a breach: it is the answer of both
pub breach_first : {r a : Result ⊤ Refusal} {x : Refusal} (b : Result ⊤ Refusal) → r ≡ a → r ≡ Err x → r ≡ or_breach a b
breach_first b e h = h ∙ ap (λ (x : Result ⊤ Refusal). or_breach x b) (sym h ∙ e)

-- the first check, which answered r, found none: the answer is that of the second
pub breach_later : {r a b x : Result ⊤ Refusal} → r ≡ a → r ≡ Ok tt → x ≡ b → x ≡ or_breach a b
breach_later {r} {a} {b} e h g = g ∙ ap (λ (x : Result ⊤ Refusal). or_breach x b) (sym h ∙ e)

-- there is no first breach: neither is one
pub or_none : (a b : Result ⊤ Refusal) → or_breach a b ≡ Ok tt → (a ≡ Ok tt) × (b ≡ Ok tt)
or_none (Ok x) b e = (refl, e)
or_none (Err r) b e = let z : ◌≡◌ {A = ℕ} 0 1 = cc in absurd (omega arith)

-- ---- the lowest train that breaks rule n

-- of the trains below a count, as a loop over them finds it
module _ (n : ℕ) (keeps : ℕ → Bool) (count : ℕ) where
  pub lowest_at : (i : ℕ) → i < count → keeps i ≡ false → EachBelow i (λ j. keeps j ≡ true) → refusal n (i + 1) ≡ lowest_breach n keeps count
  lowest_at i h e k = ap (at_train n) (sym (first_found _ _ i h (ap not e) (λ j s. ap not (k j s))))

  pub lowest_none : EachBelow count (λ j. keeps j ≡ true) → Ok tt ≡ lowest_breach n keeps count
  lowest_none k = ap (at_train n) (sym (first_none _ _ (λ j s. ap not (k j s))))

-- of a line: none is found exactly when every train keeps the rule
module _ (n : ℕ) (l : Line) (m : List ℕ) where
  abbrev RuleKept : ℕ → Type 0
  RuleKept i = keeps_rule n l m i ≡ true

  pub breach_none : EachTrain l RuleKept → Ok tt ≡ train_breach n l m
  unfolding train_breach
  breach_none k = lowest_none n (keeps_rule n l m) l.traffic.train_count k

  pub none_breach : train_breach n l m ≡ Ok tt → EachTrain l RuleKept
  unfolding train_breach
  none_breach e i h = not-false _ (none_first _ _ (nobody _ e) i h)
    where
      nobody : (o : Maybe ℕ) → at_train n o ≡ Ok tt → o ≡ none
      nobody none g = refl
      nobody (some j) g = let z : ◌≡◌ {A = ℕ} 0 1 = cc in absurd (omega arith)

  -- with the floors of the line in a list
  pub breach_listed : (fs : List ℕ) → Runnable l → Floors l fs →
      lowest_breach n (λ i. keeps_by n (floor_in fs i) (train l i) m i) l.traffic.train_count ≡ train_breach n l m
  unfolding train_breach keeps_by
  breach_listed fs w h = ap (at_train n) (first-same _ _ l.traffic.train_count (λ i b. ap (kept i) (same i b)))
    where
      same : (i : ℕ) → i < l.traffic.train_count → booked_right (floor_in fs i) (train l i) m i ≡ booked_right (floor_of l i) (train l i) m i
      same i b = booked_listed l m i fs h (omega (arith, w.trains.1)) (legs-most l i w b)

      kept : ℕ → Bool → Bool
      kept i booked =
          not
          (cond (n == 10) (starts_right (train l i) m i)
          (cond (n == 11) (runs_right (train l i) m i)
          (cond (n == 12) (stops_right (train l i) m i)
          (cond (n == 18) booked
          (cond (n == 13) (ends_right (train l i) m i)
          true)))))

-- for the code, which takes the trains of the line out of its array
module _ (l : Line) (w : Within l) (size : length l.traffic.trains ≡ 12) {count : ℕ} (number : count ≡ l.traffic.train_count) where
  abbrev taken : List Train
  taken = take count l.traffic.trains

  taken_long : length taken ≡ l.traffic.train_count
  taken_long = omega (arith, length-take-le count l.traffic.trains (omega (arith, number, size, w.trains.1)), number)

  taken_at : (i : ℕ) → i < l.traffic.train_count → slice_index_or taken i past_train ≡ train l i
  taken_at i b = get_or-take count l.traffic.trains i past_train (omega (arith, b, number))

  -- each of them has its path
  pub taken_routed : (i : ℕ) → i < length taken → Routed (slice_index_or taken i past_train)
  taken_routed i b =
      let used : i < l.traffic.train_count = omega (arith, b, taken_long) in
      rw (taken_at i used) (routed l i (within_runnable l w) size used)

  pub taken-few : length taken ≤ 12
  taken-few = omega (arith, taken_long, w.trains.1)

  -- the lowest of them that fails the test of rule n, by the list of floors
  pub breach_told : (n : ℕ) (m fs : List ℕ) → Floors l fs → {r : Result ⊤ Refusal} →
      r ≡ lowest_breach n (λ i. keeps_by n (floor_in fs i) (slice_index_or taken i past_train) m i) (length taken) → r ≡ train_breach n l m
  breach_told n m fs h e =
      e ∙ ap (lowest_breach n _) taken_long
      ∙ ap (at_train n) (first-same _ _ l.traffic.train_count (λ i b. ap (λ (t : Train). not (keeps_by n (floor_in fs i) t m i)) (taken_at i b)))
      ∙ breach_listed n l m fs (within_runnable l w) h

-- ---- the place of a conflict

abbrev Fits : Option Conflict → Type 0
Fits c = place_of c < 12

pub place_fits : (l : Line) (m : List ℕ) → Within l → place_of (conflict_of l m) < 12
place_fits l m w =
    conflict_holds Fits (omega arith) l m (λ p b i j _ _ _. omega (arith, w.stations.1)) (λ s low high t _. omega (arith, w.stations.1))
