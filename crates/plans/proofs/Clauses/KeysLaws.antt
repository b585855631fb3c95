-- Laws of the table of departures: its entries, how a loop fills it, and that it tells the better of two timetables as the mathematics does.
use Rattle.std.specs.Prelude.{ℕ, suc, ◌+◌, ◌-◌, ◌/◌, ◌%◌, ◌≤◌, ◌<◌, ◌≡◌, Bool, List, length, get_or, ltb, Option, Some, None}
use Rattle.std.proofs.Math.Path.{refl, sym}
use Rattle.std.proofs.Common.{◌∙◌, ap, ap₂, arith}
use Rattle.std.proofs.Math.Bool.{true, false}
use Rattle.std.proofs.Math.Seq.{ext_get_or}
use borrow.Author.Tests.{lt-ltb, le-ltb, eq-eqb, ne_eqb}
use Rattle.finite.specs.DecideLaws.{is_true, is_false, by_test}
use Rattle.finite.specs.Below.{EachBelow}
use Rattle.finite.specs.BelowLaws.{table_at, table_size_lem}
use Rattle.line.specs.declared.Line.{Line}
use Rattle.line.specs.Within.{Within}
use Rattle.line.specs.RunnableLaws.{within_runnable}
use Rattle.rules.specs.Statement.Paths.{train, legs}
use Rattle.rules.specs.Statement.Delay.{weighted_delay}
use Rattle.rules.specs.StatementLaws.PathsLaws.{routed_leg, segment_below}
use Rattle.orders.specs.LeastMinutes.PlanArcs.{departs_at}
use Rattle.plans.specs.declared.tally.Tally.{Tally}
use Rattle.plans.specs.Theory.Ranking.{ahead_from}
use Rattle.plans.specs.Theory.RankingLaws.{from_apart, from-alike, ahead-first}
use Rattle.plans.specs.Theory.BestSoFar.{improves}
use Rattle.plans.specs.Instance.Planning.{departures, planning}
use Rattle.plans.proofs.Instance.PlanningLaws.{decides_leg}
use Rattle.plans.specs.Clauses.Keys.{key_entry, key_of, minute_at, keyed, better_than, better_by}
use Rattle.plans.specs.Clauses.Tallies.{best_by, best_of, Tallied}

-- ---- the entries

module _ (l : Line) (i k : ℕ) where
  pub entry_none : ((i < l.traffic.train_count) × (k < legs l i) → ⊥) → 176 ≡ key_entry l i k
  unfolding key_entry
  entry_none h = rw (is_false (decides_leg l i k) h) refl

  pub entry-leg : i < l.traffic.train_count → k < legs l i → departs_at l i k ≡ key_entry l i k
  unfolding key_entry
  entry-leg b h = rw (is_true (decides_leg l i k) (b, h)) refl

-- ---- a departure by its number

module _ (key m : List ℕ) (e : ℕ) where
  pub minute_in : (x : ℕ) → x ≡ get_or key e 0 → x < 176 → get_or m x 0 ≡ minute_at key m e
  unfolding minute_at
  minute_in x q h = rw (q, lt-ltb (get_or key e 0) 176 (omega arith)) refl

  pub minute_out : (x : ℕ) → x ≡ get_or key e 0 → 176 ≤ x → 0 ≡ minute_at key m e
  unfolding minute_at
  minute_out x q h = rw (le-ltb (get_or key e 0) 176 (omega arith)) refl

  pub keyed_at : e < 132 → get_or (keyed key m) e 0 ≡ minute_at key m e
  unfolding keyed
  keyed_at h = table_at (minute_at key m) 132 e h

-- ---- the departures of a line

module _ (l : Line) where
  pub key_at : (e : ℕ) → e < 132 → get_or (key_of l) e 0 ≡ key_entry l (e / 11) (e % 11)
  unfolding key_of
  key_at e b = table_at (λ e. key_entry l (e / 11) (e % 11)) 132 e b

  pub key_size : length (key_of l) ≡ 132
  unfolding key_of
  key_size = table_size_lem (λ e. key_entry l (e / 11) (e % 11)) 132

  -- the end of the loop that fills it
  pub key_all : (key : List ℕ) → length key ≡ 132 → EachBelow 132 (λ e. get_or key e 0 ≡ key_entry l (e / 11) (e % 11)) → key ≡ key_of l
  key_all key size h = ext_get_or 0 key (key_of l) (size ∙ sym key_size) (λ e b. h e (omega arith) ∙ sym (key_at e (omega arith)))

module _ (l : Line) (w : Within l) (m : List ℕ) where
  departures_size : length (departures l m) ≡ 132
  unfolding departures
  departures_size = table_size_lem _ 132

  -- a leg's departure, or none, by the table and in the list
  keyed-entry : (e : ℕ) → e < 132 → minute_at (key_of l) m e ≡ get_or (departures l m) e 0
  unfolding departures
  keyed-entry e b =
      by_test (decides_leg l (e / 11) (e % 11))
      (λ h.
      let low = segment_below (train l (e / 11)) (routed_leg l (e / 11) (within_runnable l w) h.0 (omega (arith, h.1))) (e % 11) h.1 in
      sym (minute_in (key_of l) m e (departs_at l (e / 11) (e % 11)) (entry-leg l _ _ h.0 h.1 ∙ sym (key_at l e b)) (omega arith)) ∙
      sym (table_at _ 132 e b ∙ rw (is_true (decides_leg l (e / 11) (e % 11)) h) refl))
      (λ h.
      sym (minute_out (key_of l) m e 176 (entry_none l _ _ h ∙ sym (key_at l e b)) (omega arith)) ∙
      sym (table_at _ 132 e b ∙ rw (is_false (decides_leg l (e / 11) (e % 11)) h) refl))

  keyed-departures : keyed (key_of l) m ≡ departures l m
  unfolding keyed
  keyed-departures =
      ext_get_or 0 (keyed (key_of l) m) (departures l m) (table_size_lem (minute_at (key_of l) m) 132 ∙ sym departures_size)
      (λ e b. let n : e < 132 = omega (arith, table_size_lem (minute_at (key_of l) m) 132) in keyed_at (key_of l) m e n ∙ keyed-entry e n)

-- ---- the better of two timetables

module _ (l : Line) (w : Within l) (m : List ℕ) (cost : ℕ) (cost_is : cost ≡ weighted_delay l m) (best : List ℕ) (y : Tally) (t : Tallied l best y) where
  pub better_improves : better_by (key_of l) m cost best y ≡ improves (planning l) m (best_of y best)
  unfolding better_by improves
  better_improves = go y.delay refl
    where
      go : (d : Option ℕ) → y.delay ≡ d → better_than (key_of l) m cost best d ≡ improves (planning l) m (best_by d best)
      go (Some c) e =
          rw (cost_is, t.delay_is c e, keyed-departures l w m, keyed-departures l w best)
          (ahead-first 132 (weighted_delay l m) (weighted_delay l best) (departures l m) (departures l best) (departures_size l w best))
      go None e = refl

-- ---- as the program compares them

module _ (key m best : List ℕ) (e x y : ℕ) (low : e < 132) (x-is : x ≡ minute_at key m e) (y-is : y ≡ minute_at key best e) where
  abbrev whole : Bool
  whole = ahead_from 132 0 (keyed key m) (keyed key best)

  pub earlier_apart : ahead_from (132 - e) e (keyed key m) (keyed key best) ≡ whole → (x ≡ y → ⊥) → ltb x y ≡ whole
  earlier_apart inv n =
      let p : x ≡ get_or (keyed key m) e 0 = x-is ∙ sym (keyed_at key m e low) in
      let q : y ≡ get_or (keyed key best) e 0 = y-is ∙ sym (keyed_at key best e low) in
      let k : suc (131 - e) ≡ 132 - e = omega arith in
      ap₂ ltb p q ∙ from_apart (131 - e) e (keyed key m) (keyed key best) (λ z. n (p ∙ z ∙ sym q)) ∙
      ap (λ (k : ℕ). ahead_from k e (keyed key m) (keyed key best)) k ∙ inv

  pub earlier_alike :
      ahead_from (132 - e) e (keyed key m) (keyed key best) ≡ whole → x ≡ y → ahead_from (132 - (e + 1)) (e + 1) (keyed key m) (keyed key best) ≡ whole
  earlier_alike inv z =
      let k : suc (131 - e) ≡ 132 - e = omega arith in
      let j : 132 - (e + 1) ≡ 131 - e = omega arith in
      let i : e + 1 ≡ suc e = omega arith in
      ap₂ (λ (k i : ℕ). ahead_from k i (keyed key m) (keyed key best)) j i ∙
      from-alike (131 - e) e (keyed key m) (keyed key best) (keyed_at key m e low ∙ sym x-is ∙ z ∙ y-is ∙ sym (keyed_at key best e low)) ∙
      ap (λ (k : ℕ). ahead_from k e (keyed key m) (keyed key best)) k ∙ inv

pub earlier_end : (a b : List ℕ) (e : ℕ) → 132 ≤ e → ahead_from (132 - e) e a b ≡ ahead_from 132 0 a b → false ≡ ahead_from 132 0 a b
unfolding ahead_from
earlier_end a b e h inv =
    let k : 0 ≡ 132 - e = omega arith in
    let none : false ≡ ahead_from (132 - e) e a b = ap (λ (k : ℕ). ahead_from k e a b) k in
    none ∙ inv

module _ (key m best : List ℕ) (cost : ℕ) (y : Tally) where
  pub better_nothing : y.delay ≡ None → true ≡ better_by key m cost best y
  unfolding better_by
  better_nothing n = rw n refl

  pub better_delay : {c : ℕ} → y.delay ≡ Some c → (cost ≡ c → ⊥) → ltb cost c ≡ better_by key m cost best y
  unfolding better_by
  better_delay {c} some d = rw (some, ne_eqb cost c d) refl

  pub better_earlier : {c : ℕ} → y.delay ≡ Some c → cost ≡ c → ahead_from 132 0 (keyed key m) (keyed key best) ≡ better_by key m cost best y
  unfolding better_by
  better_earlier {c} some d = rw (some, eq-eqb cost c d) refl
