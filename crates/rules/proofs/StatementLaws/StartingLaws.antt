-- What moves with the earliest minute of one train (document 02, K5). A timetable that is lawful with a later earliest minute is lawful with the former one,
-- for no rule but 10 speaks of it. And of such timetables the weighted delay is less by one and the same amount: by nothing where the train is listed with its
-- due minute, else by what its free arrival is later. So one that has the least delay with the former minute, and is lawful with the later one, has the least
-- delay with the later one too.
use Rattle.std.specs.Prelude.{◌≡◌, ℕ, zero, suc, ◌+◌, ◌-◌, ◌*◌, ◌<◌, ◌≤◌, ◌⊎◌, List, [], ◌∷◌, length, ◌≢◌}
use Rattle.std.proofs.Math.Path.{refl, sym}
use Rattle.std.proofs.Common.{ap, ◌∙◌, arith}
use Rattle.std.proofs.Math.Logic.{inl, inr, ⊎_elim}
use Rattle.std.proofs.Math.Nat.{mul-add}
use Rattle.finite.specs.DecideLaws.{by_test, decides_eq}
use Rattle.finite.specs.BelowLaws.{count_same}
use Rattle.finite.specs.SumsLaws.{sum_one}
use Rattle.finite.specs.AlterLaws.{altered_at, altered_other, altered_keeps}
use Rattle.line.specs.declared.Train.{Train}
use Rattle.line.specs.declared.Listed.{Listed}
use Rattle.line.specs.declared.Line.{Line}
use Rattle.line.specs.Record.{dues_of}
use Rattle.line.specs.Within.{Within, Arrays}
use Rattle.line.specs.RunnableLaws.{within_runnable}
use Rattle.line.specs.Starting.{starting_at, starting}
use Rattle.line.specs.StartingLaws.{starting_within, starting_arrays}
use Rattle.rules.specs.Statement.Paths.{past_train, train, legs}
use Rattle.rules.specs.Statement.Bookings.{floor_of}
use Rattle.rules.specs.Statement.Minutes.{last_arrival}
use Rattle.rules.specs.Statement.Rules.{middle, stands, standing, TrainRules, Lawful}
use Rattle.rules.specs.Statement.Delay.{free_after, free_arrival, listed_for, due, weighted_delay, LeastDelay}
use Rattle.rules.proofs.StatementLaws.DueLaws.{listed_here, listed-later}
use Rattle.rules.proofs.StatementLaws.DelayLaws.{free-least}
use Rattle.rules.proofs.StatementLaws.FreeArrivalLaws.{free_earliest}

module _ (l : Line) (i v : ℕ) where
  abbrev later : Line
  later = starting i v l

  -- each train is as it was, but for its earliest minute
  train-later : (j : ℕ) → train later j ≡ starting_at (train later j).earliest (train l j)
  train-later j = altered_keeps (starting_at v) (starting_at (train later j).earliest) (λ t. refl) i l.traffic.trains j past_train

  train_other : (j : ℕ) → (j ≢ i) → train later j ≡ train l j
  train_other j h = altered_other (starting_at v) i l.traffic.trains j past_train h

  pub earliest_starting : i < length l.traffic.trains → (train later i).earliest ≡ v
  earliest_starting here = ap (λ (t : Train). t.earliest) (altered_at (starting_at v) i l.traffic.trains past_train here)

  -- ---- the rules

  module _ (here : i < length l.traffic.trains) (rises : (train l i).earliest ≤ v) (m : List ℕ) where
    earliest_later : (j : ℕ) → (train l j).earliest ≤ (train later j).earliest
    earliest_later j =
        by_test (decides_eq j i)
        (λ e. rw e (omega (arith, rises, earliest_starting here)))
        (λ e. rw (train_other j e) (omega arith))

    rules_former : (j : ℕ) → TrainRules later m j → TrainRules l m j
    rules_former j h =
        let same = train-later j in
        record {
          rule10 = omega (arith, earliest_later j, rw same at h.rule10);
          rule11 = rw same at h.rule11;
          rule12 = rw same at h.rule12;
          rule18 = rw same at h.rule18;
        }

    stands_former : (s t j : ℕ) → stands later m s t j ≡ stands l m s t j
    unfolding stands middle
    stands_former s t j = rw (train-later j) refl

    standing_former : (s t : ℕ) → standing later m s t ≡ standing l m s t
    unfolding standing
    standing_former s t = count_same (stands later m s t) (stands l m s t) l.traffic.train_count (λ j b. stands_former s t j)

    pub lawful_former : Lawful later m → Lawful l m
    lawful_former h =
        record {
          days = λ j b. rw (train-later j) at (h.days j b);
          trains = λ j b. rules_former j (h.trains j b);
          rule13 = λ j b. rw (train-later j) at (h.rule13 j b);
          rule14 = λ p b j c k d. rw (train-later j, train-later k) at (h.rule14 p b j c k d);
          rule15 = λ s b t c. omega (arith, h.rule15 s b t c, standing_former s t);
        }

  -- ---- when trains are due

  floor_later : (j k : ℕ) → floor_of later j k ≡ floor_of l j k
  unfolding floor_of
  floor_later j k = rw (train-later j) refl

  free_other : (j : ℕ) → (j ≢ i) → (k : ℕ) → free_after later j k ≡ free_after l j k
  unfolding free_after
  free_other j h zero = rw (train_other j h) refl
  free_other j h (suc k) = rw (train_other j h, free_other j h k, floor_later j (suc k)) refl

  due_other : (j : ℕ) → (j ≢ i) → due later j ≡ due l j
  unfolding due
  due_other j h = rw (train_other j h) (ap (listed_for (dues_of l) j) (free_other j h (legs l j - 1)))

  -- the train itself: at one minute in both where it is listed, else at its free arrivals
  listed_either : (xs : List Listed) (a b : ℕ) → (listed_for xs i a ≡ listed_for xs i b) ⊎ ((listed_for xs i a ≡ a) × (listed_for xs i b ≡ b))
  unfolding listed_for
  listed_either [] a b = inr (refl, refl)
  listed_either (x ∷ xs) a b =
      by_test (decides_eq x.train (i + 1))
      (λ e. inl (listed_here x xs i a e ∙ sym (listed_here x xs i b e)))
      (λ h. rw (listed-later x xs i a h, listed-later x xs i b h) (listed_either xs a b))

  module _ (w : Within l) (a : Arrays l) (here : i < l.traffic.train_count) (rises : (train l i).earliest ≤ v) (day : v ≤ 2879) where
    inside : i < length l.traffic.trains
    inside = omega (arith, w.trains.1, a.trains)

    last_later : (m : List ℕ) → last_arrival later m i ≡ last_arrival l m i
    last_later m = rw (train-later i) refl

    -- its free arrival is no earlier, as minutes that arrive then keep its own rules with the former minute too
    free-rises : free_arrival l i ≤ free_arrival later i
    free-rises =
        let alone = free_earliest later (within_runnable later (starting_within v day l i w)) (starting_arrays v day l i a).trains i here in
        let kept = rules_former inside rises alone.minutes i alone.kept in
        omega (arith, free-least l alone.minutes i kept (within_runnable l w) here, alone.arrives, last_later alone.minutes)

    module _ (m : List ℕ) (h : Lawful later m) where
      delay-later : last_arrival l m i - due l i ≡ (last_arrival l m i - due later i) + (due later i - due l i)
      unfolding due
      delay-later =
          let arrives = free-least later m i (h.trains i here) (within_runnable later (starting_within v day l i w)) here in
          ⊎_elim
          (λ e. omega (arith, e))
          (λ e. omega (arith, e.0, e.1, free-rises, arrives, last_later m))
          (listed_either (dues_of l) (free_arrival l i) (free_arrival later i))

      -- the weighted delay is less by what the train is due later, whatever the timetable
      pub delay_less : weighted_delay l m ≡ weighted_delay later m + (train l i).weight * (due later i - due l i)
      unfolding weighted_delay
      delay_less =
          sum_one _ _ i _ l.traffic.train_count here
          (rw (train-later i) (ap (λ (x : ℕ). (train l i).weight * x) delay-later ∙ mul-add (train l i).weight _ _))
          (λ j b e. rw (train_other j e, due_other j e) refl)

    -- none that is lawful is left where there was none
    pub none_later : ((m : List ℕ) → Lawful l m → ⊥) → (m : List ℕ) → Lawful later m → ⊥
    none_later none m h = none m (lawful_former inside rises m h)

    -- one of the least delay with the former minute that is lawful with the later one
    pub least-later : (m : List ℕ) → LeastDelay l m → Lawful later m → LeastDelay later m
    least-later m x h =
        record {
          lawful = h;
          least = λ m' h'. omega (arith, x.least m' (lawful_former inside rises m' h'), delay_less m h, delay_less m' h');
        }
