-- No train arrives before its free arrival, in minutes that keep rules 10 to 12 and 18. So the delay of a train that is not listed is the difference
-- itself, and is not cut off at 0.
use Rattle.std.specs.Prelude.{◌≡◌, ℕ, zero, suc, ◌+◌, ◌-◌, ◌<◌, ◌≤◌, List, slice_index}
use Rattle.std.proofs.Common.{ap, ⊎_elim, add-one, arith}
use Rattle.line.specs.declared.Train.{Train}
use Rattle.line.specs.declared.Line.{Line}
use Rattle.line.specs.Record.{legs_of}
use Rattle.line.specs.Runnable.{Runnable}
use Rattle.rules.specs.Statement.Paths.{past_train, train, legs}
use Rattle.rules.specs.Statement.Minutes.{arrival, last_arrival}
use Rattle.rules.specs.Statement.Rules.{TrainRules}
use Rattle.rules.specs.Statement.Delay.{free_after, free_arrival, delay}
use Rattle.rules.specs.StatementLaws.PathsLaws.{train_or_past, routed_runnable, legs_few}
use Rattle.rules.specs.StatementLaws.BookingsLaws.{floors_kept}
use Rattle.rules.proofs.StatementLaws.DueLaws.{Unlisted, due-free}
use Rattle.rules.specs.Check.RulesLaws.{free-start, free-next}

module _ (l : Line) (m : List ℕ) (i : ℕ) (h : TrainRules l m i) where
  -- after each leg
  pub no_earlier : (k : ℕ) → k < legs l i → free_after l i k ≤ arrival l m i k
  no_earlier zero b = omega (arith, h.rule10, h.rule11 0 b, free-start l i)
  no_earlier (suc k) b =
      rw (← add-one)
      (omega (arith, no_earlier k (omega arith), h.rule12 k (omega arith), h.rule11 (k + 1) (omega arith), free-next l i k, floors_kept l m i h.rule18 (k + 1)))

  module _ (w : Runnable l) (n : i < l.traffic.train_count) where
    -- and after the last; a train past the last of the record has no leg, and 0 for its free arrival
    pub free-least : free_arrival l i ≤ last_arrival l m i
    free-least =
        ⊎_elim (λ t. no_earlier (legs l i - 1) (omega (arith, (legs_few (train l i) (routed_runnable _ _ t w.stations.1)).0))) past (train_or_past l i w n)
      where
        past : train l i ≡ past_train → free_arrival l i ≤ last_arrival l m i
        past e =
            let z : legs l i - 1 ≡ 0 = omega (arith, ap legs_of e) in
            rw z (omega (arith, free-start l i, ap (λ (t : Train). t.earliest) e, ap (λ (t : Train). slice_index t.runs 0) e))

    pub delay-whole : Unlisted l i → last_arrival l m i ≡ free_arrival l i + delay l m i
    delay-whole none = omega (arith, free-least, due-free l i none)
