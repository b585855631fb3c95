-- Minutes that keep rules 11 to 13 are within the two days: no minute of a train is after its last arrival, and that is not after its latest. So minutes of
-- which no breach is found are lawful, whatever their entries.
use Rattle.std.specs.Prelude.{◌≡◌, ℕ, zero, suc, ◌+◌, ◌-◌, ◌<◌, ◌≤◌, List, Ok}
use Rattle.std.proofs.Common.{arith}
use Rattle.line.specs.declared.Line.{Line}
use Rattle.line.specs.Within.{Within, Arrays}
use Rattle.line.specs.RunnableLaws.{within_runnable}
use Rattle.rules.specs.Statement.Paths.{legs}
use Rattle.rules.specs.Statement.Minutes.{arrival}
use Rattle.rules.specs.Statement.Rules.{InDays, Lawful}
use Rattle.rules.specs.StatementLaws.PathsLaws.{train_runnable}
use Rattle.rules.specs.Check.Breaches.{breach_of}
use Rattle.rules.proofs.Check.ExactLaws.{KeptRules, kept_of, lawful_of}

module _ (l : Line) (w : Within l) (a : Arrays l) (m : List ℕ) where
  module _ (kept : KeptRules l m) (i : ℕ) (h : i < l.traffic.train_count) where
    -- leg k, which d legs follow
    arrival_low : (d k : ℕ) → k + d + 1 ≡ legs l i → arrival l m i k ≤ 2879
    arrival_low zero k e =
        let last : legs l i - 1 ≡ k = omega arith in
        omega (arith, rw last at (kept.rule13 i h), (train_runnable l i (within_runnable l w) a.trains h).latest.1)
    arrival_low (suc d) k e =
        omega (arith, arrival_low d (k + 1) (omega arith), (kept.trains i h).rule12 k (omega arith), (kept.trains i h).rule11 (k + 1) (omega arith))

    kept_days : InDays l m i
    kept_days k b =
        let low = arrival_low (legs l i - 1 - k) k (omega arith) in
        (omega (arith, low, (kept.trains i h).rule11 k b), low)

  -- where no breach is found
  pub clear_lawful : breach_of l m ≡ Ok tt → Lawful l m
  clear_lawful e = lawful_of l w a m (kept_days (kept_of l w a m e)) e
