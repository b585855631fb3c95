-- `rules::delay::delay_by` meets its contract. The invariant: the total is the sum of the terms of the trains before i; each is at most 99 times 65,535,
-- so it fits. Assumes nothing.
use Rattle.std.proofs.Common.{◌≡◌, ◌*◌, ◌≤◌}
use Rattle.finite.specs.Below.{sum}
use Rattle.rules.specs.Check.Dues.{cost_by}
use Rattle.rules.proofs.delay.delay_by.Given as goal

abbrev pub invariant-loop-i : goal.invariant-loop-i
invariant-loop-i l = (l.total ≡ sum (cost_by l.line.traffic.trains l.dues l.m) l.i) × (l.total ≤ 6487965 * l.i)
