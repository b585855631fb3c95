-- `rules::stations::Stays::standing` meets its contract. The invariant: the count is that of the entries below i that stand there. Assumes nothing.
use Rattle.std.proofs.Common.{◌≡◌}
use Rattle.finite.specs.Below.{count as count_of}
use Rattle.rules.specs.Scan.Scanning.{stands_by}
use Rattle.rules.proofs.stations.Stays.standing.Given as goal

abbrev pub invariant-loop-i : goal.invariant-loop-i
invariant-loop-i l = l.count ≡ count_of (stands_by l.self.came l.self.leaves l.t) l.i
