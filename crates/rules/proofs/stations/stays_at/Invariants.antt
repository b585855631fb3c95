-- `rules::stations::stays_at` meets its contract. The invariant: the entries are those of the trains below i, so an entry from i on has nobody standing.
-- Assumes nothing.
use Rattle.rules.specs.Scan.Scanning.{StaysOf}
use Rattle.rules.proofs.stations.stays_at.Given as goal

abbrev pub invariant-loop-i : goal.invariant-loop-i
invariant-loop-i l = StaysOf l.ds l.m l.i l.s (record { came = l.came; leaves = l.leaves })
