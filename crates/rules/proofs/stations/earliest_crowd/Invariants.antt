-- `rules::stations::earliest_crowd` meets its contract. The invariant: the minute is the earliest crowded one among the arrivals of the trains below i.
-- Assumes nothing.
use Rattle.rules.specs.Scan.StationLaws.{Earliest}
use Rattle.rules.proofs.stations.earliest_crowd.Given as goal

abbrev pub invariant-loop-i : goal.invariant-loop-i
invariant-loop-i l = Earliest l.ds l.m l.n l.tracks l.s l.i l.earliest
