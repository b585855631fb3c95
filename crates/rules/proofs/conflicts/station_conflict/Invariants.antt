-- `rules::conflicts::station_conflict` meets its contract. The invariant: no station below s has a conflict. Assumes nothing.
use Rattle.rules.specs.Scan.StationLaws.{NoCrowd}
use Rattle.rules.proofs.conflicts.station_conflict.Given as goal

abbrev pub invariant-loop-s : goal.invariant-loop-s
invariant-loop-s l = NoCrowd l.layout.tracks l.ds l.m l.layout.stations l.layout.trains l.s
