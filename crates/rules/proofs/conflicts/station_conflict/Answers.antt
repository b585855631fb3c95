-- The answers; the idea of the proof is at the head of the invariants.
use Rattle.std.proofs.Common.{refl, sym, ◌∙◌, arith}
use Rattle.rules.specs.Scan.StationLaws.{station-start, station-on, station_found, station_none}
use Rattle.rules.proofs.conflicts.station_conflict.Goals as goal

pub loop-s-init : goal.loop-s-init
loop-s-init c = station-start _ _ _ _ _

pub returns-in-Some : goal.returns-in-Some
returns-in-Some c =
    station_found c.args.layout.tracks _ _ _ _ _ _ c.loop-s.invariant (omega arith) (omega arith) (sym c.in-Some.is ∙ c.crowd_on.ensures) (λ d. refl)

pub loop-s-preserved : goal.loop-s-preserved
loop-s-preserved c =
    station-on c.args.layout.tracks _ _ _ _ _ _ c.loop-s.invariant (omega arith) (omega arith) c.crowd_on.ensures c.in_default.is

pub returns : goal.returns
returns c = station_none _ _ _ _ _ _ c.loop-s.invariant (omega arith)
