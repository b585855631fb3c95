-- The answers; the idea of the proof is at the head of the invariants.
use mathlib.Core.Path.{◌≡◌, ap}
use mathlib.Core.List.{List}
use native.Mathlib.Omega.{arith}
use lib.ListN.{length}
use Rattle.line.specs.declared.Train.{Train}
use Rattle.line.specs.declared.Line.{Line}
use Rattle.line.specs.Record.{traffic_with}
use Rattle.orders.specs.Waived.WaivingLaws.{waived-all}
use Rattle.orders.proofs.waived.waive_latests.Goals as goal

-- the line with these trains
abbrev made : Line → List Train → Line
made l ts = record { track = l.track; traffic = traffic_with l.traffic.train_count ts; booked = l.booked; dues = l.dues }

pub returns : goal.returns
returns c =
    let size : length c.args.line.traffic.trains ≡ 12 = omega arith in
    let l = c.args.line in
    ap (λ (ts : List Train). made l ts) (waived-all _ _ _ c.loop-i.invariant (omega (arith, size)))
