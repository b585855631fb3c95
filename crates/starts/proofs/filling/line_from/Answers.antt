-- `starts::filling::line_from` meets its contract: the earliest minute of the train is altered in the list. Assumes nothing.
use mathlib.Core.Path.{◌≡◌, ap}
use mathlib.Core.List.{List}
use native.Mathlib.Omega.{arith}
use lib.ListN.{length}
use borrow.Author.Rules.{rules}
use Rattle.finite.specs.AlterLaws.{altered-set}
use Rattle.line.specs.declared.Line.{Line}
use Rattle.line.specs.declared.Train.{Train}
use Rattle.line.specs.Record.{traffic_with}
use Rattle.line.specs.Starting.{starting_at}
use Rattle.starts.proofs.filling.line_from.Goals as goal

-- the line with these trains
abbrev made : Line → List Train → Line
made l ts = record { track = l.track; traffic = traffic_with l.traffic.train_count ts; booked = l.booked; dues = l.dues }

pub returns : goal.returns
returns c =
    let l = c.args.line in
    let ts = l.traffic.trains in
    let size : length ts ≡ 12 = search rules in
    ap (λ (xs : List Train). made l xs) (altered-set (starting_at c.args.minute) c.args.i ts _ (omega (arith, c.requires, size)))
