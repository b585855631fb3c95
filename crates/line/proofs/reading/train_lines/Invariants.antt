-- `line::reading::train_lines` meets its contract. Each loop's invariant: what is yet to read, laid into the arrays as they stand, gives what its
-- whole gives. A line's train comes from its head and what is yet to read of its journey (`line-yet`), so that each way out of either loop is the
-- law of the field that it ends at. There are no more lines than bytes before either cursor. Assumes nothing.
use Prim.Native.Nat.{◌≤◌, ◌-◌}
use mathlib.Core.Path.{◌≡◌}
use lib.ListN.{replicate}
use Rattle.text.specs.Places.Lines.{Counted}
use Rattle.text.proofs.Elements.LayLaws.{lay_many}
use Rattle.line.specs.Record.{no_train}
use Rattle.line.specs.File.{train_line}
use Rattle.line.specs.TrainLaws.{lay_journey}
use Rattle.line.proofs.reading.train_lines.Given as goal

abbrev pub invariant-loop-k : goal.invariant-loop-k
invariant-loop-k l = (lay_journey (l.between - l.k) l.s l.cursor l.runs l.stops l.k ≡ lay_journey l.between l.s l.initial.cursor l.initial.runs l.initial.stops 0) × (l.between ≤ 10) × Counted l.cursor

abbrev pub invariant-lines : goal.invariant-lines
invariant-lines l = (lay_many (l.count - l.i) (λ left. train_line l.stations) l.s l.cursor l.trains l.i ≡ lay_many l.count (λ left. train_line l.stations) l.s l.initial.cursor (replicate 12 no_train) 0)
    × (l.i ≤ l.count) × Counted l.cursor

abbrev pub decreases-lines : goal.decreases-lines
decreases-lines l = l.count - l.i
