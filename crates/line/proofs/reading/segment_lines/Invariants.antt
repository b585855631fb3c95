-- `line::reading::segment_lines` meets its contract. Each loop's invariant: what is yet to read, laid into its array as it stands, gives what its whole
-- gives, and there are no more lines than bytes. A line's segment comes from its kind and what is yet to read of its gaps (`line-yet`). Assumes nothing.
use Prim.Native.Nat.{◌≤◌, ◌-◌}
use mathlib.Core.Path.{◌≡◌}
use lib.ListN.{replicate}
use Rattle.text.specs.Places.Lines.{Counted}
use Rattle.text.proofs.Elements.LayLaws.{lay_many}
use Rattle.line.specs.File.{segment_line}
use Rattle.line.specs.FileLaws.{gap_at}
use Rattle.line.proofs.reading.segment_lines.Given as goal

abbrev pub invariant-loop-k : goal.invariant-loop-k
invariant-loop-k l = (lay_many (2 - l.k) gap_at l.s l.cursor l.gaps l.k ≡ lay_many 2 gap_at l.s l.initial.cursor (replicate 2 0) 0) × Counted l.cursor

abbrev pub invariant-lines : goal.invariant-lines
invariant-lines l = (lay_many (l.count - l.i) (λ left. segment_line) l.s l.cursor l.segments l.i ≡ lay_many l.count (λ left. segment_line) l.s l.initial.cursor l.initial.segments 0) × (l.i ≤ l.count)
    × Counted l.cursor

abbrev pub decreases-lines : goal.decreases-lines
decreases-lines l = l.count - l.i
