-- The answers; the idea of the proof is at the head of the invariants.
use Prim.Native.Nat.{◌/◌, ◌%◌}
use mathlib.Core.Path.{◌≡◌, ◌∙◌}
use native.Mathlib.Omega.{arith}
use Rattle.orders.specs.LineTables.Tables.{table_size, table_entry}
use Rattle.finite.specs.FillLaws.{begun_more}
use Rattle.orders.specs.LineTables.TablesLaws.{segment_is, no_segment_is, segments_first}
use Rattle.orders.proofs.tables.segment_tables.Goals as goal
use Rattle.orders.proofs.tables.segment_tables.Goals.{then-p-segments, else-p-segments}

pub loop-x-preserved : goal.loop-x-preserved
loop-x-preserved c =
    let l = c.args.line in
    let w = c.loop-x in
    let here = segments_first l w.x c.loop-x-test.true in
    let entry : c.if-p-segments.table ≡ table_entry l w.x = elim c.if-p-segments.branch [
      | then-p-segments h ↦ h.table-is ∙ h.segment_entry.ensures ∙ segment_is l (w.x / 16) (w.x % 16) (omega (arith, h.if-p-segments.true)) ∙ here
      | else-p-segments h ↦ h.table-is ∙ no_segment_is l (w.x / 16) (w.x % 16) (omega (arith, h.if-p-segments.false)) ∙ here
    ] in
    begun_more (table_entry l) table_size w.x _ _ w.invariant (omega (arith, c.loop-x-test.true)) entry
