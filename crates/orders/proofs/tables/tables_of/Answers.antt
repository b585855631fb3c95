-- The answers; the idea of the proof is at the head of the invariants.
use Prim.Native.Nat.{◌-◌, ◌/◌, ◌%◌}
use mathlib.Core.Path.{◌≡◌, ◌∙◌}
use native.Mathlib.Omega.{arith}
use Rattle.orders.specs.LineTables.Tables.{table_size, table_entry}
use Rattle.finite.specs.FillLaws.{begun_more}
use Rattle.orders.specs.Graph.LegsLaws.{leg_is, leg-not}
use Rattle.orders.specs.LineTables.TablesLaws.{no_leg_is, legs-later, tables_made}
use Rattle.orders.proofs.tables.tables_of.Goals as goal
use Rattle.orders.proofs.tables.tables_of.Goals.{then-ds-e-eq0, else-ds-e-eq0}

pub leg_entry-requires : goal.leg_entry-requires
leg_entry-requires c =
    let x = c.loop-x.x in
    let leg = leg_is c.args.line ((x - 48) % 176) _ c.requires.trains.1 (omega arith) c.directions_of-ds.ensures c.if-ds-e-eq0.false in
    (c.requires, c.dues_of-dues.ensures, omega (arith, c.loop-x-test.true), omega arith, leg)

pub loop-x-preserved : goal.loop-x-preserved
loop-x-preserved c =
    let l = c.args.line in
    let w = c.loop-x in
    let n = (w.x - 48) / 176 in
    let e = (w.x - 48) % 176 in
    let here = legs-later l w.x w.auto.x in
    let entry : c.if-ds-e-eq0.table ≡ table_entry l w.x = elim c.if-ds-e-eq0.branch [
      | then-ds-e-eq0 h ↦ h.table-is ∙ h.no_leg_entry.ensures ∙
          no_leg_is l n e (leg-not l e _ c.requires.trains.1 (omega arith) c.directions_of-ds.ensures h.if-ds-e-eq0.true) ∙ here
      | else-ds-e-eq0 h ↦ h.table-is ∙ h.leg_entry.ensures ∙ here
    ] in
    begun_more (table_entry l) table_size w.x _ _ w.invariant c.loop-x-test.true entry

pub returns : goal.returns
returns c = tables_made _ _ _ c.loop-x.invariant (omega arith)
