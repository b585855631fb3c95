-- `orders::tables::tables_of` meets its contract. The invariant: the first x entries are there. The table of directions tells which are legs of a train.
-- Assumes nothing.
use Rattle.orders.specs.LineTables.Tables.{table_size, table_entry}
use Rattle.finite.specs.FillLaws.{Begun}
use Rattle.orders.proofs.tables.tables_of.Given as goal

abbrev pub invariant-loop-x : goal.invariant-loop-x
invariant-loop-x l = Begun (table_entry l.line) table_size l.x l.table
