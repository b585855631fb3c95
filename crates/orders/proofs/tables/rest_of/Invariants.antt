-- `orders::tables::rest_of` meets its contract. The invariant: the sum is that of the last k legs; it is at most 720 k (`rest_most`). Assumes nothing.
use mathlib.Core.Path.{◌≡◌}
use Rattle.orders.specs.LineTables.Tables.{rest_of}
use Rattle.orders.proofs.tables.rest_of.Given as goal

abbrev pub invariant-loop-k : goal.invariant-loop-k
invariant-loop-k l = l.rest ≡ rest_of l.fn.line l.i l.k
