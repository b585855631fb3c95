-- `rules::directions::directions_of` meets its contract. The invariant: of the entries taken train by train, and for each by segment, the first
-- 11 i + p are filled and the others are 0; so the end of the inner loop is the start of the next outer round.
use Rattle.std.proofs.Common.{◌+◌, ◌*◌}
use Rattle.rules.specs.Conflict.DirectionsLaws.{Filled}
use Rattle.rules.proofs.directions.directions_of.Given as goal

abbrev pub invariant-loop-p : goal.invariant-loop-p
invariant-loop-p l = Filled l.line (11 * l.i + l.p) l.table

abbrev pub invariant-loop-i : goal.invariant-loop-i
invariant-loop-i l = Filled l.line (11 * l.i) l.table
