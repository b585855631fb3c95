-- `rules::rules::segment_between` meets its contract: the two cases of the specification, whose differences are not cut off. Assumes nothing.
use Rattle.std.proofs.Common.{arith}
use Rattle.rules.specs.StatementLaws.PathsLaws.{segment_out, segment_in}
use Rattle.rules.proofs.rules.segment_between.Goals as goal

pub returns-then-origin-destination : goal.returns-then-origin-destination
returns-then-origin-destination c = rw c.from-o.ensures (segment_out _ _ _ (omega arith), omega arith)

pub returns-else-origin-destination : goal.returns-else-origin-destination
returns-else-origin-destination c = rw c.from-o.ensures (segment_in _ _ _ (omega arith), omega arith)
