-- `rules::passages::neither_behind` meets its contract: each answer of `behind` tells by its highest bit whether its order fails, and both have it where
-- both fail.
use Rattle.rules.specs.Scan.Scanning.{neither_behind}
use Rattle.rules.proofs.passages.neither_behind.Goals as goal

pub returns : goal.returns
unfolding neither_behind
returns c = c.both_deny.ensures _ _ c.behind-one_first.ensures c.behind-other_first.ensures
