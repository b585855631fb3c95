-- `rules::delay::free_after` meets its contract: it is what the train by itself gives (`arrived_line`). Assumes nothing.
use Rattle.std.proofs.Common.{◌∙◌}
use Rattle.rules.specs.Check.FloorsLaws.{arrived_line}
use Rattle.rules.proofs.delay.free_after.Goals as goal

pub returns : goal.returns
returns c =
    c.arrived_after.ensures
    ∙ arrived_line c.args.line c.requires.0 c.args.floors.now c.requires.1 c.args.i c.requires.2 c.args.k c.requires.3
