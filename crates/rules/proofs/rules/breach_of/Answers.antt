-- `rules::rules::breach_of` meets its contract: a line within the limits can be run, so it has its floors. Assumes nothing.
use Rattle.line.specs.RunnableLaws.{within_runnable}
use Rattle.rules.proofs.rules.breach_of.Goals as goal

pub floors_of-requires : goal.floors_of-requires
floors_of-requires c = within_runnable _ c.requires
