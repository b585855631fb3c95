-- `plans::day::Day::of` meets its contract: a line within the limits can be run, which its tables ask. Assumes nothing.
use Rattle.line.specs.RunnableLaws.{within_runnable}
use Rattle.plans.proofs.day.Day.of.Goals as goal

pub tables_of-requires : goal.tables_of-requires
tables_of-requires c = within_runnable c.args.line c.requires
