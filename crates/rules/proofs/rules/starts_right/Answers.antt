-- `rules::rules::starts_right` meets its contract. A path has at least one leg. Assumes nothing.
use Rattle.rules.specs.Check.RulesLaws.{starts_is}
use Rattle.rules.proofs.rules.starts_right.Goals as goal

pub returns : goal.returns
returns c =
    starts_is c.args.train _ c.args.i c.departure_of.ensures
