-- `rules::rules::ends_right` meets its contract. A path has at least one leg, so there is a last. Assumes nothing.
use Rattle.rules.specs.Check.RulesLaws.{ends_is}
use Rattle.rules.proofs.rules.ends_right.Goals as goal

pub returns : goal.returns
returns c =
    ends_is c.args.train _ c.args.i c.legs_between-last.ensures c.arrival_of.ensures
