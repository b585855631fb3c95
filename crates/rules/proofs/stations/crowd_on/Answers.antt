-- `rules::stations::crowd_on` meets its contract: the law of a crowd, found at its minute. Assumes nothing.
use Rattle.std.proofs.Common.{sym, ◌∙◌}
use Rattle.rules.specs.Scan.StationLaws.{crowd_minute}
use Rattle.rules.proofs.stations.crowd_on.Goals as goal

pub returns : goal.returns
returns c = crowd_minute _ _ _ _ _ _ _ (sym c.earliest_crowd.ensures ∙ c.in_ok-minute.was) c.crowd_mask.ensures
