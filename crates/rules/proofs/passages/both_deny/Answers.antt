-- `rules::passages::both_deny` meets its contract, by one law of the highest bit.
use Rattle.rules.specs.Scan.SignBitLaws.{both_denied}
use Rattle.rules.proofs.passages.both_deny.Goals as goal

pub returns : goal.returns
returns c = both_denied _ _
