-- `rules::passages::neither_alone` meets its contract: each room tells by its highest bit whether its order fails, and both have it where both fail.
use Rattle.std.proofs.Common.{arith}
use Rattle.rules.specs.Scan.Scanning.{neither_alone}
use Rattle.rules.specs.Scan.SignBitLaws.{room_denies}
use Rattle.rules.proofs.passages.neither_alone.Goals as goal

pub returns : goal.returns
unfolding neither_alone
returns c =
    c.both_deny.ensures _ _
    (room_denies _ _ _ _ (omega arith) (omega arith) (omega arith) c.room-one_first.ensures)
    (room_denies _ _ _ _ (omega arith) (omega arith) (omega arith) c.room-other_first.ensures)
