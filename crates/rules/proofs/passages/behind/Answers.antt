-- `rules::passages::behind` meets its contract: each room tells by its highest bit whether its gap is short, and one of them has it where one is.
use Rattle.std.proofs.Common.{arith}
use Rattle.rules.specs.Scan.Scanning.{keeps_behind}
use Rattle.rules.specs.Scan.SignBitLaws.{room_denies, either_denies}
use Rattle.rules.proofs.passages.behind.Goals as goal

pub returns : goal.returns
unfolding keeps_behind
returns c =
    either_denies _ _ _ _
    (room_denies _ _ _ _ (omega arith) (omega arith) (omega arith) c.room.ensures)
    (room_denies _ _ _ _ (omega arith) (omega arith) (omega arith) c.room-2.ensures)
