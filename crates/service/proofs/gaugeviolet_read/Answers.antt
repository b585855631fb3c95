-- `service::gaugeviolet_read` meets its contract: the answer of the reading, packed, which its bounds allow. Assumes nothing.
use Rattle.service.specs.PackingLaws.{read_packs}
use Rattle.service.proofs.gaugeviolet_read.Goals as goal

pub pack_answer-requires : goal.pack_answer-requires
pack_answer-requires c = rw c.read.ensures (read_packs _)

pub returns : goal.returns
returns c = rw (← c.read.ensures) c.pack_answer.ensures
