-- `service::gaugeviolet_check` meets its contract: the answer of the check, packed, which its bounds allow. Assumes nothing.
use Rattle.service.specs.PackingLaws.{check_packs}
use Rattle.service.proofs.gaugeviolet_check.Goals as goal

pub pack_answer-requires : goal.pack_answer-requires
pack_answer-requires c = rw c.check.ensures (check_packs _ _)

pub returns : goal.returns
returns c = rw (← c.check.ensures) c.pack_answer.ensures
