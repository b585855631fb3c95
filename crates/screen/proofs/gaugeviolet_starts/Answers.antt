-- `screen::gaugeviolet_starts` meets its contract: the answer, packed, which its bounds allow. Assumes nothing.
use Rattle.screen.specs.StartedLaws.{starts_packs}
use Rattle.screen.proofs.gaugeviolet_starts.Goals as goal

pub pack_answer-requires : goal.pack_answer-requires
pack_answer-requires c = starts_packs _ _ _ _ _ _ c.starts.ensures
