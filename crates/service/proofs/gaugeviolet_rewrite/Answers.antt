-- `service::gaugeviolet_rewrite` meets its contract: the answer of rewriting, packed, which its bounds allow. Assumes nothing.
use Rattle.service.specs.PackingLaws.{lent-packed}
use Rattle.service.specs.RewritingLaws.{rewritten_packs}
use Rattle.service.proofs.gaugeviolet_rewrite.Goals as goal

pub pack_written-requires : goal.pack_written-requires
pack_written-requires c = rewritten_packs _ c.rewrite.ensures

pub returns : goal.returns
returns c = lent-packed c.rewrite.ensures c.pack_written.ensures
