-- `screen::gaugeviolet_export` meets its contract: the answer of exporting, packed, which its bounds allow. Assumes nothing.
use Rattle.gtfs.proofs.BoundsLaws.{export_bounded}
use Rattle.service.specs.PackingLaws.{lent-packed}
use Rattle.screen.specs.StopTimesLaws.{bounded_packs}
use Rattle.screen.proofs.gaugeviolet_export.Goals as goal

pub pack_written-requires : goal.pack_written-requires
pack_written-requires c = bounded_packs _ (export_bounded _ _) c.export.ensures

pub returns : goal.returns
returns c = lent-packed c.export.ensures c.pack_written.ensures
