-- `screen::gaugeviolet_import` meets its contract: the answer of importing, packed, which its bounds allow. Assumes nothing.
use Rattle.gtfs.proofs.BoundsLaws.{import_bounded}
use Rattle.service.specs.PackingLaws.{lent-packed}
use Rattle.screen.specs.StopTimesLaws.{bounded_packs}
use Rattle.screen.proofs.gaugeviolet_import.Goals as goal

pub pack_written-requires : goal.pack_written-requires
pack_written-requires c = bounded_packs _ (import_bounded _ _) c.import_lines.ensures

pub returns : goal.returns
returns c = lent-packed c.import_lines.ensures c.pack_written.ensures
