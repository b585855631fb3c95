-- `line::reading::track_from` meets its contract. The count of stations is in its range, and after the first section there are still no more lines than
-- bytes. Assumes nothing.
use mathlib.Core.Path.{sym}
use native.Mathlib.Omega.{arith}
use Rattle.line.specs.SectionLaws.{section_range}
use Rattle.line.specs.PlaceLaws.{stations_counted}
use Rattle.line.proofs.reading.track_from.Goals as goal

pub segment_section-requires : goal.segment_section-requires
segment_section-requires c =
    let range = section_range _ _ _ _ _ _ _ _ (sym c.in_ok-stations.ensures) in
    (range.0, range.1, stations_counted _ _ _ (record { fits = omega arith }) _ c.in_ok-stations.ensures)
