-- `line::reading::complete_track` meets its contract: each `return` is the law of where the file ends: in the trains, in the sections past them, at bytes
-- after them, or there. Assumes nothing.
use mathlib.Core.Path.{sym}
use Rattle.line.specs.SectionLaws.{section_range}
use Rattle.line.specs.PlaceLaws.{trains_counted}
use Rattle.line.proofs.reading.complete_track.Goals as goal

pub further_sections-requires : goal.further_sections-requires
further_sections-requires c =
    let range = section_range _ _ _ _ _ _ _ _ (sym c.in_ok-section.ensures) in
    (range.1, trains_counted _ _ _ c.requires.1 _ _ c.in_ok-section.ensures)
