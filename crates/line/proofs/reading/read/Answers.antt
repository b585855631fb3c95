-- `line::reading::read` meets its contract: the second part can begin where the reader stands after the first, and the two parts are the file. Assumes
-- nothing.
use mathlib.Core.Path.{◌∙◌, ap}
use Rattle.line.specs.File.{answered}
use Rattle.line.specs.PartsLaws.{told_can_complete, told_in_parts}
use Rattle.line.proofs.reading.read.Goals as goal

pub complete-requires : goal.complete-requires
complete-requires c =
    let o = c.open-start.ensures in
    rw (c.past.ensures.1, o.1) (told_can_complete _ _ (rw (o.0, o.1) at c.read_track-part.ensures))

pub returns : goal.returns
returns c =
    let o = c.open-start.ensures in
    c.complete.ensures
    ∙ ap answered (rw (c.past.ensures.0, c.past.ensures.1, o.0, o.1) (told_in_parts _ _ (rw (o.0, o.1) at c.read_track-part.ensures)))
