-- `timetable::writing::is_time` meets its contract: the limits of times are 0 and 2,879. Assumes nothing.
use Rattle.std.proofs.Common.{ap, ◌∙◌, ℕ}
use Rattle.std.specs.Prelude.{is_some, leb}
use Rattle.timetable.specs.WritingLaws.{time_is}
use Rattle.timetable.proofs.writing.is_time.Goals as goal

pub returns : goal.returns
returns c = c.is_some.ensures ∙ ap is_some c.value.ensures ∙ time_is c.from.result ∙ ap (λ (n : ℕ). leb n 2879) c.from.ensures
