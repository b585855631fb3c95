-- `screen::walked` meets its contract: a refused file is its refusal, an accepted one has the length of its line's walk. Assumes nothing.
use mathlib.Core.Path.{◌∙◌, ap}
use Rattle.std.proofs.Common.{Ok}
use Rattle.text.proofs.Reading.HandedLaws.{handed_on}
use Rattle.line.specs.RoundTripLaws.{accepted_read}
use Rattle.screen.specs.Walking.{walk_of}
use Rattle.screen.proofs.walked.Goals as goal

pub returns-in_err-line : goal.returns-in_err-line
returns-in_err-line c = handed_on _ c.from_residual.ensures.1 ∙ ap walk_of c.in_err-line.ensures

pub best_of-requires : goal.best_of-requires
best_of-requires c = let r = accepted_read _ c.in_ok-line.ensures in (r.limits, r.arrays)

pub returns : goal.returns
returns c = ap Ok c.best_of.ensures.steps ∙ ap walk_of c.in_ok-line.ensures
