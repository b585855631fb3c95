-- `service::rewrite` meets its contract: a refused file is its refusal, an accepted one what writing its line gives. Assumes nothing.
use Rattle.text.proofs.Reading.HandedLaws.{handed_on}
use Rattle.text.specs.Writing.LendLaws.{lent_as, lent_refused}
use Rattle.service.specs.RewritingLaws.{rewritten_line, rewritten_refused}
use Rattle.service.proofs.rewrite.Goals as goal

pub returns-in_err-line : goal.returns-in_err-line
returns-in_err-line c = lent_refused _ (handed_on _ c.from_residual.ensures.1) (rewritten_refused _ c.in_err-line.ensures)

pub returns : goal.returns
returns c = lent_as (rewritten_line _ c.in_ok-line.ensures) c.write.ensures.0
