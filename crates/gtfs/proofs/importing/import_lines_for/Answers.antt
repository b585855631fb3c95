-- `gtfs::importing::import_lines_for` meets its contract: minutes that were read are of the two days, so their lines are written; a refusal is handed on.
-- Assumes nothing.
use mathlib.Core.Path.{◌≡◌}
use lib.ListN.{length}
use Rattle.text.proofs.Reading.HandedLaws.{handed_on}
use Rattle.text.specs.Writing.LendLaws.{lent_as, lent_refused}
use Rattle.line.specs.RunnableLaws.{within_runnable}
use Rattle.rules.specs.StatementLaws.PathsLaws.{routed}
use Rattle.gtfs.proofs.OperationsLaws.{lines_refused, lines_written}
use borrow.Author.Rules.{rules}
use Rattle.gtfs.proofs.importing.import_lines_for.Goals as goal

pub returns-in_err-minutes : goal.returns-in_err-minutes
returns-in_err-minutes c = lent_refused _ (handed_on _ c.from_residual.ensures.1) (lines_refused _ _ c.in_err-minutes.ensures)

pub returns : goal.returns
returns c =
    let l = c.args.line in
    let size : length l.traffic.trains ≡ 12 = search rules in
    lent_as (lines_written l _ c.requires (λ i h. routed l i (within_runnable l c.requires) size h) c.in_ok-minutes.ensures) c.write_lines.ensures
