-- `gtfs::exporting::leaves_after` meets its contract: the next leg's departure, or where there is none the arrival. Assumes nothing.
use Rattle.std.proofs.Common.{◌∙◌, sym, arith}
use Rattle.gtfs.proofs.SpeltLaws.{leaves_on, leaves_last}
use Rattle.gtfs.proofs.exporting.leaves_after.Goals as goal

pub returns-then-next-legs_between : goal.returns-then-next-legs_between
returns-then-next-legs_between c = c.departure_of.ensures ∙ sym (leaves_on _ _ _ _ (omega (arith, c.if-next-legs_between.true, c.legs_between.ensures)))

pub returns-else-next-legs_between : goal.returns-else-next-legs_between
returns-else-next-legs_between c =
    c.arrival_of.ensures ∙ sym (leaves_last _ _ _ _ (omega (arith, c.if-next-legs_between.false, c.legs_between.ensures, c.requires)))
