-- `timetable::writing::write` meets its contract: the first fault of the line or its minutes is the refusal, and the lent bytes are not touched;
-- without one the line is within the limits and the minutes are of the two days, and their text is lent. Assumes nothing.
use Rattle.std.proofs.Common.{◌≡◌, ◌∙◌, sym, Err, rules}
use Rattle.text.specs.Writing.LendLaws.{lent_refused, lent_as}
use Rattle.timetable.specs.Writing.{spelling}
use Rattle.timetable.specs.WritingLaws.{tells_first, spelling_refused, spelling_clean}
use Rattle.timetable.proofs.writing.write.Goals as goal

pub write_text-requires : goal.write_text-requires
write_text-requires c = (tells_first c.args.line c.args.minutes).holds (sym c.first_fault.ensures ∙ c.in_ok-first_fault.was)

pub returns-in_err-first_fault : goal.returns-in_err-first_fault
unfolding spelling
returns-in_err-first_fault c =
    let same : c.from_residual.result ≡ Err c.in_err-first_fault.field-0.0 = search rules in
    lent_refused c.args.out.now same (spelling_refused c.args.line c.args.minutes _ (sym c.first_fault.ensures ∙ c.in_err-first_fault.was))

pub returns : goal.returns
unfolding spelling
returns c =
    let none = sym c.first_fault.ensures ∙ c.in_ok-first_fault.was in
    lent_as (spelling_clean c.args.line c.args.minutes _ none) c.write_text.ensures
