-- `gtfs::importing::clock_field` meets its contract: hour, minute and seconds in turn; the hour is at most 47 and the minute at most 59, so the sum
-- fits. Assumes nothing.
use mathlib.Core.Path.{sym}
use native.Mathlib.Omega.{arith}
use Rattle.text.proofs.Places.LinesLaws.{paired_counted}
use Rattle.text.proofs.Reading.FixedLaws.{paired_spelt}
use Rattle.gtfs.proofs.importing.clock_field.Goals as goal

pub paired-requires-2 : goal.paired-requires-2
paired-requires-2 c = paired_counted 20 20 0 47 58 _ c.requires c.paired.ensures c.in_ok-hour.was

pub past_text-requires : goal.past_text-requires
past_text-requires c =
    let after-hour = paired_counted 20 20 0 47 58 _ c.requires c.paired.ensures c.in_ok-hour.was in
    paired_counted 20 20 0 59 58 _ after-hour c.paired-2.ensures c.in_ok-minute.was

pub overflow_mul-result : goal.overflow_mul-result
overflow_mul-result c = omega (arith, (paired_spelt 20 20 0 47 58 _ _ _ _ (omega arith) (sym c.in_ok-hour.ensures)).high)

pub overflow_add-result : goal.overflow_add-result
overflow_add-result c =
    let hour = paired_spelt 20 20 0 47 58 _ _ _ _ (omega arith) (sym c.in_ok-hour.ensures) in
    let minute = paired_spelt 20 20 0 59 58 _ _ _ _ (omega arith) (sym c.in_ok-minute.ensures) in
    omega (arith, hour.high, minute.high)
