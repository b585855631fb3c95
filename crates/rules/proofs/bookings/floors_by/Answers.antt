-- The answers; the idea of the proof is at the head of the invariants.
use Rattle.std.proofs.Common.{◌-◌, ◌<◌, get_or, arith}
use Rattle.line.specs.Record.{no_booking}
use Rattle.rules.specs.Statement.Paths.{past_train, leg_from}
use Rattle.rules.specs.Check.FloorsLaws.{floors_none, floors_more}
use Rattle.rules.proofs.bookings.floors_by.Goals as goal

pub loop-booking-init : goal.loop-booking-init
loop-booking-init c = floors_none c.args.trains.now c.args.bookings.now

pub loop-booking-preserved : goal.loop-booking-preserved
loop-booking-preserved c =
    let a = c.args in
    let w = c.loop-booking in
    let e = c.requires w.booking-index c.loop-booking-test.true in
    let train = c.from-i.ensures in
    let leg : leg_from (get_or a.trains.now (c.from-i.result - 1) past_train) (get_or a.bookings.now w.booking-index no_booking).station < 11 = rw train e.leg in
    floors_more a.trains.now a.bookings.now w.floors w.booking-index w.invariant (c.from-i.result - 1) c.legs_between.result (omega (arith, train, e.train.0)) c.legs_between.ensures
    (omega (arith, train, e.train), omega (arith, c.legs_between.ensures, leg)) _ c.max.ensures
