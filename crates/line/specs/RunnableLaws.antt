-- A law of lines whose trains can be run: a line within the limits is one.
use Rattle.std.specs.Prelude.{ℕ}
use Rattle.std.proofs.Common.{arith}
use Rattle.text.proofs.Sections.ChainedLaws.{each_of_after}
use Rattle.finite.specs.EachLaws.{each_map}
use Rattle.line.specs.declared.Train.{Train}
use Rattle.line.specs.declared.Line.{Line}
use Rattle.line.specs.Ranges.{In, stop}
use Rattle.line.specs.Record.{no_booking, trains_of, bookings_of, stops_of}
use Rattle.line.specs.Within.{TrainWithin, BookingWithin, Within}
use Rattle.line.specs.Runnable.{held_stop, TrainRunnable, BookingRunnable, Runnable}

train_within_runnable : (n : ℕ) (t : Train) → TrainWithin n t → TrainRunnable n t
train_within_runnable n t w =
    record {
      origin = w.origin;
      destination = w.destination;
      apart = w.apart;
      earliest = (w.earliest.0, omega (arith, w.earliest.1));
      latest = w.latest;
      weight = w.weight;
      runs = w.runs;
      stops = each_map (In stop) (In held_stop) (λ x b. (b.0, omega (arith, b.1))) (stops_of t) w.stops;
    }

pub within_runnable : (l : Line) → Within l → Runnable l
within_runnable l w =
    let n = l.track.station_count in
    record {
      stations = w.stations;
      segments = w.segments;
      trains = w.trains;
      each_train = each_map (TrainWithin n) (TrainRunnable n) (train_within_runnable n) (trains_of l) w.each_train;
      bookings = w.bookings;
      each_booking =
          each_of_after (λ before b. b) (BookingWithin n (trains_of l)) (BookingRunnable (trains_of l))
          (λ before b v. record { train = v.train; middle = v.middle; minute = v.minute }) (bookings_of l) no_booking w.each_booking;
      dues = w.dues;
    }
