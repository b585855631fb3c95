-- A line with every latest waived: its trains may arrive up to 2,879, the last minute of all. Rule 13 asks nothing then, so raising over its tables tells of
-- every plan whether it has least minutes.
use Rattle.std.specs.Prelude.{map}
use Rattle.line.specs.declared.Train.{Train}
use Rattle.line.specs.declared.Line.{Line}
use Rattle.line.specs.Record.{traffic_with}

abbrev pub waived_train : Train → Train
waived_train t =
    record {
      origin = t.origin;
      destination = t.destination;
      earliest = t.earliest;
      latest = 2879;
      weight = t.weight;
      runs = t.runs;
      stops = t.stops;
    }

abbrev pub waived : Line → Line
waived l =
    record {
      track = l.track;
      traffic = traffic_with l.traffic.train_count (map waived_train l.traffic.trains);
      booked = l.booked;
      dues = l.dues;
    }
