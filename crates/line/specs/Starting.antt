-- A line in which the earliest minute of one train is replaced: document 02, K5, "the file with that one field altered", as a record.
use Rattle.std.specs.Prelude.{ℕ}
use Rattle.finite.specs.Alter.{altered}
use Rattle.line.specs.declared.Train.{Train}
use Rattle.line.specs.declared.Line.{Line}
use Rattle.line.specs.Record.{traffic_with}

-- the train that may depart from a minute on, in all else as it was
abbrev pub starting_at : ℕ → Train → Train
starting_at minute t =
    record {
      origin = t.origin;
      destination = t.destination;
      earliest = minute;
      latest = t.latest;
      weight = t.weight;
      runs = t.runs;
      stops = t.stops;
    }

-- the line whose train i, which is train number i + 1, may depart from a minute on
abbrev pub starting : ℕ → ℕ → Line → Line
starting i minute l =
    record {
      track = l.track;
      traffic = traffic_with l.traffic.train_count (altered (starting_at minute) i l.traffic.trains);
      booked = l.booked;
      dues = l.dues;
    }
