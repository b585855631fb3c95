-- `line::writing::put_line` meets its contract: the parts of the text are written one after the other, and each fits where all of them do. A train within
-- the limits has a path. Assumes nothing.
use Rattle.std.proofs.Common.{ℕ, arith, ap, length, append_assoc, length-append}
use Rattle.finite.specs.EachLaws.{each_map, each_any}
use Rattle.line.specs.Record.{trains_of, HasPath}
use Rattle.line.specs.Within.{TrainWithin}
use Rattle.line.specs.RecordLaws.{train_path}
use Rattle.line.specs.LengthLaws.{text_fits}
use Rattle.line.specs.SpellLaws.{line_parts, line_size, further_parts, further_size}
use Rattle.line.proofs.writing.put_line.Goals as goal

pub field-requires : goal.field-requires
field-requires c =
    rw c.from.ensures (omega arith, (rw c.requires.1 (omega (arith, text_fits c.args.line c.requires.0, line_size c.args.line)), omega arith))

pub put_each-requires : goal.put_each-requires
put_each-requires c =
    let count = ap length (rw (c.from.ensures, c.requires.1) at c.field.ensures) in
    rw c.from-n.ensures (each_any _, omega (arith, length-append {A = ℕ}, text_fits c.args.line c.requires.0, line_size c.args.line))

pub field-requires-2 : goal.field-requires-2
field-requires-2 c =
    let count = ap length (rw (c.from.ensures, c.requires.1) at c.field.ensures) in
    let stations = ap length (rw c.from-n.ensures at c.put_each.ensures) in
    rw c.from-2.ensures (omega arith, (omega (arith, length-append {A = ℕ}, text_fits c.args.line c.requires.0, line_size c.args.line), omega arith))

pub put_each-requires-2 : goal.put_each-requires-2
put_each-requires-2 c =
    let count = ap length (rw (c.from.ensures, c.requires.1) at c.field.ensures) in
    let stations = ap length (rw c.from-n.ensures at c.put_each.ensures) in
    let joins = ap length (rw c.from-2.ensures at c.field-2.ensures) in
    rw c.from-n.ensures (each_any _, omega (arith, length-append {A = ℕ}, text_fits c.args.line c.requires.0, line_size c.args.line))

pub field-requires-3 : goal.field-requires-3
field-requires-3 c =
    let count = ap length (rw (c.from.ensures, c.requires.1) at c.field.ensures) in
    let stations = ap length (rw c.from-n.ensures at c.put_each.ensures) in
    let joins = ap length (rw c.from-2.ensures at c.field-2.ensures) in
    let segments = ap length (rw c.from-n.ensures at c.put_each-2.ensures) in
    rw c.from-3.ensures (omega arith, (omega (arith, length-append {A = ℕ}, text_fits c.args.line c.requires.0, line_size c.args.line), omega arith))

pub put_each-requires-3 : goal.put_each-requires-3
put_each-requires-3 c =
    let count = ap length (rw (c.from.ensures, c.requires.1) at c.field.ensures) in
    let stations = ap length (rw c.from-n.ensures at c.put_each.ensures) in
    let joins = ap length (rw c.from-2.ensures at c.field-2.ensures) in
    let segments = ap length (rw c.from-n.ensures at c.put_each-2.ensures) in
    let number = ap length (rw c.from-3.ensures at c.field-3.ensures) in
    rw c.from-4.ensures (
      each_map (TrainWithin c.args.line.track.station_count) HasPath (train_path c.args.line.track.station_count c.requires.0.stations.1) (trains_of c.args.line)
          c.requires.0.each_train,
      omega (arith, length-append {A = ℕ}, text_fits c.args.line c.requires.0, line_size c.args.line),
    )

pub put_booked-requires : goal.put_booked-requires
put_booked-requires c =
    let count = ap length (rw (c.from.ensures, c.requires.1) at c.field.ensures) in
    let stations = ap length (rw c.from-n.ensures at c.put_each.ensures) in
    let joins = ap length (rw c.from-2.ensures at c.field-2.ensures) in
    let segments = ap length (rw c.from-n.ensures at c.put_each-2.ensures) in
    let number = ap length (rw c.from-3.ensures at c.field-3.ensures) in
    let trains = ap length (rw c.from-4.ensures at c.put_each-3.ensures) in
    (c.requires.0.bookings.1, omega (arith, length-append {A = ℕ}, text_fits c.args.line c.requires.0, line_size c.args.line, further_size c.args.line.booked c.args.line.dues))

pub put_list-requires : goal.put_list-requires
put_list-requires c =
    let count = ap length (rw (c.from.ensures, c.requires.1) at c.field.ensures) in
    let stations = ap length (rw c.from-n.ensures at c.put_each.ensures) in
    let joins = ap length (rw c.from-2.ensures at c.field-2.ensures) in
    let segments = ap length (rw c.from-n.ensures at c.put_each-2.ensures) in
    let number = ap length (rw c.from-3.ensures at c.field-3.ensures) in
    let trains = ap length (rw c.from-4.ensures at c.put_each-3.ensures) in
    let bookings = ap length (c.put_booked.ensures) in
    (omega (arith, c.requires.0.dues, c.requires.0.trains), omega (arith, length-append {A = ℕ}, text_fits c.args.line c.requires.0, line_size c.args.line, further_size c.args.line.booked c.args.line.dues))

pub returns : goal.returns
returns c =
    rw (c.put_list.ensures, c.put_booked.ensures, c.put_each-3.ensures, c.field-3.ensures, c.put_each-2.ensures, c.field-2.ensures, c.put_each.ensures, c.field.ensures)
    (rw (c.requires.1, c.from.ensures, c.from-n.ensures, c.from-2.ensures, c.from-3.ensures, c.from-4.ensures)
    (rw (line_parts c.args.line, further_parts c.args.line.booked c.args.line.dues) (simp append_assoc)))
