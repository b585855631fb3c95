-- `text::writer::Writer::field` meets its contract: what was put after the bytes so far stands after them. Assumes nothing.
use Rattle.std.proofs.Common.{ap, length, length-take-le, arith}
use Rattle.text.specs.Writing.SpliceLaws.{put_after}
use Rattle.text.proofs.writer.Writer.field.Goals as goal

pub returns : goal.returns
returns g c =
    let size = length-take-le c.self.inside.count c.self.inside.buffer c.self.invariant in
    rw (← c.self.view_is) (put_after c.put_field-self-inside.ensures (omega (arith, ap length c.self.view_is)))
