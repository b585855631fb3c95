-- The answer; the idea of the proof is at the head of the invariants.
use Rattle.text.specs.Writing.DigitsLaws.{digits_more}
use Rattle.text.specs.Writing.SpliceLaws.{put_then}
use Rattle.text.proofs.+put_number.Goals as goal

pub returns : goal.returns
returns t c =
    rw (digits_more c.args.n c.if-n-lt10.false c.requires.1)
    (put_then c.put_number-next.ensures c.put_byte-2.ensures)
