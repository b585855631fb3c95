-- `text::put_field` meets its contract: the number's digits and then one byte are the text of the field. Assumes nothing.
use Rattle.text.specs.Writing.SpliceLaws.{put_then}
use Rattle.text.proofs.put_field.Goals as goal

pub returns : goal.returns
returns c = put_then c.put_number-next.ensures c.put_byte.ensures
