-- `text::put_text` meets its contract: the text is copied over the bytes there. Assumes nothing.
use Rattle.text.specs.Writing.SpliceLaws.{put_over}
use Rattle.text.proofs.put_text.Goals as goal

pub returns : goal.returns
returns c =
    let a = c.args in
    put_over a.out.now a.text.now _ a.at c.requires c.copy_from_slice.ensures.after
