-- `line::reading::list_section` meets its contract: a line of a list may be read at any cursor with no more lines than bytes, and leaves such a cursor. Assumes
-- nothing.
use mathlib.Core.Path.{◌≡◌}
use Rattle.std.proofs.Common.{arith, of_calls}
use Rattle.text.specs.Reading.Parsed.{Parsed}
use Rattle.line.specs.File.{listed_line}
use Rattle.line.specs.PlaceLaws.{listed_counted}
use Rattle.line.proofs.reading.list_section.Goals as goal

pub rising_section-requires : goal.rising_section-requires
rising_section-requires c = (
  omega arith,
  (
    c.requires.0,
    c.requires.1,
    λ at before h. (
      search of_calls,
      λ x next post.
          let told : Parsed.got x next ≡ listed_line c.args.trains c.args.limits before c.args.s.now at = search of_calls in
          listed_counted _ _ _ h _ _ _ _ told,
    ),
  ),
)
