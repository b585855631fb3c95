-- `text::Cursor::past_text` meets its contract. The invariant: the bytes yet to pass lead where the whole text leads, and there are no more lines than
-- bytes. Assumes nothing.
use mathlib.Core.Path.{◌≡◌}
use lib.ListN.{drop}
use Rattle.text.specs.Places.Lines.{Counted}
use Rattle.text.specs.Reading.Fixed.{past_all}
use Rattle.text.proofs.Cursor.past_text.Given as goal

abbrev pub invariant-loop-b : goal.invariant-loop-b
invariant-loop-b l = (past_all (drop l.b-index l.text) l.s l.cursor ≡ past_all l.text l.s l.self) × Counted l.cursor
