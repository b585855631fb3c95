-- A file read and its line written out again.
use Rattle.std.specs.Prelude.{ℕ, List, Result, Ok, Err}
use Rattle.text.specs.declared.Refusal.{Refusal}
use Rattle.text.specs.Writing.Lend.{Spelling}
use Rattle.line.specs.declared.Line.{Line}
use Rattle.line.specs.File.{line_file, answered}
use Rattle.line.specs.Writing.{spelling}
use Rattle.service.specs.Packing.{LentPacked}

-- what there is to write: the refusal of the file, or what there is to write for its line
abbrev pub respelt : Result Line Refusal → Spelling
respelt (Ok l) = spelling l
respelt (Err r) = Spelling.refused r.number r.place

unfoldable pub rewriting : List ℕ → Spelling
rewriting file = respelt (answered (line_file file))

-- the answer and the lent bytes
abbrev pub Rewritten : List ℕ → List ℕ → List ℕ → ℕ → Type 0
Rewritten file entry exit r = LentPacked (rewriting file) entry exit r
