-- The last line of a text whose lines each end with a line feed.
use Rattle.std.specs.Prelude.{ℕ, List, [], ◌∷◌, ◌++◌, eqb}
use Rattle.text.specs.Reading.Choice.{pick}

-- through the bytes that are left, with the last line that has ended and the bytes of the next one so far
abbrev pub last_from : List ℕ → List ℕ → List ℕ → List ℕ
last_from [] last line = last
last_from (b ∷ bs) last line = pick (eqb b 10) (last_from bs line []) (last_from bs last (line ++ (b ∷ [])))

-- its bytes, without the line feed
unfoldable pub last_line : List ℕ → List ℕ
last_line s = last_from s [] []
