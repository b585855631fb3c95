-- Writing into lent bytes: the text at their front and the former content after it, or a refusal and every byte as before.
use Rattle.std.specs.Prelude.{ℕ, ◌≡◌, List, ◌++◌, length, drop, leb, Result, Ok, Err}
use Rattle.text.specs.declared.Refusal.{Refusal}
use Rattle.text.specs.Reading.Choice.{pick}
use Rattle.text.specs.Reading.Told.{refusal}

-- what there is to write: a text, or a refusal with its number and place
pub data Spelling : Type 0 where
  text : List ℕ → Spelling
  refused : ℕ → ℕ → Spelling

-- the answer: the length of the text; 6 at 0, last of all, where the lent bytes are fewer
unfoldable pub written_of : Spelling → ℕ → Result ℕ Refusal
written_of (Spelling.text t) room = pick (leb (length t) room) (Ok (length t)) (refusal 6 0)
written_of (Spelling.refused n p) room = refusal n p

-- the lent bytes after a writing that gave this answer: refused, all as before; written, the text and then the former content
abbrev pub bytes_after : Result ℕ Refusal → Spelling → List ℕ → List ℕ
bytes_after (Ok n) (Spelling.text t) out = t ++ drop (length t) out
bytes_after (Ok n) (Spelling.refused m p) out = out
bytes_after (Err e) what out = out

pub record Lent (what : Spelling) (entry exit : List ℕ) (r : Result ℕ Refusal) : Type 0 where
  pub answer : r ≡ written_of what (length entry)
  pub bytes : exit ≡ bytes_after r what entry
