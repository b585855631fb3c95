-- What writing a text into a buffer does.
use Rattle.std.specs.Prelude.{ℕ, ◌+◌, ◌≡◌, List, length}
use Rattle.std.proofs.lemmas.List.Edits.{sets}

-- the text t stands in the buffer from position `at` on, every other byte is as before, and the answer is the position after it
pub record Put (entry exit : List ℕ) (at : ℕ) (t : List ℕ) (r : ℕ) : Type 0 where
  pub bytes : exit ≡ sets entry at t
  pub next : r ≡ at + length t
