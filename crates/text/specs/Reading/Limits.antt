-- Limits: a number from lo to hi is a value of its type.
use Rattle.std.specs.Prelude.{ℕ, Option, Some, None, ltb}
use Rattle.text.specs.Reading.Choice.{pick}

unfoldable pub bounded_of : ℕ → ℕ → ℕ → Option ℕ
bounded_of lo hi n = pick (ltb n lo) None (pick (ltb hi n) None (Some n))
