-- Which way each train goes over each segment, as a table: 0 not at all, 1 outbound, 2 inbound; that of train i on segment p at entry 16 p + i.
use Rattle.std.specs.Prelude.{ℕ, ◌+◌, ◌-◌, ◌*◌, ◌/◌, ◌%◌, min, max, Bool, cond, not, ◌&&◌, List, ◌==◌, nat_le, nat_lt, slice_index}
use Rattle.finite.specs.Below.{table}
use Rattle.line.specs.declared.Line.{Line}
use Rattle.rules.specs.Statement.Paths.{train}

-- a train from origin o to destination d goes over segment p
unfoldable pub uses_between : ℕ → ℕ → ℕ → Bool
uses_between o d p = nat_le (min (o - 1) (d - 1)) p && nat_lt p (max (o - 1) (d - 1))

unfoldable pub direction_between : ℕ → ℕ → ℕ → ℕ
direction_between o d p = cond (uses_between o d p) (cond (nat_lt o d) 1 2) 0

unfoldable pub direction_entry : Line → ℕ → ℕ
direction_entry l e = cond (nat_lt (e % 16) l.traffic.train_count) (direction_between (train l (e % 16)).origin (train l (e % 16)).destination (e / 16)) 0

unfoldable pub directions_of : Line → List ℕ
directions_of l = table (direction_entry l) 176

-- an entry of the table
abbrev pub way : List ℕ → ℕ → ℕ → ℕ
way ds p i = slice_index ds (16 * p + i)

-- train i goes over segment p
abbrev pub on : List ℕ → ℕ → ℕ → Bool
on ds p i = not (way ds p i == 0)
