-- Minutes with the entries that no train's leg has emptied, as `tidy_line` of a line.
use Rattle.std.specs.Prelude.{ℕ, ◌/◌, ◌%◌, Bool, cond, ◌&&◌, List, get_or, ltb}
use Rattle.finite.specs.Below.{table}
use Rattle.line.specs.declared.Line.{Line}
use Rattle.rules.specs.Statement.Paths.{train}
use Rattle.orders.specs.LeastMinutes.PlanArcs.{uses}

-- train i goes over segment p
unfoldable pub is_used : Line → ℕ → ℕ → Bool
is_used l p i = ltb i l.traffic.train_count && uses (train l i) p

-- entry e is of the segment e % 176 / 16 and the train e % 16
unfoldable pub tidy_entry : Line → List ℕ → ℕ → ℕ
tidy_entry l m e = cond (is_used l (e % 176 / 16) (e % 16)) (get_or m e 0) 0

unfoldable pub tidy_minutes : Line → List ℕ → List ℕ
tidy_minutes l m = table (tidy_entry l m) 352
