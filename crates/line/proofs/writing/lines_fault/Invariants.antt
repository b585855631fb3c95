-- `line::writing::lines_fault` meets its contract. The invariant: the first refusal of the entries yet to check is that of all of them. Assumes nothing.
use Rattle.std.proofs.Common.{ℕ, ◌≡◌, ◌+◌, drop}
use Rattle.line.specs.Writing.{Checked, lines_fault}
use Rattle.line.proofs.writing.lines_fault.Given as goal

abbrev pub invariant-loop-i : goal.invariant-loop-i
invariant-loop-i g l =
    goal.F-IsAlwaysCallable g l.check
    × ((f : ℕ → _ → Checked) → ((x : _) (p : ℕ) (r : Checked) → goal.F-post g l.check x p r → r ≡ f p x) →
    lines_fault (drop l.i l.entries) f (l.first + l.i) ≡ lines_fault l.entries f l.first)
