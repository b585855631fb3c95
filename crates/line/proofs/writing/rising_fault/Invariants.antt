-- `line::writing::rising_fault` meets its contract. The invariant: the first refusal of the entries yet to check is that of all of them. Assumes nothing.
use Rattle.std.proofs.Common.{ℕ, ◌≡◌, ◌+◌, drop}
use Rattle.line.specs.Writing.{Checked, rising_fault}
use Rattle.line.proofs.writing.rising_fault.Given as goal

abbrev pub invariant-loop-i : goal.invariant-loop-i
invariant-loop-i g l =
    goal.F-IsAlwaysCallable g l.check
    × ((f : _ → ℕ → _ → Checked) → ((x before : _) (p : ℕ) (r : Checked) → goal.F-post g l.check x before p r → r ≡ f before p x) →
    rising_fault (drop l.i l.entries) f l.before (l.first + l.i) ≡ rising_fault l.entries f l.fn.none l.first)
