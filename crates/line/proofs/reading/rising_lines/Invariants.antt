-- `line::reading::rising_lines` meets its contract: before line i is read, the lines from it on, each after the one before it and laid into the array as it
-- is, give what all of them give from the start. Assumes nothing.
use Prim.Native.Nat.{ℕ, ◌-◌}
use mathlib.Core.Path.{◌≡◌}
use mathlib.Core.List.{List}
use Rattle.text.specs.declared.Cursor.{Cursor}
use Rattle.text.specs.Places.Lines.{Counted}
use Rattle.text.specs.Reading.Parsed.{Parsed}
use Rattle.text.proofs.Elements.LayLaws.{lay_chain}
use Rattle.line.specs.Rising.{TellsPart}
use Rattle.line.proofs.reading.rising_lines.Given as goal

abbrev pub invariant-loop-i : goal.invariant-loop-i
invariant-loop-i g l =
    Counted l.cursor
    × ((s : List ℕ) (part : _ → List ℕ → Cursor → Parsed _) → TellsPart (goal.F-post g l.line) part s →
    lay_chain (λ a b. b) part (l.count - l.i) l.before s l.cursor l.entries l.i ≡ lay_chain (λ a b. b) part l.count l.fn.none s l.fn.start l.initial.entries 0)
