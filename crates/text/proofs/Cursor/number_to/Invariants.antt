-- `text::Cursor::number_to` meets its contract. The loop's invariant: what is yet to read gives what the loop began with, and the value has room for
-- the digits left, so it stays below 10,000,000. A digit that was read stands inside the text, so the position after it fits. Assumes nothing.
use Prim.Native.Nat.{◌-◌}
use mathlib.Core.Path.{◌≡◌}
use Rattle.text.specs.Reading.Numbers.{more}
use Rattle.text.specs.Reading.NumbersLaws.{DigitsFit}
use Rattle.text.proofs.Cursor.number_to.Given as goal

abbrev pub invariant-loop : goal.invariant-loop
invariant-loop l =
    let left = l.most - l.counter in
    (more left l.s l.next l.value ≡ more (l.most - 1) l.s l.initial.next l.initial.value) × DigitsFit left l.value
