-- `walk::scanning::same_row` meets its contract. The invariant: while the answer is true, the entries below i are the same. Assumes nothing.
use Prim.Native.Nat.{◌+◌}
use mathlib.Core.Path.{◌≡◌}
use mathlib.Core.Bool.{true}
use lib.ListN.{get_or}
use Rattle.finite.specs.Below.{EachBelow}
use Rattle.walk.proofs.scanning.same_row.Given as goal

abbrev pub invariant-loop-i : goal.invariant-loop-i
invariant-loop-i l = l.same ≡ true → EachBelow l.i (λ j. get_or l.m (l.b + j) 0 ≡ get_or l.former (l.b + j) 0)
