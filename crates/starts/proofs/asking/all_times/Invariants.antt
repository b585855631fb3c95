-- `starts::asking::all_times` meets its contract. The invariant: every minute so far is of the two days. The loop ends at the first that is not, or has seen
-- them all. Assumes nothing.
use Prim.Native.Nat.{◌≤◌}
use lib.ListN.{get_or}
use Rattle.finite.specs.Below.{EachBelow}
use Rattle.starts.proofs.asking.all_times.Given as goal

abbrev pub invariant-loop-minute : goal.invariant-loop-minute
invariant-loop-minute l = EachBelow l.minute-index (λ j. get_or l.minutes j 0 ≤ 2879)
