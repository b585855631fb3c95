-- `starts::asking::rises` meets its contract. The invariant: of the first k minutes each is before the next. The loop ends at the first that is not after the one
-- before it, or has seen them all. Assumes nothing.
use Rattle.starts.specs.Asking.{RisingTo}
use Rattle.starts.proofs.asking.rises.Given as goal

abbrev pub invariant-loop-k : goal.invariant-loop-k
invariant-loop-k l = RisingTo l.k l.minutes
