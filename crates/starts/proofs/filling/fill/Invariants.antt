-- `starts::filling::fill` meets its contract. The invariant: the entries of the first k minutes tell, the others are as they were when the loop began, and what is
-- known is of the line of minute k - 1. Assumes nothing.
use Rattle.starts.specs.Knowing.{Filling}
use Rattle.starts.proofs.filling.fill.Given as goal

abbrev pub invariant-loop-k : goal.invariant-loop-k
invariant-loop-k l = Filling l.line l.i l.minutes l.initial.totals l.totals l.k l.before l.known
