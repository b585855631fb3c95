-- `plans::ranking::earlier` meets its contract. The invariant: from entry e on the test says what the whole test says. Assumes nothing.
use Prim.Native.Nat.{◌-◌}
use mathlib.Core.Path.{◌≡◌}
use Rattle.plans.specs.Theory.Ranking.{ahead_from}
use Rattle.plans.specs.Clauses.Keys.{keyed}
use Rattle.plans.proofs.ranking.earlier.Given as goal

abbrev pub invariant-loop-e : goal.invariant-loop-e
invariant-loop-e l = ahead_from (132 - l.e) l.e (keyed l.key l.m) (keyed l.key l.best) ≡ ahead_from 132 0 (keyed l.key l.m) (keyed l.key l.best)
