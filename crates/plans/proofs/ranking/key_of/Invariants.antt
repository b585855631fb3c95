-- `plans::ranking::key_of` meets its contract. The invariant: the entries before e are filled. Assumes nothing.
use Prim.Native.Nat.{◌/◌, ◌%◌}
use Rattle.finite.specs.FillLaws.{Begun}
use Rattle.plans.specs.Clauses.Keys.{key_entry}
use Rattle.plans.proofs.ranking.key_of.Given as goal

abbrev pub invariant-loop-e : goal.invariant-loop-e
invariant-loop-e l = Begun (λ x. key_entry l.line (x / 11) (x % 11)) 132 l.e l.key
