-- A file solved, its answer packed.
use Rattle.std.specs.Prelude.{ℕ, ◌≡◌, List, Result}
use Rattle.text.specs.declared.Refusal.{Refusal}
use Rattle.solver.specs.Promise.Solving.{Solving}
use Rattle.service.specs.Packing.{packed_written}

pub record Solved (file entry exit : List ℕ) (r : ℕ) : Type 0 where
  pub written : Result ℕ Refusal
  pub solving : Solving file entry exit written
  pub answer : r ≡ packed_written written
