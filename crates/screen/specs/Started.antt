-- The totals of many starting minutes, the answer packed.
use Rattle.std.specs.Prelude.{ℕ, ◌≡◌, List, Result}
use Rattle.text.specs.declared.Refusal.{Refusal}
use Rattle.service.specs.Packing.{packed_answer}
use Rattle.starts.specs.Operation.{Starts}

pub record Started (file : List ℕ) (train : ℕ) (minutes entry exit : List ℕ) (r : ℕ) : Type 0 where
  pub answer : Result (Unit {0}) Refusal
  pub starts : Starts file train minutes entry exit answer
  pub packs : r ≡ packed_answer answer
