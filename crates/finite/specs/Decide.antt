-- A test that decides a statement.
use Rattle.std.specs.Prelude.{◌≡◌, Bool, true, false}

-- the test `b` is true exactly when `P` holds
pub record Decides (P : Type 0) (b : Bool) : Type 0 where
  pub yea : b ≡ true → P
  pub nay : b ≡ false → P → ⊥
