-- `solver::search::spent` meets its contract: a true answer comes only with a limit, and then at it or past it. Assumes nothing.
use Prim.Native.Nat.{◌<◌}
use native.Mathlib.Omega.{arith}
use borrow.Author.Tests.{leb-true}
use Rattle.solver.proofs.search.spent.Goals as goal

pub returns : goal.returns
returns c e whole = let below : c.args.tally.steps < c.in-Some.most = rw c.in-Some.is at whole in omega (arith, leb-true, e)
