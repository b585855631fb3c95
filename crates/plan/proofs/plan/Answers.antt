-- `plan::plan` meets its contract: a text is no longer than the buffer that was lent.
use mathlib.Core.Path.{sym}
use native.Mathlib.Omega.{arith}
use Rattle.std.proofs.Common.{length-take-le}
use Rattle.solver.specs.Promise.Demand.{answer_bounded}
use Rattle.plan.proofs.plan.Goals as goal

pub slice_bounds-out-end : goal.slice_bounds-out-end
slice_bounds-out-end g c = omega (arith, answer_bounded _ _ _ _ c.in-Ok.ensures, c.solve.auto.out)

pub slice_bounds-write_all-end : goal.slice_bounds-write_all-end
slice_bounds-write_all-end g c = sym (length-take-le _ _ (omega (arith, answer_bounded _ _ _ _ c.in-Ok.ensures, c.solve.auto.out)))
