-- `solver::selecting::higher_scored` meets its contract: its answer is one of the two conflicts, and pricing restores the marks. Assumes nothing.
use mathlib.Core.Path.{refl}
use mathlib.Core.Logic.{inl, inr}
use Rattle.solver.proofs.selecting.higher_scored.Goals as goal

pub returns-then-not-settled_before : goal.returns-then-not-settled_before
returns-then-not-settled_before c = record { marks_same = c.way_score-score.ensures.marks_same; pick = inl refl }

pub returns : goal.returns
returns c = record { marks_same = c.way_score-score.ensures.marks_same; pick = inr refl }
