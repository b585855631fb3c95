-- What follows from what a search is given of a plan.
use Rattle.std.specs.Prelude.{ℕ, ◌≡◌, Bool, List, length, Option}
use Rattle.std.proofs.Common.{sym, ◌∙◌, ap}
use Rattle.line.specs.declared.Line.{Line}
use Rattle.rules.specs.declared.conflicts.Conflict.{Conflict}
use Rattle.rules.specs.declared.conflicts.Layout.{Layout}
use Rattle.rules.specs.Conflict.Conflicts.{conflict_of, conflict_in}
use Rattle.rules.specs.Conflict.ConflictsLaws.{conflict_told}
use Rattle.rules.specs.Scan.Scanning.{LaidOut}
use Rattle.plans.specs.Theory.BestSoFar.{improves}
use Rattle.plans.specs.Instance.Planning.{planning}
use Rattle.plans.specs.Clauses.Keys.{better_by}
use Rattle.plans.proofs.Clauses.KeysLaws.{key_size, better_improves}
use Rattle.plans.specs.Clauses.Tallies.{best_of}
use Rattle.plans.specs.Clauses.Choosing.{Given}
use Rattle.plans.specs.declared.tally.Tally.{Tally}

module _ (l : Line) (m marks best t ds key : List ℕ) (layout : Layout) (cost : ℕ) (y : Tally) (g : Given l m marks best t ds key layout cost y) where
  pub key_long : length key ≡ 132
  key_long = ap length g.keys ∙ key_size l

  pub conflict_known : (conflict : Option Conflict) → conflict ≡ conflict_in layout ds m → conflict ≡ conflict_of l m
  conflict_known conflict e = conflict_told l m ds layout conflict g.layout_is g.tabled.raisable.directions e

  pub laid_out : LaidOut layout
  laid_out =
      let w = g.tabled.within in
      (rw g.layout_is w.stations.0, rw g.layout_is w.stations.1, rw g.layout_is w.trains.1)

  -- the test of the minutes against the best so far
  pub told : (r : Bool) → r ≡ better_by key m cost best y → improves (planning l) m (best_of y best) ≡ r
  told r r-is =
      sym (r-is ∙ ap (λ (k : List ℕ). better_by k m cost best y) g.keys ∙
      better_improves l g.tabled.within m cost g.planned.carried.cost_is best y g.tallied)
