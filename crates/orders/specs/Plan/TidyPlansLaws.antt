-- The plan with no choice is tidy, and so is a tidy plan with a fitting choice more.
use Rattle.std.proofs.Common.{sym, subst, ⊎_elim}
use Rattle.line.specs.declared.Line.{Line}
use Rattle.line.specs.Runnable.{Runnable}
use Rattle.orders.specs.Plan.Choices.{Choice}
use Rattle.orders.specs.Plan.Marks.{Plan, free, also}
use Rattle.orders.specs.Plan.MarksLaws.{free-marked, free_size, of_placed, also_placed, also_size}
use Rattle.orders.specs.Plan.TidyPlans.{Fitting, Tidy}

pub free_tidy : (l : Line) → Tidy l free
free_tidy l = record { size = free_size; fitting = λ c o t. absurd (free-marked c t) }

pub also_tidy : (l : Line) → Runnable l → (c : Choice) (q : Plan) → Fitting l c → Tidy l q → Tidy l (also c q)
also_tidy l w c q f h =
    let placed = of_placed l w c f.0 in
    record {
      size = also_size c q placed h.size;
      fitting = λ d o t. ⊎_elim (λ e. subst (Fitting l) (sym e) f) (λ e. h.fitting d o e) (also_placed c d q placed o t);
    }
