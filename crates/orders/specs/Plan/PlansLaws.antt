-- To keep a plan with a choice more is to keep the plan and the choice.
use Rattle.std.specs.Prelude.{ℕ, List}
use Rattle.std.proofs.Common.{sym, subst, ⊎_elim}
use Rattle.line.specs.declared.Line.{Line}
use Rattle.line.specs.Runnable.{Runnable}
use Rattle.orders.specs.Plan.Choices.{Choice, Of, Shared, KeepsChoice}
use Rattle.orders.specs.Plan.Marks.{Plan, also}
use Rattle.orders.specs.Plan.MarksLaws.{also_here, also_only, also_stays}
use Rattle.orders.specs.Plan.Plans.{Keeps}

module _ (l : Line) (c : Choice) (p : Plan) (m : List ℕ) where
  pub keeps_rest : Keeps l (also c p) m → Keeps l p m
  keeps_rest k =
      record { trains = k.trains; choices = λ d o s t. k.choices d o s (also_stays c d p t) }

  pub keeps_also : Runnable l → Of l c → Keeps l p m → KeepsChoice l m c → Keeps l (also c p) m
  keeps_also w a k h =
      record {
        trains = k.trains;
        choices = λ d o s t. ⊎_elim (λ e. subst (KeepsChoice l m) (sym e) h) (λ n. k.choices d o s n) (also_only l w c d p a o t);
      }

  pub keeps_chosen : Of l c → Shared l c → Keeps l (also c p) m → KeepsChoice l m c
  keeps_chosen a s k = k.choices c a s (also_here c p)
