-- Any conflict of the minutes splits the plan, and the lowest is one of them.
use Rattle.std.specs.Prelude.{ℕ, ◌≡◌, List, [], Option, None}
use Rattle.std.proofs.Math.Path.{refl}
use Rattle.std.proofs.Common.{ap, ◌∙◌}
use Rattle.finite.specs.Below.{gather}
use Rattle.line.specs.declared.Line.{Line}
use Rattle.line.specs.Within.{Within, Arrays}
use Rattle.line.specs.RunnableLaws.{within_runnable}
use Rattle.rules.specs.declared.conflicts.Conflict.{Conflict}
use Rattle.rules.specs.Conflict.Conflicts.{conflict_of}
use Rattle.orders.specs.Plan.Marks.{Plan}
use Rattle.orders.specs.Plan.PlansLaws.{keeps_also, keeps_chosen}
use Rattle.plans.specs.Theory.Problem.{Splits}
use Rattle.plans.specs.Conflict.Ways.{ways_of, ways}
use Rattle.plans.specs.Conflict.RealConflicts.{Real}
use Rattle.plans.specs.Conflict.RealConflictsLaws.{conflict_real}
use Rattle.plans.proofs.Conflict.WaysLaws.{not_kept, goes_of}
use Rattle.plans.specs.Instance.Planning.{planning}

module _ (l : Line) (w : Within l) (a : Arrays l) (p : Plan) (m : List ℕ) where
  pub conflict_splits : (c : Option Conflict) → Real l m c → (c ≡ None → ⊥) → Splits (planning l) p m (ways_of c)
  conflict_splits c real some = record {
    complete = λ m' h k.
        let (v, there, o, g) = goes_of l w a m m' h.1 c real some in
        (v, there, keeps_also l v p m' (within_runnable l w) o k g);
    progress = λ v there k.
        let n = not_kept l m c real v there in
        n.2 (keeps_chosen l v p m n.0 n.1 k);
  }

  no_ways : ways_of None ≡ []
  unfolding ways_of gather
  no_ways = refl

  pub lowest_splits : (ways l m ≡ [] → ⊥) → Splits (planning l) p m (ways l m)
  unfolding ways
  lowest_splits n = conflict_splits (conflict_of l m) (conflict_real l w a m) (λ e. n (ap ways_of e ∙ no_ways))
