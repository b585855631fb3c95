-- The plan without choices as a search begins with it: its least minutes, and that they lie below every lawful timetable.
use Rattle.std.specs.Prelude.{ℕ, ◌≤◌, ◌≡◌, None, List, replicate}
use Rattle.std.proofs.Common.{sym, ◌∙◌}
use Rattle.std.proofs.lemmas.List.{length-replicate}
use Rattle.finite.specs.DecideLaws.{is_true}
use Rattle.line.specs.declared.Line.{Line}
use Rattle.line.specs.Within.{Within, Arrays}
use Rattle.line.specs.RunnableLaws.{within_runnable}
use Rattle.rules.specs.declared.conflicts.Layout.{Layout}
use Rattle.rules.specs.Statement.Paths.{EachTrain}
use Rattle.rules.specs.Statement.Rules.{NotLate}
use Rattle.rules.specs.Conflict.Conflicts.{layout_of}
use Rattle.rules.specs.Conflict.Directions.{directions_of}
use Rattle.orders.specs.LeastMinutes.Least.{Fit}
use Rattle.orders.specs.LeastMinutes.Carried.{start, Carried}
use Rattle.orders.specs.Plan.Marks.{free}
use Rattle.orders.specs.Plan.Plans.{Keeps}
use Rattle.orders.specs.LineTables.Tables.{tables_of}
use Rattle.orders.specs.Plan.TidyPlansLaws.{free_tidy}
use Rattle.plans.specs.Theory.BestSoFar.{nothing}
use Rattle.plans.specs.Theory.Search.{Under, NoneBetter}
use Rattle.plans.specs.Theory.SearchLaws.{under_start, under_least}
use Rattle.plans.specs.Instance.Planning.{planning}
use Rattle.plans.proofs.Instance.PlanningLaws.{decides_in_time}
use Rattle.plans.proofs.Instance.LineSearchedLaws.{planning_laws}
use Rattle.plans.specs.Clauses.Keys.{key_of}
use Rattle.plans.specs.Clauses.Choosing.{Given}
use Rattle.plans.specs.declared.tally.Tally.{Tally}

module _ (l : Line) (w : Within l) (a : Arrays l) where
  module _ (m : List ℕ) (cost : ℕ) (carried : Carried l free m cost) where
    pub first_under : Under (planning l) free m
    first_under = let L = planning_laws l w a in under_least (planning l) L free start m (under_start (planning l) L) carried.least

    -- what a search is given of it, with nothing found yet
    pub first_given : EachTrain l (NotLate l m) → (t ds key : List ℕ) (layout : Layout) → t ≡ tables_of l → ds ≡ directions_of l →
        key ≡ key_of l → layout ≡ layout_of l → (y : Tally) → y.delay ≡ None → y.steps ≤ 4294967295 →
        Given l m free (replicate 352 0) t ds key layout cost y
    first_given timely t ds key layout tables directions keys layout_is y none_yet low =
        record {
          tabled = record {
            within = w;
            raisable = record { runnable = within_runnable l w; arrays = a; tables = tables; directions = directions };
          };
          keys = keys;
          layout_is = layout_is;
          planned = record {
            carried = carried;
            tidy = free_tidy l;
            timely = is_true (decides_in_time l m) timely;
          };
          tallied = record {
            size = length-replicate {A = ℕ} 352 0;
            delay_is = λ c e. absurd (cc);
            steps_low = low;
          };
        }

  -- where no minutes of it are in time, nothing is lawful
  pub first_late : ((m : List ℕ) → Fit 352 m → Keeps l free m → EachTrain l (NotLate l m) → ⊥) → NoneBetter (planning l) free nothing
  unfolding NoneBetter
  first_late late m h k _ = late m h.0 k h.1.rule13
