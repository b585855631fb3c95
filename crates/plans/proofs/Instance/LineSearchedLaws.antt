-- The timetables of a line within the limits have the laws that a search relies on; so what a search of everything finds is the timetable that demand 3
-- asks for, and where it finds nothing there is none.
use Rattle.std.specs.Prelude.{ℕ, ◌≡◌, true, List, None}
use Rattle.finite.specs.DecideLaws.{is_true}
use Rattle.line.specs.declared.Line.{Line}
use Rattle.line.specs.Within.{Within, Arrays}
use Rattle.line.specs.RunnableLaws.{within_runnable}
use Rattle.rules.specs.Statement.Rules.{Lawful}
use Rattle.rules.specs.Conflict.Conflicts.{conflict_of}
use Rattle.rules.specs.Statement.Delay.{Same, Best}
use Rattle.rules.proofs.Check.ExactLaws.{clear_of}
use Rattle.rules.specs.StatementLaws.SameLaws.{same_sym, same_trans, lawful_same}
use Rattle.orders.specs.LeastMinutes.Least.{Fit}
use Rattle.orders.specs.Plan.Marks.{Plan, free}
use Rattle.orders.specs.Plan.MarksLaws.{free-marked}
use Rattle.orders.specs.Plan.Plans.{Keeps}
use Rattle.orders.specs.Plan.PlansLaws.{keeps_rest}
use Rattle.orders.specs.LeastMinutes.PlanArcs.{departs_at, arrives_at}
use Rattle.orders.specs.LeastMinutes.PlanArcsLaws.{least_is, least_none}
use Rattle.orders.specs.LeastMinutes.CarriedLaws.{start_below, start_fit, delay_up}
use Rattle.plans.specs.Theory.Problem.{Laws}
use Rattle.plans.specs.Theory.BestSoFar.{nothing, found}
use Rattle.plans.specs.Theory.Search.{Searched}
use Rattle.plans.specs.Theory.SearchLaws.{searched_whole, answer_only}
use Rattle.plans.proofs.Conflict.WaysLaws.{ways_none}
use Rattle.plans.proofs.Conflict.SplitsLaws.{lowest_splits}
use Rattle.plans.specs.Instance.Planning.{in_time, planning}
use Rattle.plans.proofs.Instance.PlanningLaws.{departures_up, decides_in_time, in_time_down, told_apart, better_preferred}
use Rattle.plans.specs.Instance.PreferredLaws.{preferred_same}
use Rattle.plans.specs.Instance.TidyMinutes.{tidy_minutes}
use Rattle.plans.specs.Instance.TidyMinutesLaws.{tidy_same, tidy_fit}

module _ (l : Line) (w : Within l) (a : Arrays l) where
  lawful_keeps : (m : List ℕ) → Lawful l m → Keeps l free m
  lawful_keeps m h = record { trains = h.trains; choices = λ c o s t. absurd (free-marked c t) }

  -- minutes of a plan that are in time and have no conflict
  pub clear_lawful : (p : Plan) (m : List ℕ) → Fit 352 m → Keeps l p m → in_time l m ≡ true → conflict_of l m ≡ None → Fit 352 m × Lawful l m
  clear_lawful p m z k t q =
      let c = clear_of l w a m q in (
        z,
        record {
          days = λ i _ k _. (z.within (departs_at l i k), z.within (arrives_at l i k));
          trains = k.trains;
          rule13 = (decides_in_time l m).yea t;
          rule14 = c.0;
          rule15 = c.1;
        },
      )

  pub planning_laws : Laws (planning l)
  planning_laws = record {
    start_fit = start_fit;
    start_low = λ m _. start_below m;
    least_is = λ p s m z e. least_is l (within_runnable l w) a p s m z e;
    least_none = λ p s z e. least_none l (within_runnable l w) a p s z e;
    cost_up = delay_up l;
    key_up = departures_up l;
    allowed_down = in_time_down l;
    lawful_fit = λ m h. h.0;
    lawful_allowed = λ m h. is_true (decides_in_time l m) h.1.rule13;
    lawful_keeps = λ m h. lawful_keeps m h.1;
    keeps_rest = keeps_rest l;
    clear = λ p m z k t q. clear_lawful p m z k t (ways_none l w a m q);
    ways_split = λ p m. lowest_splits l w a p m;
  }

  -- a lawful timetable, tidied, is one that a search knows
  tidied : (m : List ℕ) → Lawful l m → Fit 352 (tidy_minutes l m) × Lawful l (tidy_minutes l m)
  tidied m h = (tidy_fit l w a m h, lawful_same l m (tidy_minutes l m) (same_sym l (tidy_minutes l m) m (tidy_same l w a m)) w a h)

  -- ---- what a search of everything has found

  -- the timetable found keeps every rule, and is to be preferred to every other that does
  pub searched_best : (m : List ℕ) → Searched (planning l) free nothing (found m) → Best l m
  searched_best m h =
      let answer = searched_whole (planning l) planning_laws (found m) h in
      record {
        lawful = answer.0.1;
        preferred = λ m' h d.
            let same = tidy_same l w a m' in
            preferred_same l w a m (tidy_minutes l m') m' same
            (better_preferred l w a m (tidy_minutes l m')
            (answer_only (planning l) (Same l) (told_apart l w a) m answer (tidy_minutes l m') (tidied m' h)
            (λ q. d (same_trans l m (tidy_minutes l m') m' q same))));
      }

  -- where nothing is found, no timetable keeps the rules: number 5
  pub searched_nothing : Searched (planning l) free nothing nothing → (m : List ℕ) → Lawful l m → ⊥
  searched_nothing h m k = searched_whole (planning l) planning_laws nothing h (tidy_minutes l m) (tidied m k)
