-- The timetables of a line as a problem for the walk.
use Rattle.std.specs.Prelude.{ℕ, ◌/◌, ◌%◌, Bool, cond, ◌&&◌, List, ltb}
use Rattle.finite.specs.Below.{all, table}
use Rattle.line.specs.declared.Line.{Line}
use Rattle.rules.specs.Statement.Rules.{Lawful}
use Rattle.rules.specs.Statement.Delay.{weighted_delay, compared_count, compared}
use Rattle.rules.specs.Check.Tests.{keeps_rule}
use Rattle.orders.specs.LeastMinutes.Least.{Fit}
use Rattle.orders.specs.Plan.Choices.{Choice}
use Rattle.orders.specs.Plan.Marks.{Plan, free, also}
use Rattle.orders.specs.Plan.Plans.{Keeps}
use Rattle.orders.specs.LeastMinutes.PlanArcs.{least}
use Rattle.orders.specs.LeastMinutes.Carried.{start}
use Rattle.plans.specs.Theory.Problem.{Problem}
use Rattle.plans.specs.Conflict.Ways.{ways}

-- number k of train i is compared
unfoldable pub is_leg : Line → ℕ → ℕ → Bool
is_leg l i k = ltb i l.traffic.train_count && ltb k (compared_count l i)

-- what is compared "from train 1 up": 11 entries to a train, 0 where it has fewer
unfoldable pub departures : Line → List ℕ → List ℕ
departures l m = table (λ e. cond (is_leg l (e / 11) (e % 11)) (compared l m (e / 11) (e % 11)) 0) 132

-- rule 13 of every train
unfoldable pub in_time : Line → List ℕ → Bool
in_time l m = all (λ i. keeps_rule 13 l m i) l.traffic.train_count

abbrev pub planning : Line → Problem
planning l = record {
  Choice = Choice;
  Plan = Plan;
  free = free;
  also = also;
  events = 352;
  start = start;
  Keeps = Keeps l;
  Lawful = λ m. Fit 352 m × Lawful l m;
  least = least l;
  cost = weighted_delay l;
  key = departures l;
  allowed = in_time l;
  ways = ways l;
}
