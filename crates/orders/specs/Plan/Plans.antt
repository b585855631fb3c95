-- "A plan is a set of "this one first" choices with the least minutes that meet them and rules 10 to 12" (document 01, "The search"): what it is to meet
-- them.
use Rattle.std.specs.Prelude.{ℕ, ◌≡◌, true, List}
use Rattle.line.specs.declared.Line.{Line}
use Rattle.rules.specs.Statement.Paths.{EachTrain}
use Rattle.rules.specs.Statement.Rules.{TrainRules}
use Rattle.orders.specs.Plan.Choices.{Choice, Of, Shared, KeepsChoice}
use Rattle.orders.specs.Plan.Marks.{Plan, marked}

-- the minutes keep rules 10 to 12 and 18 and the plan's choices
pub record Keeps (l : Line) (p : Plan) (m : List ℕ) : Type 0 where
  pub trains : EachTrain l (TrainRules l m)
  pub choices : (c : Choice) → Of l c → Shared l c → marked p c ≡ true → KeepsChoice l m c
