-- A tidy plan: every mark is a choice of the line about trains that share the place, and the choice asks something of them.
use Rattle.std.specs.Prelude.{◌≡◌, true, false, length}
use Rattle.line.specs.declared.Kind.{Kind}
use Rattle.line.specs.declared.Line.{Line}
use Rattle.rules.specs.Statement.Paths.{segment, same_way}
use Rattle.orders.specs.Plan.Choices.{Choice, on_segment, at_station, Of, Shared}
use Rattle.orders.specs.Plan.Marks.{Plan, Placed, marked}

-- the choice asks something: "Opposite on D: nothing"
abbrev pub Related : Line → Choice → Type 0
Related l (on_segment p i j) = (segment l p).kind ≡ Kind.D → same_way l i j ≡ false → ⊥
Related l (at_station s a b) = Unit {0}

abbrev pub Fitting : Line → Choice → Type 0
Fitting l c = Of l c × Shared l c × Related l c

-- a choice that is not placed has the row of another, so that nothing is said of it
pub record Tidy (l : Line) (q : Plan) : Type 0 where
  pub size : length q ≡ 368
  pub fitting : (c : Choice) → Placed c → marked q c ≡ true → Fitting l c
