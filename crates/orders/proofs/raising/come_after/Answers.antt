-- `orders::raising::come_after` meets its contract: the one arc of the choice starts at the departure of leg e, which is the source; lifting the leg that it
-- ends at gives the least minutes or none.
use mathlib.Core.Path.{refl}
use Rattle.orders.proofs.Lift.ChosenArcsLaws.{comes_still, comes_lifted}
use Rattle.orders.proofs.raising.come_after.Goals as goal

pub returns-then-m-f : goal.returns-then-m-f
returns-then-m-f c =
    comes_lifted _ _ _ _ _ _ _ _ c.requires.0 c.requires.1 c.requires.2 _ _ c.coming_leg-f.ensures refl _ _
    c.lift.ensures

pub returns : goal.returns
returns c =
    comes_still _ _ _ _ _ _ _ _ c.requires.0 c.requires.1 c.requires.2 _ _ c.coming_leg-f.ensures refl c.if-m-f.false
