-- `solver::ahead::look_at` meets its contract: the conflict at the place is one, if any, and so is the old one; what is given is one of the two.
-- Assumes nothing.
use mathlib.Core.Path.{subst}
use Rattle.solver.specs.Selection.Selecting.{KnownReal}
use Rattle.solver.specs.Lookahead.AheadLaws.{look_select, look-after, look_try}
use Rattle.solver.proofs.ahead.look_at.Goals as goal

pub with_place-found-requires : goal.with_place-found-requires
with_place-found-requires c = (look_select _ _ _ _ _ _ c.requires.0, λ l _ _ _ _. tt)

pub forced_prices-prices-requires : goal.forced_prices-prices-requires
forced_prices-prices-requires c =
    let f = c.with_place-found.ensures in
    look_try _ _ _ _ _ _ (look-after _ _ _ _ _ _ c.requires.0 _ f.marks_same) _
    (subst (KnownReal c.args.m.now c.args.day.now) c.in-Some.is f.real)
