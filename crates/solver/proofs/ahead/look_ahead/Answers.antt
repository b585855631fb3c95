-- The answers; the idea of the proof is at the head of the invariants.
use mathlib.Core.Path.{refl, sym, ◌∙◌, subst}
use Rattle.solver.specs.Selection.Selecting.{KnownReal}
use Rattle.solver.specs.Selection.SelectingLaws.{finds_then}
use Rattle.solver.specs.Lookahead.AheadLaws.{look_select, look-after, finds_from}
use Rattle.solver.proofs.ahead.look_ahead.Goals as goal

pub place_scores-scores-requires : goal.place_scores-scores-requires
place_scores-scores-requires c = look_select _ _ _ _ _ _ c.requires.0

pub loop-init : goal.loop-init
loop-init c =
    let real = subst (KnownReal c.args.m.now c.args.day.now) (sym c.unscored-b.ensures) c.requires.1 in
    record { marks_same = refl; real = real }

pub returns-in_default : goal.returns-in_default
returns-in_default c =
    finds_from _ _ _ _ c.place_scores-scores.ensures _ _ c.loop.invariant

pub look_at-b-requires : goal.look_at-b-requires
look_at-b-requires c =
    (look-after _ _ _ _ _ _ c.requires.0 _ (c.loop.invariant.marks_same ∙ c.place_scores-scores.ensures), c.loop.invariant.real)

pub returns-then-b : goal.returns-then-b
returns-then-b c =
    finds_from _ _ _ _ c.place_scores-scores.ensures _ _ (finds_then _ _ _ _ _ _ _ c.loop.invariant c.look_at-b.ensures)

pub loop-preserved : goal.loop-preserved
loop-preserved c = finds_then _ _ _ _ _ _ _ c.loop.invariant c.look_at-b.ensures

pub returns : goal.returns
returns c =
    finds_from _ _ _ _ c.place_scores-scores.ensures _ _ c.loop.invariant
