-- `solver::ahead::choose_conflict` meets its contract: what the scan selects is one to settle, and so is what looking ahead finds where that has ways out.
-- Assumes nothing.
use mathlib.Core.Path.{sym, ap, ◌∙◌}
use mathlib.Core.Bool.{not, true≢false}
use Rattle.std.specs.Prelude.{is_some}
use Rattle.solver.specs.Lookahead.AheadLaws.{look_select, look-after, finds_chosen, chosen_after}
use Rattle.solver.proofs.ahead.choose_conflict.Goals as goal

pub select_conflict-plain-requires : goal.select_conflict-plain-requires
select_conflict-plain-requires c =
    look_select _ _ _ _ _ _ c.requires

pub look_ahead-b-requires : goal.look_ahead-b-requires
look_ahead-b-requires c =
    let e = c.select_conflict-plain.ensures in
    (look-after _ _ _ _ _ _ c.requires _ e.marks_same, λ l w a f g. (e.chosen l w a f g).real)

pub returns-then-is_none : goal.returns-then-is_none
returns-then-is_none c =
    let e = c.select_conflict-plain.ensures in
    chosen_after _ _ _ _ _ e c.look_ahead-b.new.marks c.look_ahead-b.ensures.marks_same

pub returns : goal.returns
returns c =
    let e = c.select_conflict-plain.ensures in
    let some = c.is_none.ensures ∙ ap not c.if-is_none.false in
    finds_chosen _ _ _ _ _ e.marks_same _ c.look_ahead-b.ensures (λ none. true≢false (sym some ∙ ap is_some none))
