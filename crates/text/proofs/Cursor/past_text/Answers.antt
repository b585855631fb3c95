-- The answers; the idea of the proof is at the head of the invariants.
use mathlib.Core.Path.{◌∙◌, sym}
use native.Mathlib.Omega.{arith}
use Rattle.text.specs.Places.Lines.{Counted}
use Rattle.text.proofs.Places.LinesLaws.{keeps_counted, past_keeps}
use Rattle.text.proofs.Reading.FixedLaws.{all_step, all-stop, all_end, text_wrong, text_past}
use Rattle.text.proofs.Cursor.past_text.Goals as goal

pub returns-in_default : goal.returns-in_default
returns-in_default c =
    let w = c.loop-b in
    let a = c.args in
    sym (text_wrong a.form a.text.now a.s.now a.self (sym w.invariant.0 ∙ all-stop a.text.now a.s.now w.b-index w.cursor (omega arith) (sym c.past.ensures ∙ c.in_default.is)))

pub loop-b-preserved : goal.loop-b-preserved
loop-b-preserved c =
    let w = c.loop-b in
    let a = c.args in
    let past = sym c.past.ensures ∙ c.in-Some.is in (
      sym (all_step a.text.now a.s.now w.b-index w.cursor (omega arith) past) ∙ w.invariant.0,
      past_keeps a.s.now Counted (keeps_counted a.s.now) w.cursor _ _ w.invariant.1 past,
    )

pub returns : goal.returns
returns c =
    let w = c.loop-b in
    let a = c.args in
    sym (text_past a.form a.text.now a.s.now a.self (sym w.invariant.0 ∙ all_end a.text.now a.s.now w.b-index w.cursor (omega arith)))
