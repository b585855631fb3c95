-- The answers; the idea of the proof is at the head of the invariants.
use Rattle.std.proofs.Common.{arith, below_more}
use Rattle.rules.specs.Conflict.ConflictsLaws.{clash_below, clash_off, clash_other_off, clash_here, clash-not, partner_found, partner_none}
use Rattle.rules.proofs.passages.partner.Goals as goal
use Rattle.rules.proofs.passages.partner.Goals.{else-y-ne0-via-then-y-ne0+else-neither, else-y-ne0-via-else-y-ne0}

pub returns-then-x-eq0 : goal.returns-then-x-eq0
returns-then-x-eq0 c = partner_none _ _ _ _ _ _ (λ k _. clash_off _ _ _ _ _ k _ c.passage_of-x.ensures c.if-x-eq0.true)

pub loop-j-init : goal.loop-j-init
loop-j-init c = λ k l. clash_below _ _ _ _ _ k (omega arith)

pub returns-then-neither : goal.returns-then-neither
returns-then-neither c =
    let x = c.passage_of-x.ensures in
    let y = c.passage_of-y.ensures in
    let here = clash_here _ _ _ _ _ _ _ _ _ x y c.neither.ensures c.if-neither.true (omega arith) c.if-x-eq0.false
    c.if-y-ne0.true in
    partner_found _ _ _ _ _ _ _ (omega arith) here c.loop-j.invariant

pub loop-j-preserved : goal.loop-j-preserved
loop-j-preserved c =
    let x = c.passage_of-x.ensures in
    let y = c.passage_of-y.ensures in
    below_more _ _ c.loop-j.invariant
    (elim c.else-y-ne0.branch [
      | else-y-ne0-via-then-y-ne0+else-neither w ↦ clash-not _ _ _ _ _ _ _ _ _ x y w.neither.ensures w.if-neither.false
      | else-y-ne0-via-else-y-ne0 w ↦ clash_other_off _ _ _ _ _ _ _ y w.if-y-ne0.false
    ])

pub returns : goal.returns
returns c = partner_none _ _ _ _ _ _ (λ k l. c.loop-j.invariant k (omega arith))
