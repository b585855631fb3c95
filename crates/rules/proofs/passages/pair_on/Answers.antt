-- The answers; the idea of the proof is at the head of the invariants.
use Rattle.std.proofs.Common.{sym, ◌∙◌, arith}
use Rattle.rules.specs.Conflict.ConflictsLaws.{conflict_start, pair-on, pair_found, pair_none}
use Rattle.rules.proofs.passages.pair_on.Goals as goal

pub loop-i-init : goal.loop-i-init
loop-i-init c = conflict_start _

pub returns-in-Some : goal.returns-in-Some
returns-in-Some c =
    let w = c.loop-i in
    pair_found _ _ _ _ _ _ _ (omega arith) w.invariant (sym c.partner.ensures ∙ c.in-Some.is)

pub loop-i-preserved : goal.loop-i-preserved
loop-i-preserved c =
    let w = c.loop-i in
    pair-on _ _ _ _ _ _ w.invariant (sym c.partner.ensures ∙ c.in_default.is)

pub returns : goal.returns
returns c = pair_none _ _ _ _ _ _ (omega arith) c.loop-i.invariant
